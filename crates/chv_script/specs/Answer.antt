-- What the reader answers, in the words of the definitions.
use Rattle.std.specs.Prelude.{◌≡◌, Result, Ok, Err}
use Rattle.chv_defs_base.specs.declared.rule.Reason.{Reason}
use Rattle.chv_script.specs.declared.stop.Stop.{Stop}
use Rattle.chv_script.specs.declared.stop.Stop.TheVariants as stop

-- a line that is not read is refused for this reason, unless memory is out
abbrev pub Fails : {Y : Type 0} → Stop → Result Y Reason → Type 0
Fails stop.Memory read = Unit {0}
Fails (stop.Refused reason) read = read ≡ Err reason

-- what a function returned, seen by view, is what reading gives, unless memory is out
abbrev pub Gives : {X Y : Type 0} → (X → Y) → Result X Stop → Result Y Reason → Type 0
Gives view (Ok x) read = read ≡ Ok (view x)
Gives view (Err e) read = Fails e read
