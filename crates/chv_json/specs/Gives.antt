-- What a reader answers, beside what the body's value means.
use Rattle.std.specs.Prelude.{◌≡◌, Result, Ok, Err, alloc_error}
use Rattle.std.specs.declared.alloc.AllocError.{AllocError}
use Rattle.chv_defs_base.specs.declared.rule.Rule.{Rule}
use Rattle.chv_json.specs.declared.refused.Refused.{Refused}
use Rattle.chv_json.specs.declared.refused.Refused.TheVariants.{Memory, Broken}

-- want of memory, or the rule that the meaning names
abbrev pub Refuses : {Y : Type 0} → Refused → Result Y Rule → Type 0
Refuses Memory meaning = Unit {0}
Refuses (Broken rule) meaning = meaning ≡ Err rule

-- what a reader gives, seen by a view, is the meaning, want of memory aside
abbrev pub Gives : {X Y : Type 0} → (X → Y) → Result X Refused → Result Y Rule → Type 0
Gives view (Ok x) meaning = meaning ≡ Ok (view x)
Gives view (Err e) meaning = Refuses e meaning

-- the same, with the two kinds of refusal apart
abbrev pub answer_of : {T : Type 0} → Result T Refused → Result (Result T Rule) AllocError
answer_of (Ok x) = Ok (Ok x)
answer_of (Err Memory) = Err alloc_error
answer_of (Err (Broken rule)) = Ok (Err rule)
