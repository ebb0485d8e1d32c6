use Rattle.std.proofs.Common.{◌≡◌, true, take}
use Rattle.chv_script.proofs.FieldLemmas.{no_space}
use Rattle.chv_script.proofs.fields.next_field.Given as goal

-- no space stands in what was passed
abbrev pub invariant-loop-i : goal.invariant-loop-i
invariant-loop-i l = no_space (take l.i l.text) ≡ true
