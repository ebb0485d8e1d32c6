use Rattle.chv_vcpu.proofs.LabelLemmas.{NoneBefore}
use Rattle.chv_vcpu.proofs.moves.label_place.Given as goal

-- none of the lines that were passed is the label
abbrev pub invariant-loop-i : goal.invariant-loop-i
invariant-loop-i l = NoneBefore l.script l.name l.i
