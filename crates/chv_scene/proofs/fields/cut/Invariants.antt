use Rattle.std.proofs.Common.{◌≡◌, ◌++◌, take, drop}
use Rattle.chv_scene.specs.Cuts.{cut_at}
use Rattle.chv_scene.proofs.fields.cut.Given as goal

-- no such byte stands in what was passed
abbrev pub invariant-loop-i : goal.invariant-loop-i
invariant-loop-i l = record {
  before : (cut_at l.byte l.text).0 ≡ take l.i l.text ++ (cut_at l.byte (drop l.i l.text)).0;
  behind : (cut_at l.byte l.text).1 ≡ (cut_at l.byte (drop l.i l.text)).1;
}
