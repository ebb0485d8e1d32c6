use Rattle.std.proofs.Common.{◌≡◌, ◌≤◌, ◌-◌, length, vec_len}
use Rattle.chv_io.specs.Outside.{Loses}
use Rattle.chv_top.proofs.input.read_input.Given as goal

abbrev pub invariant-loop-bytes : goal.invariant-loop-bytes
invariant-loop-bytes g l = record {
  moved : Loses (g.S.Source.left l.fn.input) (g.S.Source.left l.input) l.bytes.items;
  within : length l.bytes.items ≤ l.limit;
  later : g.S.Source.read_faults l.fn.input ≤ g.S.Source.read_faults l.input;
  kept : g.S.Source.read_faults l.input ≡ g.S.Source.read_faults l.fn.input;
}

abbrev pub decreases-loop-bytes : goal.decreases-loop-bytes
decreases-loop-bytes g l = l.limit - vec_len l.bytes
