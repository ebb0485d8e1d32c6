use Rattle.std.proofs.Common.{◌≡◌, length}
use Rattle.chv_defs_base.specs.Numbers.{bytes_in}
use Rattle.chv_num.proofs.Front.{with_front}
use Rattle.chv_num.proofs.pairs.bytes_in.Given as goal

abbrev pub invariant-loop-rest : goal.invariant-loop-rest
invariant-loop-rest l = with_front l.bytes.items (bytes_in l.rest) ≡ bytes_in l.text

abbrev pub decreases-loop-rest : goal.decreases-loop-rest
decreases-loop-rest l = length l.rest
