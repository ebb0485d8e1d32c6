use Rattle.std.proofs.Common.{◌≡◌, ℕ, ◌<◌, ◌≤◌, false}
use Rattle.chv_defs_memory.specs.BlockSets.{has}
use Rattle.chv_set.proofs.block_set.lowest_in.Given as goal

abbrev pub invariant-loop-block : goal.invariant-loop-block
invariant-loop-block l = (k : ℕ) → l.fn.span.first ≤ k → k < l.block → has l.blocks k ≡ false
