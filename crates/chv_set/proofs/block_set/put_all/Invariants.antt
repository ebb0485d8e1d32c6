use Rattle.std.proofs.Common.{◌≡◌, ℕ, ◌<◌, ◌≤◌, length}
use Rattle.chv_defs_memory.specs.BlockSets.{has}
use Rattle.chv_set.proofs.block_set.put_all.Given as goal

abbrev pub invariant-loop-block : goal.invariant-loop-block
invariant-loop-block l =
    (length l.blocks.items ≡ length l.initial.blocks.items)
    × ((k : ℕ) → l.fn.span.first ≤ k → k < l.block → has l.blocks.items k ≡ l.value)
    × ((k : ℕ) → k < l.fn.span.first → has l.blocks.items k ≡ has l.initial.blocks.items k)
    × ((k : ℕ) → l.block ≤ k → has l.blocks.items k ≡ has l.initial.blocks.items k)
