use Rattle.std.proofs.Common.{◌≡◌, ℕ, ◌<◌, length}
use Rattle.std.specs.Prelude.{unwrap_or}
use Rattle.chv_defs_memory.specs.BankState.{if_named, most_blocks}
use Rattle.chv_defs_memory.specs.BlockSets.{has}
use Rattle.chv_bank.proofs.Spans.{passed}
use Rattle.chv_bank.proofs.blocks.put_blocks.Given as goal

abbrev pub invariant-loop-block : goal.invariant-loop-block
invariant-loop-block l = record {
  len : length l.set ≡ most_blocks;
  put : (k : ℕ) → k < most_blocks → has l.set k ≡ unwrap_or (if_named (passed l.bank l.fn.span.first l.block k) l.there) (has l.initial.set k);
}
