use Rattle.std.proofs.Common.{◌≡◌, ℕ}
use Rattle.std.specs.Prelude.{unwrap_or}
use Rattle.chv_defs_memory.specs.BankState.{if_named, most_blocks}
use Rattle.chv_defs_memory.specs.PageContents.{byte_at}
use Rattle.chv_bank.proofs.Spans.{passed}
use Rattle.chv_bank.proofs.blocks.clear_blocks.Given as goal

abbrev pub invariant-loop-block : goal.invariant-loop-block
invariant-loop-block l = record {
  size : l.memory.blocks ≡ most_blocks;
  reserved : l.memory.reserved ≡ l.initial.memory.reserved;
  cleared : (k at : ℕ) → byte_at l.memory k at ≡ unwrap_or (if_named (passed l.bank l.fn.span.first l.block k) 0) (byte_at l.initial.memory k at);
}
