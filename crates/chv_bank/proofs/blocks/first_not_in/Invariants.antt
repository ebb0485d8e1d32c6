use Rattle.std.proofs.Common.{◌≡◌}
use Rattle.std.specs.Prelude.{find, not}
use Rattle.chv_defs_memory.specs.BankState.{blocks_in}
use Rattle.chv_defs_memory.specs.BlockSets.{has}
use Rattle.chv_bank.proofs.Ranges.{blocks_between}
use Rattle.chv_bank.proofs.blocks.first_not_in.Given as goal

abbrev pub invariant-loop-block : goal.invariant-loop-block
invariant-loop-block l = find (λ block. not (has l.set block)) (blocks_in l.bank l.fn.span) ≡ find (λ block. not (has l.set block)) (blocks_between l.bank l.block l.block-end)
