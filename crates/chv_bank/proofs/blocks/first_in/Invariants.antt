use Rattle.std.proofs.Common.{◌≡◌}
use Rattle.std.specs.Prelude.{find}
use Rattle.chv_defs_memory.specs.BankState.{blocks_in}
use Rattle.chv_defs_memory.specs.BlockSets.{has}
use Rattle.chv_bank.proofs.Ranges.{blocks_between}
use Rattle.chv_bank.proofs.blocks.first_in.Given as goal

abbrev pub invariant-loop-block : goal.invariant-loop-block
invariant-loop-block l = find (has l.set) (blocks_in l.bank l.fn.span) ≡ find (has l.set) (blocks_between l.bank l.block l.block-end)
