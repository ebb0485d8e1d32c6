use Rattle.std.proofs.Common.{◌≡◌}
use Rattle.std.specs.Prelude.{find}
use Rattle.std.specs.List.{list_any}
use Rattle.chv_defs_memory.specs.BankState.{blocks_in}
use Rattle.chv_bank.specs.CallerPins.{has_pinned}
use Rattle.chv_bank.proofs.Ranges.{blocks_between}
use Rattle.chv_bank.proofs.blocks.first_pinned.Given as goal

abbrev pub invariant-loop-block : goal.invariant-loop-block
invariant-loop-block l = find (λ block. list_any (has_pinned l.bank block) l.pins) (blocks_in l.bank l.fn.span) ≡ find (λ block. list_any (has_pinned l.bank block) l.pins) (blocks_between l.bank l.block l.block-end)
