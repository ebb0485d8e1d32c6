use Rattle.std.proofs.Common.{◌≡◌, drop}
use Rattle.std.specs.Prelude.{find}
use Rattle.chv_bank.specs.CallerPins.{has_pinned}
use Rattle.chv_bank.proofs.pins.first_caller.Given as goal

abbrev pub invariant-loop-row : goal.invariant-loop-row
invariant-loop-row l = find (has_pinned l.bank l.block) (drop l.row-index l.rows) ≡ find (has_pinned l.bank l.block) l.rows
