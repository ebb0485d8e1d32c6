use Rattle.std.proofs.Common.{◌≡◌, false, take}
use Rattle.std.specs.List.{list_any}
use Rattle.chv_bank.specs.CallerPins.{has_pinned}
use Rattle.chv_bank.proofs.pins.any_rows.Given as goal

abbrev pub invariant-loop-row : goal.invariant-loop-row
invariant-loop-row l = list_any (has_pinned l.bank l.block) (take l.row-index l.rows) ≡ false
