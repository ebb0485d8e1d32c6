use Rattle.std.proofs.Common.{◌≡◌, false, take}
use Rattle.std.specs.List.{list_any}
use Rattle.chv_defs_memory.specs.BankState.{pins_block}
use Rattle.chv_bank.proofs.pins.any_pins.Given as goal

abbrev pub invariant-loop-pin : goal.invariant-loop-pin
invariant-loop-pin l = list_any (pins_block l.bank l.block) (take l.pin-index l.pins) ≡ false
