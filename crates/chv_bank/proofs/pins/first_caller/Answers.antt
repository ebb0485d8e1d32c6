use Rattle.std.proofs.Common.{arith}
use Rattle.std.proofs.lemmas.Grind.{common_steps}
use Rattle.chv_bank.proofs.pins.first_caller.Goals as goal

pub returns-then-pins_block : goal.returns-then-pins_block
returns-then-pins_block c = grind (arith, common_steps)
