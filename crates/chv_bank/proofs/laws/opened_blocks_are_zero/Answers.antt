use Rattle.chv_bank.proofs.ByteLaws.{opened_zero}
use Rattle.chv_bank.proofs.laws.opened_blocks_are_zero.Goals as goal

pub returns : goal.returns
returns c = opened_zero
