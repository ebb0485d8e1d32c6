use Rattle.chv_bank.proofs.ByteLaws.{closed_unreached}
use Rattle.chv_bank.proofs.laws.closed_blocks_are_not_reached.Goals as goal

pub returns : goal.returns
returns c = closed_unreached
