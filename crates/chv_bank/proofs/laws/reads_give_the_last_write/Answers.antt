use Rattle.chv_bank.proofs.ByteLaws.{reads_last}
use Rattle.chv_bank.proofs.laws.reads_give_the_last_write.Goals as goal

pub returns : goal.returns
returns c = reads_last
