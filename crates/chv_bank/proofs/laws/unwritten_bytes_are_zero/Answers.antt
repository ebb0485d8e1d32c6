use Rattle.chv_bank.proofs.UnwrittenBytes.{unwritten_zero}
use Rattle.chv_bank.proofs.laws.unwritten_bytes_are_zero.Goals as goal

pub returns : goal.returns
returns c = unwritten_zero
