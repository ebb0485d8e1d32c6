use Rattle.chv_bank.proofs.PinLaws.{pinned_left}
use Rattle.chv_bank.proofs.laws.pinned_bank_is_left.Goals as goal

pub returns : goal.returns
returns c = pinned_left
