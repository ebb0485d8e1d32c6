use Rattle.chv_bank.proofs.PinLaws.{pinned_open}
use Rattle.chv_bank.proofs.laws.pinned_blocks_stay_open.Goals as goal

pub returns : goal.returns
returns c = pinned_open
