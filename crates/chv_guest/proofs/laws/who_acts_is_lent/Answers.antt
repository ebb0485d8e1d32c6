use Rattle.chv_defs_memory.proofs.ZoneLaws.{acting-lent}
use Rattle.chv_guest.proofs.laws.who_acts_is_lent.Goals as goal

pub returns : goal.returns
returns c = acting-lent
