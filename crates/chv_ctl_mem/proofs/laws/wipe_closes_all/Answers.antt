use Rattle.chv_ctl_mem.proofs.OpenBlocks.{wipe-closes}
use Rattle.chv_ctl_mem.proofs.laws.wipe_closes_all.Goals as goal

pub returns : goal.returns
returns c = wipe-closes
