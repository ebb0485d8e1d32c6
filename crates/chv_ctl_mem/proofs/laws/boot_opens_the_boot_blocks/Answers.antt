use Rattle.chv_ctl_mem.proofs.OpenBlocks.{boot-opens}
use Rattle.chv_ctl_mem.proofs.laws.boot_opens_the_boot_blocks.Goals as goal

pub returns : goal.returns
returns c = boot-opens
