use Rattle.chv_control.proofs.OpenBlocks.{open-blocks}
use Rattle.chv_control.proofs.laws.open_are_the_boot_blocks.Goals as goal

pub returns : goal.returns
returns c = open-blocks
