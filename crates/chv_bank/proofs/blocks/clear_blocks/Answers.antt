use Rattle.std.proofs.Common.{rules}
use Rattle.chv_bank.proofs.blocks.clear_blocks.Goals as goal

pub loop-block-preserved : goal.loop-block-preserved
loop-block-preserved c = search rules
