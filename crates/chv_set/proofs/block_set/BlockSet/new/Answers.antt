use Rattle.std.proofs.Common.{arith}
use Rattle.chv_set.proofs.SetLists.{no_blocks-is}
use Rattle.chv_set.proofs.block_set.BlockSet.new.Goals as goal

pub returns : goal.returns
returns c = grind (arith, no_blocks-is)
