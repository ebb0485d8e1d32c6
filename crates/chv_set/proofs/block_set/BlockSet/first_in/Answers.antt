use Rattle.std.proofs.Common.{rules}
use Rattle.chv_set.proofs.block_set.BlockSet.first_in.Goals as goal

pub returns : goal.returns
returns c = search rules
