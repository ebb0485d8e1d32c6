use Rattle.std.proofs.Common.{arith}
use Rattle.chv_set.proofs.Members.{count_of-from, length-filter-le}
use Rattle.chv_set.proofs.block_set.BlockSet.count.Goals as goal

pub overflow_cast-result : goal.overflow_cast-result
overflow_cast-result c = grind (arith, length-filter-le)

pub returns : goal.returns
returns c = grind (arith, count_of-from)
