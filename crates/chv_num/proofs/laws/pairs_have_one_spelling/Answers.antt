use Rattle.std.proofs.Common.{arith}
use Rattle.chv_num.proofs.PairSpelling.{pairs_read_back, pairs_one_spelling}
use Rattle.chv_num.proofs.laws.pairs_have_one_spelling.Goals as goal

pub returns-clause-read_back : goal.returns-clause-read_back
returns-clause-read_back c = pairs_read_back _ (λ i. omega (arith, c.type_inv.bytes i))

pub returns-clause-one : goal.returns-clause-one
returns-clause-one c = pairs_one_spelling _ _
