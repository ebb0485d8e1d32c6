use Rattle.std.proofs.Common.{arith}
use Rattle.chv_num.proofs.FieldSpelling.{field_spelled}
use Rattle.chv_num.proofs.laws.field_has_one_spelling.Goals as goal

pub returns-clause-one : goal.returns-clause-one
returns-clause-one c = field_spelled _ _ _ _ (λ i. omega (arith, c.type_inv.bytes i))
