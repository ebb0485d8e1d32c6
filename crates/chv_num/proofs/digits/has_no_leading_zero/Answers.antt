use Rattle.std.proofs.Common.{rules}
use Rattle.chv_num.proofs.digits.has_no_leading_zero.Goals as goal

pub returns-else-text-eq1 : goal.returns-else-text-eq1
returns-else-text-eq1 c = search rules
