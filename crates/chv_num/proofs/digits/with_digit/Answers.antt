use Rattle.std.proofs.Common.{rules}
use Rattle.chv_num.proofs.digits.with_digit.Goals as goal

pub returns : goal.returns
returns c = search rules
