use Rattle.std.proofs.Common.{rules}
use Rattle.chv_top.proofs.program.is_too_long.Goals as goal

pub returns-clause-long : goal.returns-clause-long
returns-clause-long c = search rules

pub returns-clause-short : goal.returns-clause-short
returns-clause-short c = search rules
