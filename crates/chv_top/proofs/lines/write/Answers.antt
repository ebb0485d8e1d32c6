use Rattle.std.proofs.Common.{rules}
use Rattle.chv_top.proofs.lines.write.Goals as goal

pub returns-in-Ok-clause-wrote : goal.returns-in-Ok-clause-wrote
returns-in-Ok-clause-wrote g c = search rules
