use Rattle.std.proofs.Common.{rules}
use Rattle.chv_top.proofs.program.or_stop.Goals as goal

pub returns-in-Ok-Ok : goal.returns-in-Ok-Ok
returns-in-Ok-Ok g c = search rules
