use Rattle.std.proofs.Common.{rules}
use Rattle.chv_control.proofs.made.entry.Goals as goal

pub returns : goal.returns
returns c = search rules
