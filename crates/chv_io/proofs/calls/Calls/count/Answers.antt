use Rattle.std.proofs.Common.{rules}
use Rattle.chv_io.proofs.calls.Calls.count.Goals as goal

pub returns-then-failed-clause-after : goal.returns-then-failed-clause-after
returns-then-failed-clause-after c = search rules
