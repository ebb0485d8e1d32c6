use Rattle.std.proofs.Common.{arith}
use Rattle.chv_trace.proofs.Joined.{regrouped}
use Rattle.chv_trace.proofs.replies.busy_fields.Goals as goal

pub returns-in-Some : goal.returns-in-Some
returns-in-Some c = grind (arith, regrouped)
