use Rattle.chv_set.proofs.RunLists.{members-apart, ranges-together}
use Rattle.chv_set.proofs.laws.ranges_are_maximal_runs.Goals as goal

pub returns : goal.returns
returns c = record { apart = members-apart 0 c.args.set.now; together = ranges-together c.args.set.now }
