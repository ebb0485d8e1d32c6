use Rattle.std.proofs.Common.{arith}
use Rattle.std.proofs.lemmas.Grind.{common_steps}
use Rattle.chv_ctl_api.proofs.Numbers.{range_with_len-more}
use Rattle.chv_ctl_api.proofs.queries.below.Goals as goal

pub loop-number-preserved : goal.loop-number-preserved
loop-number-preserved c = grind (arith, common_steps, range_with_len-more)
