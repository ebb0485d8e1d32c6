use Rattle.std.proofs.Common.{arith}
use Rattle.chv_trace.proofs.Joined.{regrouped}
use Rattle.chv_trace.proofs.scene.scene_head.Goals as goal

pub returns : goal.returns
returns c = grind (arith, regrouped)
