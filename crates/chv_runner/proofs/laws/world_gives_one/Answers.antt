use Rattle.chv_runner.proofs.AnswerLemmas.{world_gives_one}
use Rattle.chv_runner.proofs.laws.world_gives_one.Goals as goal

pub returns : goal.returns
returns c = world_gives_one
