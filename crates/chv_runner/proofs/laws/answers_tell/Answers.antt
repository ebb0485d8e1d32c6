use Rattle.chv_runner.proofs.AnswerLemmas.{answers_tell}
use Rattle.chv_runner.proofs.laws.answers_tell.Goals as goal

pub returns : goal.returns
returns c = answers_tell
