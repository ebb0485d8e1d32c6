use Rattle.chv_runner.proofs.HandLemmas.{few_calls}
use Rattle.chv_runner.proofs.laws.few_calls.Goals as goal

pub returns : goal.returns
returns c = few_calls
