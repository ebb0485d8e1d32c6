use Rattle.chv_runner.proofs.SealedLemmas.{sealed_tells}
use Rattle.chv_runner.proofs.laws.sealed_tells.Goals as goal

pub returns : goal.returns
returns c = sealed_tells
