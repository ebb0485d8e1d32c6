use Rattle.chv_runner.proofs.HandLemmas.{hand_tells}
use Rattle.chv_runner.proofs.laws.hand_tells.Goals as goal

pub returns : goal.returns
returns c = hand_tells
