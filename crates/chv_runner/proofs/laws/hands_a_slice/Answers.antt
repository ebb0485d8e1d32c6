use Rattle.chv_runner.proofs.HandLemmas.{hands_a_slice}
use Rattle.chv_runner.proofs.laws.hands_a_slice.Goals as goal

pub returns : goal.returns
returns c = hands_a_slice
