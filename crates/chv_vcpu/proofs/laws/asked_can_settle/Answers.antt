use Rattle.chv_vcpu.proofs.RunLemmas.{asked_can}
use Rattle.chv_vcpu.proofs.laws.asked_can_settle.Goals as goal

pub returns : goal.returns
returns c = asked_can
