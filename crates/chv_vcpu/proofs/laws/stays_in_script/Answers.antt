use Rattle.chv_vcpu.proofs.RunLemmas.{stays}
use Rattle.chv_vcpu.proofs.laws.stays_in_script.Goals as goal

pub returns : goal.returns
returns c = stays
