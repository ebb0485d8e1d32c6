use Rattle.chv_vcpu.proofs.RunLemmas.{runs_cost}
use Rattle.chv_vcpu.proofs.laws.each_costs_one.Goals as goal

pub returns : goal.returns
returns c = runs_cost
