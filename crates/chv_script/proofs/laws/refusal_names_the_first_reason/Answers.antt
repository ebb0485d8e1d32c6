use Rattle.chv_script.proofs.ReasonLemmas.{names_first_reason}
use Rattle.chv_script.proofs.laws.refusal_names_the_first_reason.Goals as goal

pub returns : goal.returns
returns c = names_first_reason
