use Rattle.chv_scene.proofs.OutlineLemmas.{for_first_reason}
use Rattle.chv_scene.proofs.laws.refusal_names_the_first_reason.Goals as goal

pub returns : goal.returns
returns c = for_first_reason
