use Rattle.chv_scene.proofs.RefusalLemmas.{names_lowest}
use Rattle.chv_scene.proofs.laws.refusal_names_the_lowest_line.Goals as goal

pub returns : goal.returns
returns c = names_lowest
