use Rattle.chv_script.proofs.LawLemmas.{one_spelling}
use Rattle.chv_script.proofs.laws.script_has_one_spelling.Goals as goal

pub returns : goal.returns
returns c = one_spelling
