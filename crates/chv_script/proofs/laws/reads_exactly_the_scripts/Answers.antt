use Rattle.chv_script.proofs.GrammarLemmas.{read_is_script, script_is_read}
use Rattle.chv_script.proofs.laws.reads_exactly_the_scripts.Goals as goal

pub returns : goal.returns
returns c = (read_is_script, script_is_read)
