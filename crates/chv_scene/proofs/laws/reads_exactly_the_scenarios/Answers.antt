use Rattle.chv_scene.proofs.GrammarLemmas.{read_is_scenario}
use Rattle.chv_scene.proofs.WholeLemmas.{scenario_is_read}
use Rattle.chv_scene.proofs.laws.reads_exactly_the_scenarios.Goals as goal

pub returns : goal.returns
returns c = (read_is_scenario, scenario_is_read)
