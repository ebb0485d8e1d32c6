use Rattle.chv_top.proofs.FaultLemmas.{read_well, stopped_so}
use Rattle.chv_top.proofs.Saying.{outside, says_scene, says_stop}
use Rattle.chv_top.proofs.program.play_input.Goals as goal

pub returns-in-Ok-clause-says : goal.returns-in-Ok-clause-says
returns-in-Ok-clause-says g c = says_scene _ (outside _ _ _ _) (outside _ _ _ _) c.in-Ok.scene _ c.in-Ok.ensures.ok c.play_scene.ensures.reports

pub returns-in-Err-clause-says : goal.returns-in-Err-clause-says
returns-in-Err-clause-says g c = says_stop _ (outside _ _ _ _) (outside _ _ _ _) c.in-Err.stop _ c.in-Err.ensures.err c.say.ensures.said

pub returns-in-Ok-clause-faults : goal.returns-in-Ok-clause-faults
returns-in-Ok-clause-faults g c = read_well _ c.in-Ok.ensures.kept c.play_scene.ensures.kept

pub returns-in-Err-clause-faults : goal.returns-in-Err-clause-faults
returns-in-Err-clause-faults g c = stopped_so _ _ _ _ _ _ c.in-Err.stop _ c.in-Err.ensures.counts c.say.ensures.said c.say.ensures.kept
