use Rattle.chv_top.proofs.FaultLemmas.{told_at}
use Rattle.chv_top.proofs.Saying.{complete, outside}
use Rattle.chv_top.proofs.top.play_program.Goals as goal

pub returns-clause-complete : goal.returns-clause-complete
returns-clause-complete g c = complete _ (outside _ _ _ _) (outside _ _ _ _) _ c.play_input.ensures.says

pub returns-clause-done_faultless : goal.returns-clause-done_faultless
returns-clause-done_faultless g c is = told_at _ _ _ _ _ _ c.play_input.ensures.faults is

pub returns-clause-memory_faultless : goal.returns-clause-memory_faultless
returns-clause-memory_faultless g c is = told_at _ _ _ _ _ _ c.play_input.ensures.faults is
