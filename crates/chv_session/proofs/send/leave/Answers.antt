use Rattle.chv_session.proofs.AskedLemmas.{asked_one}
use Rattle.chv_session.proofs.DeskLemmas.{leaves_by}
use Rattle.chv_session.proofs.send.leave.Goals as goal

pub returns-clause-leaves : goal.returns-clause-leaves
returns-clause-leaves g c =
    leaves_by _ _ _ _ _ _ _ c.end_by.ensures c.in_ok-answer.ensures.answered c.in_ok-answer.ensures.halted

pub returns-in_err-answer-clause-asked : goal.returns-in_err-answer-clause-asked
returns-in_err-answer-clause-asked g c = asked_one _ _ _ _ c.ask.ensures.asked

pub returns-clause-asked : goal.returns-clause-asked
returns-clause-asked g c = asked_one _ _ _ _ c.ask.ensures.asked
