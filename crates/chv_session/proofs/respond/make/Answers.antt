use Rattle.chv_session.proofs.DeskLemmas.{makes_settled, held_after}
use Rattle.chv_session.proofs.AskedLemmas.{asked_one, asked_join}
use Rattle.chv_session.proofs.respond.make.Goals as goal

pub settle_held-requires-clause-held : goal.settle_held-requires-clause-held
settle_held-requires-clause-held g c = held_after _ _ _ (rw c.in-Ok.is at c.in_ok-reply.ensures.answered).0

pub returns-in-Ok-clause-makes : goal.returns-in-Ok-clause-makes
returns-in-Ok-clause-makes g c =
    let answered = rw c.in-Ok.is at c.in_ok-reply.ensures.answered in
    makes_settled _ (g.T.Desk.answers c.ask.new.self) _ _ _ _ _ _ _ answered.0 answered.1 c.settle_held.ensures.settles

pub returns-in_err-reply-clause-asked : goal.returns-in_err-reply-clause-asked
returns-in_err-reply-clause-asked g c = asked_one _ _ _ _ c.ask.ensures.asked

pub returns-in-Err-clause-asked : goal.returns-in-Err-clause-asked
returns-in-Err-clause-asked g c = asked_one _ _ _ _ c.ask.ensures.asked

pub returns-in-Ok-clause-asked : goal.returns-in-Ok-clause-asked
returns-in-Ok-clause-asked g c = asked_join _ _ _ _ (asked_one _ _ _ _ c.ask.ensures.asked) c.settle_held.ensures.asked
