use Rattle.chv_session.proofs.DeskLemmas.{serves_made}
use Rattle.chv_session.proofs.respond.serve_call.Goals as goal

pub returns-in-Ok-clause-served : goal.returns-in-Ok-clause-served
returns-in-Ok-clause-served g c = serves_made _ _ _ _ _ _ (rw c.in-Ok.is at c.in_ok-made.ensures.makes) c.answer-response.ensures
