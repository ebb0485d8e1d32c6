use Rattle.chv_session.proofs.DeskLemmas.{request_asks, serves_ok, serves_err}
use Rattle.chv_session.proofs.respond.serve.Goals as goal

pub serve_call-response-requires-clause-api : goal.serve_call-response-requires-clause-api
serve_call-response-requires-clause-api g c = request_asks _ _ _ c.in_ok-call.ensures c.in-Ok.is

pub returns-in-Ok-clause-served : goal.returns-in-Ok-clause-served
returns-in-Ok-clause-served g c = serves_ok _ _ _ _ _ _ c.in_ok-call.ensures c.in-Ok.is c.serve_call-response.ensures.served

pub returns-in-Ok-clause-err : goal.returns-in-Ok-clause-err
returns-in-Ok-clause-err g c = serves_err _ _ _ _ _ _ c.in_ok-call.ensures c.in-Ok.is c.serve_call-response.ensures.served
