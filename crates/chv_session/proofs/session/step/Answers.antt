use Rattle.std.proofs.Common.{◌∙◌, refl, inl, inr, arith}
use Rattle.chv_session.specs.declared.state.State.TheVariants as state
use Rattle.chv_session.specs.Talk.{talk_of}
use Rattle.chv_session.specs.Moment.{moment}
use Rattle.chv_session.proofs.ResultLemmas.{on_err}
use Rattle.chv_session.proofs.StepLemmas.{turn_is, step_is}
use Rattle.chv_session.proofs.BreaksLemmas.{breaks_taking, breaks_making, breaks_sending, breaks_ending, closes_ending}
use Rattle.chv_session.proofs.AskedLemmas.{asked_join}
use Rattle.chv_session.proofs.DrainLemmas.{ends_at_fault, drains_is}
use Rattle.chv_session.proofs.CountsLemmas.{found_and_sent, finished_so, no_fault_stays}
use Rattle.chv_session.proofs.session.step.Goals as goal

pub returns-in_err-found-clause-err : goal.returns-in_err-found-clause-err
returns-in_err-found-clause-err g c =
    on_err _ _ (breaks_taking (moment (talk_of _ _ _ state.Open) _ _ _ _ _) (moment (talk_of _ _ _ state.Lost) _ _ _ _ _) _
    c.fill.ensures.taken.grows refl refl c.fill.ensures.leaves.put_stays)

pub returns-in_err-response-clause-err : goal.returns-in_err-response-clause-err
returns-in_err-response-clause-err g c =
    on_err _ _ (breaks_making (moment (talk_of _ _ _ state.Open) _ _ _ _ _) (moment (talk_of _ _ _ state.Lost) _ _ _ _ _) _
    c.in_ok-found.ensures.found c.in_err-response.ensures.err refl c.fill.ensures.leaves.put_stays)

pub returns-in_err-then-clause-err : goal.returns-in_err-then-clause-err
returns-in_err-then-clause-err g c =
    on_err _ _ (breaks_sending (moment (talk_of _ _ _ state.Open) _ _ _ _ _) (moment (talk_of _ _ _ state.Lost) _ _ _ _ _) _ _ _
    c.in_ok-found.ensures.found c.in_ok-response.ensures.responds c.in_err-then.ensures.err_replied
    (c.in_err-then.ensures.err_written ∙ c.fill.ensures.leaves.put_stays))

pub returns-in_err-stands-clause-err : goal.returns-in_err-stands-clause-err
returns-in_err-stands-clause-err g c =
    let turn = turn_is _ _ _ (moment (talk_of _ _ _ state.Open) _ _ _ _ _) (moment (talk_of _ _ _ state.Open) _ _ _ _ _)
    c.in_ok-found.ensures.found c.is_empty.ensures _ c.in_ok-found.ensures.cause
    (omega (arith, c.send.ensures.leaves.later, c.finish.ensures.stays.read_stays)) c.in_ok-response.ensures.responds
    c.fill.ensures.leaves.put_stays c.finish.ensures.stays.put_stays _ _ c.fill.ensures.leaves.later
    (omega (arith, c.finish.ensures.stays.written_stays)) c.in_ok-then.ensures.sends in
    on_err _ _ (breaks_ending _ _ _ turn c.in_err-stands.ensures.err_end c.in_err-stands.ensures.err)

pub returns-in_err-found-clause-err_closes : goal.returns-in_err-found-clause-err_closes
returns-in_err-found-clause-err_closes g c =
    on_err _ _ (inl (c.fill.ensures.leaves.closed_stays, c.fill.ensures.leaves.put_stays))

pub returns-in_err-response-clause-err_closes : goal.returns-in_err-response-clause-err_closes
returns-in_err-response-clause-err_closes g c =
    on_err _ _ (inl (c.fill.ensures.leaves.closed_stays, c.fill.ensures.leaves.put_stays))

pub returns-in_err-then-clause-err_closes : goal.returns-in_err-then-clause-err_closes
returns-in_err-then-clause-err_closes g c =
    on_err _ _ (inl (
      c.send.ensures.leaves.closed_stays ∙ c.fill.ensures.leaves.closed_stays,
      c.in_err-then.ensures.err_written ∙ c.fill.ensures.leaves.put_stays,
    ))

pub returns-in_err-stands-clause-err_closes : goal.returns-in_err-stands-clause-err_closes
returns-in_err-stands-clause-err_closes g c =
    let turn = turn_is _ _ _ (moment (talk_of _ _ _ state.Open) _ _ _ _ _) (moment (talk_of _ _ _ state.Open) _ _ _ _ _)
    c.in_ok-found.ensures.found c.is_empty.ensures _ c.in_ok-found.ensures.cause
    (omega (arith, c.send.ensures.leaves.later, c.finish.ensures.stays.read_stays)) c.in_ok-response.ensures.responds
    c.fill.ensures.leaves.put_stays c.finish.ensures.stays.put_stays _ _ c.fill.ensures.leaves.later
    (omega (arith, c.finish.ensures.stays.written_stays)) c.in_ok-then.ensures.sends in
    on_err _ _ (inr (c.in_err-stands.ensures.err_closed, closes_ending _ _ _ turn c.in_err-stands.ensures.err_end c.in_err-stands.ensures.err))

pub returns-clause-step : goal.returns-clause-step
returns-clause-step g c =
    let turn = turn_is _ _ _ (moment (talk_of _ _ _ state.Open) _ _ _ _ _) (moment (talk_of _ _ _ state.Open) _ _ _ _ _)
    c.in_ok-found.ensures.found c.is_empty.ensures _ c.in_ok-found.ensures.cause
    (omega (arith, c.send.ensures.leaves.later, c.finish.ensures.stays.read_stays)) c.in_ok-response.ensures.responds
    c.fill.ensures.leaves.put_stays c.finish.ensures.stays.put_stays _ _ c.fill.ensures.leaves.later
    (omega (arith, c.finish.ensures.stays.written_stays)) c.in_ok-then.ensures.sends in
    step_is _ _ _ _ turn c.in_ok-stands.ensures.finishes

pub returns-in_err-stands-clause-asked : goal.returns-in_err-stands-clause-asked
returns-in_err-stands-clause-asked g c = asked_join _ _ _ _ c.respond.ensures.asked c.finish.ensures.asked

pub returns-clause-asked : goal.returns-clause-asked
returns-clause-asked g c = asked_join _ _ _ _ c.respond.ensures.asked c.finish.ensures.asked

pub returns-clause-drains : goal.returns-clause-drains
returns-clause-drains g c =
    drains_is _ _ _ _ _ c.in_ok-found.ensures.found (c.finish.ensures.stays.left_stays ∙ c.send.ensures.leaves.left_stays)
    c.in_ok-found.ensures.drained _ _ _ c.in_ok-found.ensures.cause
    (omega (arith, c.send.ensures.leaves.later, c.finish.ensures.stays.read_stays)) _ _ _ _ _ _
    (ends_at_fault _ _ _ _ _ _ c.in_ok-response.ensures.responds.2 _ _ _ c.in_ok-then.ensures.sends) c.in_ok-stands.ensures.finishes

pub returns-clause-faultless : goal.returns-clause-faultless
returns-clause-faultless g c =
    finished_so _ _ _ _ _ _ _
    (rw (c.finish.ensures.stays.read_stays, c.finish.ensures.stays.written_stays)
    (found_and_sent _ _ c.in_ok-found.ensures.counts
    (ends_at_fault _ _ _ _ _ _ c.in_ok-response.ensures.responds.2 _ _ _ c.in_ok-then.ensures.sends) c.in_ok-then.ensures.counts))
    c.in_ok-stands.ensures.finishes

pub returns-in_err-response-clause-err_faultless : goal.returns-in_err-response-clause-err_faultless
returns-in_err-response-clause-err_faultless g c =
    on_err _ _ (inl (no_fault_stays _ _ c.in_err-response.ensures.err_found c.in_ok-found.ensures.counts))
