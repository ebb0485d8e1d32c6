use Rattle.std.proofs.Common.{◌∙◌, ◌+◌, flat_map, drop, arith}
use Rattle.chv_defs.specs.TraceText.{session_part}
use Rattle.chv_trace.proofs.Joined.{flat_map_next, flat_map_rest}
use Rattle.chv_trace.proofs.Putting.{next_added, next_broken}
use Rattle.chv_trace.proofs.sessions.push_sessions.Goals as goal

pub returns-in_err-push_session-clause-part : goal.returns-in_err-push_session-clause-part
returns-in_err-push_session-clause-part g c =
    next_broken _ c.loop-session.invariant.added c.in_err-push_session.ensures.part (flat_map session_part (drop (c.loop-session.session-index + 1) c.args.sessions.now)) _
    (flat_map_rest session_part c.args.sessions.now c.loop-session.session-index _ c.session-item.result c.loop-session-test.true c.session-item.is)

pub loop-session-preserved : goal.loop-session-preserved
loop-session-preserved g c = record {
  added = next_added c.loop-session.invariant.added c.in_ok-push_session.ensures.ok _ (flat_map_next session_part c.args.sessions.now c.loop-session.session-index _ c.session-item.result c.loop-session-test.true c.session-item.is);
  later = omega (arith, c.in_ok-push_session.ensures.later, c.loop-session.invariant.later);
  kept = c.in_ok-push_session.ensures.kept ∙ c.loop-session.invariant.kept;
}
