use Rattle.std.proofs.Common.{arith, subst}
use Rattle.chv_defs.specs.Schedule.{stream_of}
use Rattle.chv_play.specs.Played.{IsNewSeat}
use Rattle.chv_play.proofs.PlayedLemmas.{one_more_seat}
use Rattle.chv_play.proofs.player.seats_of.Goals as goal

pub loop-requests-preserved : goal.loop-requests-preserved
loop-requests-preserved c =
    one_more_seat c.args.sessions.now c.loop-requests.requests-index c.requests-item.result _ _ c.in_ok-new.field-0 (omega arith) c.requests-item.is
    c.in_ok-push.ensures.items (subst (λ requests. IsNewSeat (stream_of requests) c.in_ok-new.field-0) c.as_slice.ensures c.in_ok-new.ensures)
    c.loop-requests.invariant
