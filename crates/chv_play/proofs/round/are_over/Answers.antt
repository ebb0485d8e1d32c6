use Rattle.std.proofs.Common.{arith, rules, sym}
use Rattle.chv_play.proofs.PlayedLemmas.{still_going, over_more}
use Rattle.chv_play.proofs.round.are_over.Goals as goal

pub returns-then-not-seat-clause-over : goal.returns-then-not-seat-clause-over
returns-then-not-seat-clause-over c = search rules

pub returns-then-not-seat-clause-going : goal.returns-then-not-seat-clause-going
returns-then-not-seat-clause-going c _ =
    still_going c.loop-seat.seat-index c.args.seats.now c.seat-item.result (omega arith) (sym c.seat-item.is) c.if-not-seat.true

pub loop-seat-preserved : goal.loop-seat-preserved
loop-seat-preserved c =
    over_more c.loop-seat.seat-index c.args.seats.now c.seat-item.result (omega arith) (sym c.seat-item.is) c.if-not-seat.false c.loop-seat.invariant
