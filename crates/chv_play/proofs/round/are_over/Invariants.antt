use Rattle.std.proofs.Common.{take}
use Rattle.chv_play.specs.Played.{AreOver}
use Rattle.chv_play.proofs.round.are_over.Given as goal

abbrev pub invariant-loop-seat : goal.invariant-loop-seat
invariant-loop-seat l = AreOver (take l.seat-index l.seats)
