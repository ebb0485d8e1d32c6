use Rattle.std.proofs.Common.{◌≡◌, ◌+◌, ◌++◌, length}
use Rattle.std.specs.Vec.Iter.{into_iter_items}
use Rattle.chv_play.specs.Played.{logs_at}
use Rattle.chv_play.proofs.player.logs_of.Given as goal

abbrev pub invariant-loop-seat : goal.invariant-loop-seat
invariant-loop-seat l =
    goal.iterator-loop-seat.can_next l.seat-iterator
    × goal.iterator-loop-seat.is_finite l.seat-iterator
    × (l.logs ++ logs_at l.session (into_iter_items l.seat-iterator) ≡ logs_at 1 l.fn.seats.items)
    × (l.session + length (into_iter_items l.seat-iterator) ≡ 1 + length l.fn.seats.items)
