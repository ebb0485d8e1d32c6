use Rattle.std.proofs.Common.{rules, ap, ◌∙◌}
use Rattle.chv_book.proofs.Seats.{joins, settle}
use Rattle.chv_book.proofs.book.Book.end.Goals as goal

pub join_seat-requires : goal.join_seat-requires
join_seat-requires g c =
    let k = g.V.Kept in
    let t = c.take-seat.ensures in
    let u = c.into_seat.ensures in (
      search rules,
      search rules,
      search rules,
      search rules,
      joins g.V.Entry.HistoryEntry.made_by k.history k.side k.origin g.V.Entry.HistoryEntry.is_still _ c.take-seat.result.me.0 _ c.into_seat.result.me.0 t.idle (t.caller ∙ c.requires.first) u.idle,
    )

pub load-requires : goal.load-requires
load-requires g c =
    let k = g.V.Kept in
    let t = c.take-seat.ensures in
    let j = c.join_seat.ensures.2 in
    (search rules, search rules, settle g.V.Entry.HistoryEntry.made_by k.history k.side k.origin g.V.Entry.HistoryEntry.is_still _ _ c.join_seat.new.seat.me (ap (λ m. m.0.stage) j) (ap (λ m. m.1) j ∙ t.empty))
