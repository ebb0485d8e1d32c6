use Rattle.std.proofs.Common.{rules, ap, ◌∙◌}
use Rattle.chv_book.proofs.TakesTurn.{look}
use Rattle.chv_book.proofs.book.Book.await_turn.Goals as goal

pub load-requires : goal.load-requires
load-requires g c =
    let k = g.V.Kept in
    let same = c.loop.invariant.1 in
    let w = c.requires.waits in
    (search rules, search rules, look g.V.Entry.HistoryEntry.made_by k.history k.side k.origin g.V.Entry.HistoryEntry.is_still _ _ c.loop.seat.me (ap (λ m. m.0.stage) same ∙ w.0) (ap (λ m. m.1) same ∙ w.1))
