use Rattle.std.proofs.Common.{◌≡◌, Some, sym, ap, ◌∙◌}
use mathlib.Core.Option.{some-injective}
use Rattle.chv_book.proofs.Seats.{closes, same_value, not_none}
use Rattle.chv_book.proofs.book.Book.close.Given.{Over}
use Rattle.chv_book.proofs.book.Book.close.Goals.{In-Some}
use Rattle.chv_book.proofs.book.Book.close.Goals as goal

pub unreachable-requires : goal.unreachable-requires
unreachable-requires g c =
    let s = c.into_seat-seat.ensures in
    let last = closes g.V.Entry.HistoryEntry.made_by g.V.Kept.history g.V.Kept.side g.V.Kept.origin g.V.Entry.HistoryEntry.is_still _ c.into_seat-seat.result.me.0 _ _ s.idle (s.caller ∙ c.requires.first) (ap (λ p. p.out) (sym s.pass) ∙ c.requires.alone) c.close_with-closed.ensures.values.2 in
    not_none last.0 (sym c.in_default.is ∙ some-injective _ _ (sym c.take-value.ensures.value ∙ last.1))

-- what the three clauses say, which stand in the arm of the value
gives_last : (g : Over) (c : In-Some g) → (g.V.Kept.history c.in-Some.value ≡ c.args.pass.seen) × (g.V.Kept.side c.in-Some.value ≡ c.args.pass.side) × (Some (g.V.Kept.origin c.in-Some.value) ≡ c.args.pass.origin)
gives_last g c =
    let k = g.V.Kept in
    let s = c.into_seat-seat.ensures in
    let last = closes g.V.Entry.HistoryEntry.made_by k.history k.side k.origin g.V.Entry.HistoryEntry.is_still _ c.into_seat-seat.result.me.0 _ _ s.idle (s.caller ∙ c.requires.first) (ap (λ p. p.out) (sym s.pass) ∙ c.requires.alone) c.close_with-closed.ensures.values.2 in
    let is = same_value c.in-Some.value last.0 (sym c.in-Some.is ∙ some-injective _ _ (sym c.take-value.ensures.value ∙ last.1)) in
    (ap k.history is ∙ last.2 ∙ ap (λ p. p.seen) (sym s.pass), ap k.side is ∙ last.3 ∙ ap (λ p. p.side) (sym s.pass), ap (λ y. Some (k.origin y)) is ∙ sym (ap (λ p. p.origin) s.pass ∙ last.4))

pub returns-clause-history : goal.returns-clause-history
returns-clause-history g c = (gives_last g (goal.at.returns-clause-history g c).In-Some).0

pub returns-clause-side : goal.returns-clause-side
returns-clause-side g c = (gives_last g (goal.at.returns-clause-side g c).In-Some).1

pub returns-clause-origin : goal.returns-clause-origin
returns-clause-origin g c = (gives_last g (goal.at.returns-clause-origin g c).In-Some).2
