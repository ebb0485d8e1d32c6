use Rattle.std.proofs.Common.{rules, ◌∷◌, Some, sym, ap, ◌∙◌}
use Rattle.atomic_table.specs.Table.{rest}
use Rattle.chv_book.proofs.TakesTurn.{draw}
use Rattle.chv_book.proofs.TurnsTold.{turn_begins, slot_value, TurnBegins}
use Rattle.chv_book.proofs.book.Book.begin.Given.{Over}
use Rattle.chv_book.proofs.book.Book.begin.Goals.{After-of}
use Rattle.chv_book.proofs.book.Book.begin.Goals as goal

pub fetch_add-ticket-requires : goal.fetch_add-ticket-requires
fetch_add-ticket-requires g c =
    let k = g.V.Kept in
    let t = c.take-seat.ensures in
    (search rules, search rules, draw g.V.Entry.HistoryEntry.made_by k.history k.side k.origin g.V.Entry.HistoryEntry.is_still _ _ c.take-seat.result.me t.idle t.empty)

pub exchange-requires : goal.exchange-requires
exchange-requires g c =
    let t = c.await_turn.ensures.turn in
    let e = ap (λ m. m.1) t.1 in
    (search rules, (Some t.0, e ∙ ap (λ l. (0, Some t.0) ∷ l) (sym (ap rest e))))

-- what the three clauses about the turn say
begun : (g : Over) (c : After-of g) → TurnBegins g.V.Entry.HistoryEntry.made_by g.V.Kept.history g.V.Kept.side g.V.Kept.origin g.V.Entry.HistoryEntry.is_still c.args.pass.now c.of.result c.of.result.value
begun g c =
    let k = g.V.Kept in
    let t = c.take-seat.ensures in
    let d = c.fetch_add-ticket.ensures in
    let w = c.await_turn.ensures.turn in
    let x = c.exchange.ensures in
    turn_begins g.V.Entry.HistoryEntry.made_by k.history k.side k.origin g.V.Entry.HistoryEntry.is_still c.args.pass.now _ _ c.take-seat.result.me.0 _ _ _ d.2.0 w.0 c.in-Some.value c.of.result t.pass t.caller d.2.2 (ap (λ m. m.0) w.1) w.2 (ap (λ m. m.0) x.3)
    (slot_value w.0 c.in-Some.value c.await_turn.new.seat.me.1 c.exchange.result _ (ap (λ m. m.1) w.1) x.2 c.in-Some.is) (x.0 ∙ c.await_turn.ensures.book ∙ d.0) c.of.ensures

pub returns-clause-turn : goal.returns-clause-turn
returns-clause-turn g c = (begun g (goal.at.returns-clause-turn g c).After-of).0

pub returns-clause-origin : goal.returns-clause-origin
returns-clause-origin g c = (begun g (goal.at.returns-clause-origin g c).After-of).1

pub returns-clause-value : goal.returns-clause-value
returns-clause-value g c = (begun g (goal.at.returns-clause-value g c).After-of).2
