use Rattle.std.proofs.Common.{rules, ◌∷◌, Some, None, sym, ap, ◌∙◌, subst}
use Rattle.atomic_table.specs.Table.{rest}
use Rattle.chv_book.specs.TicketSteps.{MayPass}
use Rattle.chv_book.proofs.EndsTurn.{pass}
use Rattle.chv_book.proofs.TurnsTold.{may_pass}
use Rattle.chv_book.proofs.book.Book.end_turn.Goals as goal

pub exchange-requires : goal.exchange-requires
exchange-requires g c =
    let e = c.into_parts-value.ensures.empty in
    (search rules, (None, e ∙ ap (λ l. (0, None) ∷ l) (sym (ap rest e))))

pub fetch_add-requires : goal.fetch_add-requires
fetch_add-requires g c =
    let k = g.V.Kept in
    let put = c.exchange.ensures.3 in
    let t = c.into_parts-value.ensures in
    let r = c.requires in
    let v = c.into_parts-value.result.0 in (
      search rules,
      search rules,
      pass g.V.Entry.HistoryEntry.made_by k.history k.side k.origin g.V.Entry.HistoryEntry.is_still _ _ c.exchange.new.seat.me v
          (ap (λ m. m.0.stage) put ∙ t.serves)
          (ap (λ m. m.1) put ∙ ap (λ l. (0, Some v) ∷ l) (ap rest t.empty))
          (subst (λ w. MayPass g.V.Entry.HistoryEntry.made_by k.history k.side k.origin g.V.Entry.HistoryEntry.is_still w v) (sym (ap (λ m. m.0) put))
          (may_pass g.V.Entry.HistoryEntry.made_by k.history k.side k.origin g.V.Entry.HistoryEntry.is_still c.args.turn _ c.into_parts-value.result.1.me.0 v t.turn r.own.0 r.own.1 r.own.2 r.origin r.may)),
    )
