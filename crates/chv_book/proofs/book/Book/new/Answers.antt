use Rattle.std.proofs.Common.{rules, [], ◌∷◌, length, Some, None, refl, sym, ap, ◌∙◌, subst}
use Rattle.atomic_table.specs.Table.{rest}
use Rattle.chv_book.specs.TicketSteps.{MayPass}
use Rattle.chv_book.proofs.EndsTurn.{begins, open_book, pass}
use Rattle.chv_book.proofs.book.Book.new.Goals as goal

pub vacant-requires : goal.vacant-requires
vacant-requires g c =
    let k = g.V.Kept in
    begins g.V.Entry.HistoryEntry.made_by k.history k.side k.origin g.V.Entry.HistoryEntry.is_still _ (record { count = refl; drawn_is = refl; served_is = refl })

pub compare_exchange_with-requires : goal.compare_exchange_with-requires
compare_exchange_with-requires g c =
    let k = g.V.Kept in
    let me = c.in-Ok.ensures.4 in
    (search rules, search rules, open_book g.V.Entry.HistoryEntry.made_by k.history k.side k.origin g.V.Entry.HistoryEntry.is_still _ _ c.in-Ok.made.1.me c.args.value _ refl (ap (λ m. m.0) me) (ap (λ m. m.1) me))

pub exchange-requires : goal.exchange-requires
exchange-requires g c =
    let did = c.compare_exchange_with.ensures.2 c.args.value refl in
    (search rules, (None, did.1 ∙ ap (λ l. (0, None) ∷ l) (sym (ap rest did.1))))

pub unreachable-requires : goal.unreachable-requires
unreachable-requires g c =
    let did = c.compare_exchange_with.ensures.2 c.args.value refl in
    search rules

pub fetch_add-requires : goal.fetch_add-requires
fetch_add-requires g c =
    let k = g.V.Kept in
    let did = c.compare_exchange_with.ensures.2 c.args.value refl in
    let put = c.exchange.ensures.3 in
    let v = c.args.value in (
      search rules,
      search rules,
      pass g.V.Entry.HistoryEntry.made_by k.history k.side k.origin g.V.Entry.HistoryEntry.is_still _ _ c.exchange.new.seat.me v
          (ap (λ m. m.0.stage) put ∙ ap (λ w. w.stage) did.0)
          (ap (λ m. m.1) put ∙ ap (λ l. (0, Some v) ∷ l) (ap rest did.1))
          (subst (λ w. MayPass g.V.Entry.HistoryEntry.made_by k.history k.side k.origin g.V.Entry.HistoryEntry.is_still w v) (sym (ap (λ m. m.0) put ∙ did.0))
          (record { added = []; longer_by = c.requires; by_own = λ _ _. refl; source_is = refl; side_is = λ _. refl; quiet = λ _ _. refl })),
    )

pub of-requires-clause-empty : goal.of-requires-clause-empty
of-requires-clause-empty g c =
    let did = c.compare_exchange_with.ensures.2 c.args.value refl in
    let put = c.exchange.ensures.3 in
    (c.fetch_add.ensures.2 c.args.value (ap (λ m. m.1) put ∙ ap (λ l. (0, Some c.args.value) ∷ l) (ap rest did.1))).1

pub of-requires-clause-rests : goal.of-requires-clause-rests
of-requires-clause-rests g c =
    let did = c.compare_exchange_with.ensures.2 c.args.value refl in
    let put = c.exchange.ensures.3 in
    let now = (c.fetch_add.ensures.2 c.args.value (ap (λ m. m.1) put ∙ ap (λ l. (0, Some c.args.value) ∷ l) (ap rest did.1))).0 in
    record { idle = ap (λ w. w.stage) now; caller_is = ap (λ w. w.caller) now ∙ ap (λ m. m.0.caller) put ∙ ap (λ w. w.caller) did.0; count_is = ap (λ w. length w.seen) now ∙ ap length c.requires }
