-- What a seat's view comes to, as a pass or a turn tells it.
use Rattle.std.proofs.Common.{◌≡◌, ◌≢◌, ℕ, List, [], ◌∷◌, ◌++◌, Option, Some, None, Bool, sym, ap, ◌∙◌, subst, subst₂}
use Rattle.atomic_table.specs.Seated.{TableId}
use Rattle.chv_book.specs.declared.view.View.{View}
use Rattle.chv_defs_book.specs.Histories.{entries_by}
use Rattle.chv_defs_book.specs.Passes.{turn_of, Begins, MayEnd, PassView, TurnView}
use Rattle.chv_book.specs.PassSeats.{held, rested}
use Rattle.chv_book.specs.TicketRule.{serving, waiting}
use Rattle.chv_book.specs.TicketSteps.{Begun, MayPass}
use Rattle.chv_defs_book.proofs.Histories.{others_new, out_new}

module _ {V E O : Type 0} (by : E → ℕ) (history : V → List E) (side : V → ℕ × ℕ) (origin : V → O) (is_still : List E → Bool) where
  -- what a turn begins with
  abbrev pub TurnBegins : PassView E O → TurnView V E O → V → Type 0
  TurnBegins p t y = (t ≡ turn_of p y (history y) (side y)) × (p.origin ≡ Some (origin y)) × Begins by is_still p (history y) (side y)

  begins_of : (p : PassView E O) (z : TableId) (v : View E O) (y : V) → p ≡ rested z p.caller v → v.caller ≡ p.caller → Begun by history side origin is_still v y → Begins by is_still p (history y) (side y)
  begins_of p z v y is num b = subst (λ (q : PassView E O). Begins by is_still q (history y) (side y)) (sym is) (record {
    more = b.front.0;
    seen = b.front.1;
    others = others_new by p.caller v.seen b.front.0 (ap (entries_by by p.caller) (sym b.front.1) ∙ subst (λ (n : ℕ). entries_by by n (history y) ≡ entries_by by n v.seen) num b.own);
    side_kept = λ e. b.side_is (num ∙ e);
    of_out = λ e. out_new by v.out v.seen b.front.0 (λ n home. ap (entries_by by n) (sym b.front.1) ∙ b.kept (num ∙ e) n home);
    home = λ e. b.quiet (num ∙ e);
    moving = λ ne. b.moving (λ e. ne (sym num ∙ e));
  })

  begun_waits : (v : View E O) (t : ℕ) (y : V) → Begun by history side origin is_still (waiting t v) y → Begun by history side origin is_still v y
  begun_waits v t y b = record { front = b.front; own = b.own; source_is = b.source_is; moving = b.moving; side_is = b.side_is; kept = b.kept; quiet = b.quiet }

  turn_is : (p : PassView E O) (z : TableId) (v v' : View E O) (ticket : ℕ) (y : V) (t : TurnView V E O) → p ≡ rested z p.caller v → v.caller ≡ p.caller → v' ≡ serving (history y) (side y) (waiting ticket v) → t ≡ held z v' y
      → t ≡ turn_of p y (history y) (side y)
  turn_is p z v v' ticket y t is num serves told =
      told ∙ (λ i. held z (serves i) y)
      ∙ (λ i. record { book = z; caller = num i; noted = history y; noted_side = side y; out = v.out; origin = v.origin; value = y })
      ∙ sym (ap (λ (q : PassView E O). turn_of q y (history y) (side y)) is)

  -- of the steps that `begin` makes: the view v draws a ticket, serves the value y, and takes x, which is y, out of the slot
  pub turn_begins : (p : PassView E O) (z z' : TableId) (v v₁ v₂ v₃ : View E O) (ticket : ℕ) (y x : V) (t : TurnView V E O) → p ≡ rested z p.caller v → v.caller ≡ p.caller → v₁ ≡ waiting ticket v
      → v₂ ≡ serving (history y) (side y) v₁ → Begun by history side origin is_still v₁ y → v₃ ≡ v₂ → y ≡ x → z' ≡ z → t ≡ held z' v₃ x → TurnBegins p t t.value
  turn_begins p z z' v v₁ v₂ v₃ ticket y x t is num e₁ e₂ b e₃ same ez told =
      let b' = begun_waits v ticket x (subst₂ (Begun by history side origin is_still) e₁ same b) in
      let serves : v₃ ≡ serving (history x) (side x) (waiting ticket v) = e₃ ∙ e₂ ∙ (λ i. serving (history (same i)) (side (same i)) (e₁ i)) in
      let t_is : t ≡ held z v₃ x = told ∙ (λ i. held (ez i) v₃ x) in
      subst (TurnBegins p t) (ap (λ (u : TurnView V E O). u.value) (sym t_is)) (turn_is p z v v₃ ticket x t is num serves t_is, ap (λ (q : PassView E O). q.origin) is ∙ b'.source_is, begins_of p z v x is num b')

  -- what a turn that may end owes of its value
  pub may_pass : (t : TurnView V E O) (z : TableId) (v : View E O) (y : V) → t ≡ held z v y → (added : List E) → history t.value ≡ t.noted ++ added → ((n : ℕ) → n ≢ t.caller → entries_by by n added ≡ [])
      → t.origin ≡ Some (origin t.value) → MayEnd by is_still t (history t.value) (side t.value) → MayPass by history side origin is_still v y
  may_pass t z v y is added long own source ends =
      let e = subst (λ (u : TurnView V E O). MayEnd by is_still u (history u.value) (side u.value)) is ends in
      record {
        added = added;
        longer_by = ap (λ (u : TurnView V E O). history u.value) (sym is) ∙ long ∙ ap (λ (u : TurnView V E O). u.noted ++ added) is;
        by_own = λ n ne. own n (λ q. ne (q ∙ ap (λ (u : TurnView V E O). u.caller) is));
        source_is = ap (λ (u : TurnView V E O). u.origin) (sym is) ∙ source ∙ ap (λ (u : TurnView V E O). Some (origin u.value)) is;
        side_is = e.side_kept;
        quiet = e.home;
      }

module _ {V : Type 0} where
  slot_or : V → List (ℕ × Option V) → V
  slot_or d [] = d
  slot_or d (x ∷ xs) = value_of x.1
    where
      value_of : Option V → V
      value_of None = d
      value_of (Some y) = y

  pub slot_value : (y z : V) (m : List (ℕ × Option V)) (r : Option V) (rs : List (ℕ × Option V)) → m ≡ (0, Some y) ∷ [] → m ≡ (0, r) ∷ rs → r ≡ Some z → y ≡ z
  unfolding slot_or
  slot_value y z m r rs e e' is = ap (slot_or y) (sym e ∙ e' ∙ ap (λ q. (0, q) ∷ rs) is)
