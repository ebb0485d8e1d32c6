-- What one changed view leaves of the rule.
use Rattle.std.proofs.Common.{◌≡◌, ◌≢◌, ◌⊎◌, ℕ, zero, suc, ◌+◌, ◌-◌, ◌%◌, ◌^◌, ◌<◌, ◌≤◌, List, [], ◌∷◌, length, set, Option, Some, Bool, true, false, true≢false, eqb, cond, refl, sym, ap, ◌∙◌, subst, ⊎_elim, inl, inr, arith, eq-eqb, ne_eqb}
use mathlib.Core.Option.{some, some-injective, some-ne-none}
use mathlib.Core.Option as maybe
use mathlib.Core.Logic.{dite}
use native.Mathlib.Decide.{ℕ_discrete}
use lib.ListN.{get_elem?}
use Rattle.atomic_table.specs.Table.{State}
use Rattle.atomic_table.proofs.Lists.{at_set, set_here, set_else, one_turn}
use Rattle.chv_book.specs.declared.view.View.{View}
use Rattle.chv_book.specs.declared.view.Stage.{Stage}
use Rattle.chv_book.specs.declared.view.Stage.TheVariants.{Opening, Idle, Waits, Serves, Joined, Spent}
use Rattle.chv_defs_book.specs.Histories.{StartsWith, entries_by, is_out}
use Rattle.chv_book.specs.TicketRule.{is_live, has_ticket, opening, Board, Lives, Fits, Runs, GoesInTurns}
use Rattle.chv_defs_book.proofs.Histories.{starts_trans}
use Rattle.chv_book.proofs.FewTickets.{no_more_than}

pub off : {A : Type 0} (b : Bool) → b ≡ true → b ≡ false → A
off b t f = absurd (true≢false (sym t ∙ f))

pub put : (ℕ → ℕ) → ℕ → ℕ → ℕ → ℕ
put f k x t = cond (eqb t k) x (f t)

pub put_here : (f : ℕ → ℕ) (k x t : ℕ) → t ≡ k → put f k x t ≡ x
unfolding put
put_here f k x t is = ap (λ (b : Bool). cond b x (f t)) (eq-eqb t k is)

pub put_else : (f : ℕ → ℕ) (k x t : ℕ) → t ≢ k → put f k x t ≡ f t
unfolding put
put_else f k x t ne = ap (λ (b : Bool). cond b x (f t)) (ne_eqb t k ne)

pub len_at : {A : Type 0} (l : List A) (i : ℕ) (a : A) → get_elem? l i ≡ some a → i < length l
len_at [] i a e = absurd (some-ne-none a (sym e))
len_at (x ∷ xs) zero a e = omega arith
len_at (x ∷ xs) (suc i) a e = let h = len_at xs i a e in omega arith

-- a fact of each member, after one was changed
pub each_set : {A : Type 0} (P : ℕ → A → Type 0) (l : List A) (i : ℕ) (w : A) → P i w → ((j : ℕ) (u : A) → j ≢ i → get_elem? l j ≡ some u → P j u) → (j : ℕ) (u : A) → get_elem? (set l i w) j ≡ some u → P j u
each_set {A} P l i w mine others j u e = ⊎_elim
    (λ (x : (j ≡ i) × (w ≡ u)). subst (λ (y : ℕ × A). P y.0 y.1) (λ k. (sym x.0 k, x.1 k)) mine)
    (λ (x : (j ≢ i) × (get_elem? l j ≡ some u)). others j u x.0 x.1)
    (at_set l i j w u e)

module _ {E O : Type 0} (by : E → ℕ) where
  pub lives_more : (b b' : Board E O) (j : ℕ) (u : View E O) → StartsWith b'.log b.log → entries_by by u.caller b'.log ≡ entries_by by u.caller b.log → b'.source ≡ b.source
      → (is_out u.caller b.first.out ≡ true → is_out u.caller b'.first.out ≡ true) → Lives by b j u → Lives by b' j u
  lives_more b b' j u grows same src out l = record { below = l.below; front = starts_trans u.seen b.log b'.log l.front grows; own = same ∙ l.own; source_is = l.source_is ∙ ap Some (sym src); listed = λ ne. let p = l.listed ne in (p.0, out p.1) }

module _ {E O : Type 0} where
  abbrev pub Alone : List (View E O) → Type 0
  Alone views = (i j : ℕ) (v w : View E O) → get_elem? views i ≡ some v → get_elem? views j ≡ some w → is_live v.stage ≡ true → is_live w.stage ≡ true → v.caller ≡ w.caller → i ≡ j

  pub alone_set : (views : List (View E O)) (id : ℕ) (v w : View E O) → get_elem? views id ≡ some v → Alone views → is_live v.stage ≡ true → w.caller ≡ v.caller → Alone (set views id w)
  alone_set views id v w at alone live same i j a b ei ej la lb e = ⊎_elim
      (λ (x : (i ≡ id) × (w ≡ a)). ⊎_elim
      (λ (y : (j ≡ id) × (w ≡ b)). x.0 ∙ sym y.0)
      (λ (y : (j ≢ id) × (get_elem? views j ≡ some b)). x.0 ∙ alone id j v b at y.1 live lb (sym same ∙ ap (λ (u : View E O). u.caller) x.1 ∙ e))
      (at_set views id j w b ej))
      (λ (x : (i ≢ id) × (get_elem? views i ≡ some a)). ⊎_elim
      (λ (y : (j ≡ id) × (w ≡ b)). alone i id a v x.1 at la live (e ∙ ap (λ (u : View E O). u.caller) (sym y.1) ∙ same) ∙ sym y.0)
      (λ (y : (j ≢ id) × (get_elem? views j ≡ some b)). alone i j a b x.1 y.1 la lb e)
      (at_set views id j w b ej))
      (at_set views id i w a ei)

  -- the first view, after one view was changed
  pub record Next (views : List (View E O)) (f : View E O) (id : ℕ) (v w : View E O) : Type 0 where
    pub next : View E O
    pub next_is : get_elem? (set views id w) 0 ≡ some next
    pub how : ((id ≡ 0) × (next ≡ w) × (f ≡ v)) ⊎ ((id ≢ 0) × (next ≡ f))

  pub next_of : (views : List (View E O)) (f : View E O) (id : ℕ) (v w : View E O) → get_elem? views 0 ≡ some f → get_elem? views id ≡ some v → Next views f id v w
  next_of views f id v w e at = dite (ℕ_discrete id 0)
      (λ is. record { next = w; next_is = subst (λ (k : ℕ). get_elem? (set views k w) 0 ≡ some w) (sym is) (set_here views 0 w (len_at views 0 f e)); how = inl (is, refl, some-injective _ _ (sym e ∙ ap (λ (k : ℕ). get_elem? views k) (sym is) ∙ at)) })
      (λ ne. record { next = f; next_is = set_else views id 0 w (λ z. ne (sym z)) ∙ e; how = inr (ne, refl) })

  -- a part of the first view that the change leaves as it was
  pub next_same : {X : Type 0} (part : View E O → X) (views : List (View E O)) (f : View E O) (id : ℕ) (v w : View E O) (n : Next views f id v w) → part w ≡ part v → part n.next ≡ part f
  next_same part views f id v w n same = ⊎_elim
      (λ (x : (id ≡ 0) × (n.next ≡ w) × (f ≡ v)). ap part x.1 ∙ same ∙ ap part (sym x.2))
      (λ (x : (id ≢ 0) × (n.next ≡ f)). ap part x.1)
      n.how

module _ {V E O : Type 0} (by : E → ℕ) where
  pub lives_at : (b : Board E O) (homes : List (maybe.Option (Option V))) (seat : ℕ) (v : View E O) (st : Stage) → Fits by b homes seat v st → is_live st ≡ true → Lives by b seat v
  lives_at b homes seat v Opening fits live = absurd fits
  lives_at b homes seat v Idle fits live = fits
  lives_at b homes seat v Waits fits live = fits.0
  lives_at b homes seat v Serves fits live = fits.0
  lives_at b homes seat v Joined fits live = fits.0
  lives_at b homes seat v Spent fits live = off false live refl

pub ticket_lives : (st : Stage) → has_ticket st ≡ true → is_live st ≡ true
ticket_lives Opening has = off false has refl
ticket_lives Idle has = refl
ticket_lives Waits has = refl
ticket_lives Serves has = refl
ticket_lives Joined has = off false has refl
ticket_lives Spent has = off false has refl

module _ {V E O : Type 0} (by : E → ℕ) (history : V → List E) (side : V → ℕ × ℕ) (origin : V → O) (is_still : List E → Bool) where
  -- where some view lives, the value has come into the slot
  pub running : (s : State (Option V) (View E O)) → GoesInTurns by history side origin is_still s → (id : ℕ) (v : View E O) → get_elem? s.views id ≡ some v → is_live v.stage ≡ true → Runs by history side origin is_still s
  running s (inr r) id v at live = r
  running s (inl o) id v at live = absurd (opens_not id (subst (λ (vs : List (View E O)). get_elem? vs id ≡ some v) o.views_are at))
    where
      opens_not : (id : ℕ) → get_elem? (opening ∷ []) id ≡ some v → ⊥
      opens_not zero e = off (is_live v.stage) live (ap (λ (u : View E O). is_live u.stage) (sym (some-injective _ _ e)))
      opens_not (suc id) e = some-ne-none v (sym e)

  caller_at : maybe.Option (View E O) → ℕ
  caller_at maybe.none = 0
  caller_at (some v) = v.caller

  -- no more tickets are out than there are numbers
  pub few : (s : State (Option V) (View E O)) (r : Runs by history side origin is_still s) → r.board.drawn ≤ r.board.served + 2 ^ 32
  unfolding caller_at
  few s r =
      let b = r.board in
      let f : ℕ → ℕ = λ i. caller_at (get_elem? s.views (b.holder (b.served + i))) in
      let m : ℕ = b.drawn - b.served in
      let below : (i : ℕ) → i < m → f i < 2 ^ 32 = λ i lt.
      let h = r.held (b.served + i) (omega arith) (omega arith) in
      let l = lives_at by b s.homes _ h.0 h.0.stage (r.each _ h.0 h.1) (ticket_lives h.0.stage h.2) in
      subst (λ (o : maybe.Option (View E O)). caller_at o < 2 ^ 32) (sym h.1) l.below in
      let apart : (i j : ℕ) → i < m → j < m → f i ≡ f j → i ≡ j = λ i j lt lt' e.
      let h = r.held (b.served + i) (omega arith) (omega arith) in
      let k = r.held (b.served + j) (omega arith) (omega arith) in
      let same : h.0.caller ≡ k.0.caller = ap caller_at (sym h.1) ∙ e ∙ ap caller_at k.1 in
      let one : b.holder (b.served + i) ≡ b.holder (b.served + j) = r.alone _ _ h.0 k.0 h.1 k.1 (ticket_lives h.0.stage h.2) (ticket_lives k.0.stage k.2) same in
      let view : h.0 ≡ k.0 = some-injective _ _ (sym h.1 ∙ ap (λ (n : ℕ). get_elem? s.views n) one ∙ k.1) in
      let t : b.served + i ≡ b.served + j = sym h.3 ∙ ap (λ (u : View E O). u.ticket) view ∙ k.3 in
      omega arith in
      let le : m ≤ 2 ^ 32 = no_more_than (2 ^ 32) m f below apart in
      omega arith

  -- the ticket that is found as the number of turns passed is the one to serve
  pub its_turn : (s : State (Option V) (View E O)) (r : Runs by history side origin is_still s) (t : ℕ) → r.board.served ≤ t → t < r.board.drawn → r.board.served % 2 ^ 64 ≡ t % 2 ^ 64 → t ≡ r.board.served
  its_turn s r t from before e = let f : r.board.drawn ≤ r.board.served + 4294967296 = few s r in sym (one_turn r.board.served t (2 ^ 64) from (omega arith) e)
