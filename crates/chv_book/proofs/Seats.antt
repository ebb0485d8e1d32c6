-- How a pass is split off and taken back, and what the closed book has.
use Rattle.std.proofs.Common.{◌≡◌, ◌≢◌, ◌⊎◌, ℕ, zero, suc, ◌^◌, ◌<◌, List, [], ◌∷◌, ◌++◌, length, get_or, set, Option, Some, None, Bool, true, false, true≢false, refl, sym, ap, ◌∙◌, subst, ⊎_elim, inl, inr, arith, le_refl}
use mathlib.Core.Option.{some, some-injective, some-ne-none}
use mathlib.Core.Option as maybe
use mathlib.Core.Logic.{dite}
use native.Mathlib.Decide.{ℕ_discrete}
use lib.ListN.{get_elem?}
use Rattle.atomic_table.specs.Table.{State, Me, Final, Seen, step, keeps, Allows, Splits, Joins}
use Rattle.atomic_table.proofs.Lists.{at_set, at_longer, set_here, set_else}
use Rattle.chv_book.specs.declared.view.View.{View}
use Rattle.chv_book.specs.declared.view.Stage.{Stage}
use Rattle.chv_book.specs.declared.view.Stage.TheVariants.{Idle, Serves, Joined}
use Rattle.chv_defs_book.specs.Histories.{entries_by, longer, is_out, without}
use Rattle.chv_book.specs.TicketRule.{is_live, has_ticket, lending, newcomer, rejoined, settled, spent, Board, Fits, Runs, GoesInTurns}
use Rattle.chv_book.specs.TicketSteps.{settles}
use Rattle.chv_defs_book.proofs.Histories.{entries_between, whole, longer_front, joins_of, is_out_front, is_out_later, is_out_not, is_out_without, without_nil}
use Rattle.chv_book.proofs.Words.{looked_at}
use Rattle.chv_book.proofs.TakesTurn.{live_at, others_stay}
use Rattle.chv_book.proofs.OneView.{off, len_at, each_set, Alone, alone_set, Next, next_of, next_same, lives_at, running}

module _ {V E O : Type 0} (by : E → ℕ) (history : V → List E) (side : V → ℕ × ℕ) (origin : V → O) (is_still : List E → Bool) where
  abbrev R : State (Option V) (View E O) → Type 0
  R = Runs by history side origin is_still

  abbrev K : State (Option V) (View E O) → Type 0
  K = GoesInTurns by history side origin is_still

  last_or : {A : Type 0} (l : List A) (a b : A) (j : ℕ) → get_elem? (l ++ a ∷ []) j ≡ some b → (get_elem? l j ≡ some b) ⊎ ((j ≡ length l) × (a ≡ b))
  last_or [] a b zero e = inr (refl, some-injective a b e)
  last_or [] a b (suc j) e = absurd (some-ne-none b (sym e))
  last_or (x ∷ xs) a b zero e = inl e
  last_or (x ∷ xs) a b (suc j) e = ⊎_elim (λ h. inl h) (λ (h : (j ≡ length xs) × (a ≡ b)). inr ((let is : j ≡ length xs = h.0 in omega arith), h.1)) (last_or xs a b j e)

  -- the view of number 0 is the first one
  at_first : (s : State (Option V) (View E O)) (r : R s) (id : ℕ) (v : View E O) → get_elem? s.views id ≡ some v → is_live v.stage ≡ true → v.caller ≡ 0 → (id ≡ 0) × (v ≡ r.board.first)
  at_first s r id v at live z =
      let is : id ≡ 0 = r.alone id 0 v r.board.first at r.first_is live r.first_lives (z ∙ sym r.first_caller) in
      (is, some-injective _ _ (sym at ∙ ap (λ (q : ℕ). get_elem? s.views q) is ∙ r.first_is))

  no_ticket : (v w : View E O) → v ≡ w → w.stage ≡ Idle → has_ticket v.stage ≡ true → ⊥
  no_ticket v w is idle h = off (has_ticket v.stage) h (ap (λ (u : View E O). has_ticket u.stage) is ∙ ap has_ticket idle)

  no_turn : (v w : View E O) → v ≡ w → w.stage ≡ Idle → v.stage ≡ Serves → ⊥
  no_turn v w is idle h = no_ticket v w is idle (ap has_ticket h)

  alone_add : (views : List (View E O)) (w : View E O) → Alone views → ((i : ℕ) (u : View E O) → get_elem? views i ≡ some u → is_live u.stage ≡ true → u.caller ≢ w.caller) → Alone (views ++ w ∷ [])
  alone_add views w alone fresh i j a b ei ej la lb e = ⊎_elim
      (λ (x : get_elem? views i ≡ some a). ⊎_elim
      (λ (y : get_elem? views j ≡ some b). alone i j a b x y la lb e)
      (λ (y : (j ≡ length views) × (w ≡ b)). absurd (fresh i a x la (e ∙ ap (λ (u : View E O). u.caller) (sym y.1))))
      (last_or views w b j ej))
      (λ (x : (i ≡ length views) × (w ≡ a)). ⊎_elim
      (λ (y : get_elem? views j ≡ some b). absurd (fresh j b y lb (sym e ∙ ap (λ (u : View E O). u.caller) (sym x.1))))
      (λ (y : (j ≡ length views) × (w ≡ b)). x.0 ∙ sym y.0)
      (last_or views w b j ej))
      (last_or views w a i ei)

  alone_end : (views : List (View E O)) (id : ℕ) (w : View E O) → Alone views → is_live w.stage ≡ false → Alone (set views id w)
  alone_end views id w alone ends i j a b ei ej la lb e = ⊎_elim
      (λ (x : (i ≡ id) × (w ≡ a)). off (is_live a.stage) la (ap (λ (u : View E O). is_live u.stage) (sym x.1) ∙ ends))
      (λ (x : (i ≢ id) × (get_elem? views i ≡ some a)). ⊎_elim
      (λ (y : (j ≡ id) × (w ≡ b)). off (is_live b.stage) lb (ap (λ (u : View E O). is_live u.stage) (sym y.1) ∙ ends))
      (λ (y : (j ≢ id) × (get_elem? views j ≡ some b)). alone i j a b x.1 y.1 la lb e)
      (at_set views id j w b ej))
      (at_set views id i w a ei)

  split_runs : (s : State (Option V) (View E O)) (r : R s) (id : ℕ) (v : View E O) (n : ℕ) → get_elem? s.views id ≡ some v → v.stage ≡ Idle → v.caller ≡ 0 → 0 < n → n < 2 ^ 32 → is_out n v.out ≡ false → is_still (entries_by by 0 v.seen) ≡ false
      → R record { words = s.words; homes = s.homes; views = set s.views id (lending n v) ++ newcomer n v ∷ [] }
  split_runs s r id v n at idle nought pos low free moves =
      let b = r.board in
      let live : is_live v.stage ≡ true = live_at v Idle idle refl in
      let f = at_first s r id v at live nought in
      let is : id ≡ 0 = f.0 in
      let l = lives_at by b s.homes id v v.stage (r.each id v at) live in
      let w : View E O = lending n v in
      let u : View E O = newcomer n v in
      let b' : Board E O = record { log = b.log; source = b.source; served = b.served; drawn = b.drawn; holder = b.holder; first = w } in
      let sd : v.side ≡ b.first.side = ap (λ (z : View E O). z.side) f.1 in
      let more : (m : ℕ) → is_out m b.first.out ≡ true → is_out m (n ∷ v.out) ≡ true = λ m h. is_out_later m n v.out (ap (λ (z : View E O). is_out m z.out) f.1 ∙ h) in
      let free' : is_out n b.first.out ≡ false = ap (λ (z : View E O). is_out n z.out) (sym f.1) ∙ free in
      let mine : Fits by b' s.homes id w w.stage = subst (λ (st : Stage). Fits by b' s.homes id w st) (sym idle)
      (record { below = l.below; front = l.front; own = l.own; source_is = l.source_is; listed = λ ne. absurd (ne is) }) in
      let others : (j : ℕ) (z : View E O) → get_elem? (set s.views id w) j ≡ some z → Fits by b' s.homes j z z.stage = each_set (λ j z. Fits by b' s.homes j z z.stage) s.views id w mine
      (λ j z ne e. others_stay by b b' s.homes s.homes j z refl refl refl (le_refl b.drawn) sd (λ _ _. refl) (λ h. h) z.stage (λ _ h. more z.caller h) (r.each j z e)) in
      let fresh : (i : ℕ) (z : View E O) → get_elem? (set s.views id w) i ≡ some z → is_live z.stage ≡ true → z.caller ≢ n = λ i z e live' same. ⊎_elim
      (λ (x : (i ≡ id) × (w ≡ z)). let q : 0 ≡ n = sym nought ∙ ap (λ (y : View E O). y.caller) x.1 ∙ same in omega arith)
      (λ (x : (i ≢ id) × (get_elem? s.views i ≡ some z)). off (is_out n b.first.out)
      (ap (λ (m : ℕ). is_out m b.first.out) (sym same) ∙ ((lives_at by b s.homes i z z.stage (r.each i z x.1) live').listed (λ q. x.0 (q ∙ sym is))).1) free')
      (at_set s.views id i w z e) in
      record {
        board = b';
        words_tell = r.words_tell;
        behind = r.behind;
        first_is = at_longer (set s.views id w) (u ∷ []) 0 w (ap (λ (q : ℕ). get_elem? (set s.views q w) 0) is ∙ set_here s.views 0 w (len_at s.views 0 b.first r.first_is));
        first_caller = nought;
        first_lives = live;
        each = λ j z e. ⊎_elim
            (λ (x : get_elem? (set s.views id w) j ≡ some z). others j z x)
            (λ (x : (j ≡ length (set s.views id w)) × (u ≡ z)). subst (λ (y : View E O). Fits by b' s.homes j y y.stage) x.1
            (record { below = low; front = l.front; own = r.kept n free' ∙ ap (λ (y : View E O). entries_by by n y.seen) (sym f.1); source_is = l.source_is; listed = λ _. (pos, is_out_front n v.out) }))
            (last_or (set s.views id w) u z j e);
        held = λ m from lt. let h = r.held m from lt in
            let apart : b.holder m ≢ id = λ q. no_ticket h.0 v (some-injective _ _ (sym h.1 ∙ ap (λ (k : ℕ). get_elem? s.views k) q ∙ at)) idle h.2 in
            (h.0, at_longer (set s.views id w) (u ∷ []) (b.holder m) h.0 (set_else s.views id (b.holder m) w apart ∙ h.1), h.2, h.3);
        alone = alone_add (set s.views id w) u (alone_set s.views id v w at r.alone live refl) fresh;
        kept = λ m e. r.kept m (ap (λ (z : View E O). is_out m z.out) (sym f.1) ∙ is_out_not m n v.out e) ∙ ap (λ (z : View E O). entries_by by m z.seen) (sym f.1);
        quiet = λ q. off (is_still (entries_by by 0 b.log)) q (ap is_still (ap (λ (m : ℕ). entries_by by m b.log) (sym nought) ∙ l.own ∙ ap (λ (m : ℕ). entries_by by m v.seen) nought) ∙ moves);
        slot = ⊎_elim
            (λ (o : (seat : ℕ) × (z : View E O) × (get_elem? s.views seat ≡ some z) × (z.stage ≡ Serves)).
            inl (o.0, o.1, at_longer (set s.views id w) (u ∷ []) o.0 o.1 (set_else s.views id o.0 w (λ q. no_turn o.1 v (some-injective _ _ (sym o.2 ∙ ap (λ (k : ℕ). get_elem? s.views k) q ∙ at)) idle o.3) ∙ o.2), o.3))
            (λ (i : (y : V) × (s.homes ≡ some (Some y) ∷ []) × (history y ≡ b.log) × (side y ≡ b.first.side) × (origin y ≡ b.source)).
            inr (i.0, i.1, i.2, i.3 ∙ sym sd, i.4))
            r.slot;
      }

  -- a seat is cut off
  pub splits : (id : ℕ) (v : View E O) (n : ℕ) → v.stage ≡ Idle → v.caller ≡ 0 → 0 < n → n < 2 ^ 32 → is_out n v.out ≡ false → is_still (entries_by by 0 v.seen) ≡ false → Splits K id v (lending n v) (newcomer n v)
  splits id v n idle nought pos low free moves s kept at =
      inr (split_runs s (running by history side origin is_still s kept id v at (live_at v Idle idle refl)) id v n at idle nought pos low free moves)

  join_runs : (s : State (Option V) (View E O)) (r : R s) (id other : ℕ) (v w : View E O) → get_elem? s.views id ≡ some v → v.stage ≡ Idle → v.caller ≡ 0 → other ≢ id → get_elem? s.views other ≡ some w → w.stage ≡ Idle
      → R record { words = s.words; homes = s.homes; views = set (set s.views id (rejoined v w)) other spent }
  join_runs s r id other v w at idle nought ne at' idle' =
      let b = r.board in
      let live : is_live v.stage ≡ true = live_at v Idle idle refl in
      let live' : is_live w.stage ≡ true = live_at w Idle idle' refl in
      let f = at_first s r id v at live nought in
      let is : id ≡ 0 = f.0 in
      let l = lives_at by b s.homes id v v.stage (r.each id v at) live in
      let l' = lives_at by b s.homes other w w.stage (r.each other w at') live' in
      let x : View E O = rejoined v w in
      let vs : List (View E O) = set s.views id x in
      let b' : Board E O = record { log = b.log; source = b.source; served = b.served; drawn = b.drawn; holder = b.holder; first = x } in
      let sd : v.side ≡ b.first.side = ap (λ (z : View E O). z.side) f.1 in
      let fronts = longer_front b.log v.seen w.seen l.front l'.front in
      let fewer : (m : ℕ) → m ≢ w.caller → is_out m b.first.out ≡ true → is_out m (without w.caller v.out) ≡ true = λ m apart h. is_out_without m w.caller v.out apart ∙ ap (λ (z : View E O). is_out m z.out) f.1 ∙ h in
      let took : entries_by by w.caller b.log ≡ entries_by by w.caller (longer v.seen w.seen) = entries_between by w.caller w.seen (longer v.seen w.seen) b.log fronts.2 fronts.0 l'.own in
      let kept' : (m : ℕ) → m ≢ w.caller → is_out m (without w.caller v.out) ≡ false → entries_by by m b.log ≡ entries_by by m v.seen = λ m apart e.
      r.kept m (ap (λ (z : View E O). is_out m z.out) (sym f.1) ∙ sym (is_out_without m w.caller v.out apart) ∙ e) ∙ ap (λ (z : View E O). entries_by by m z.seen) (sym f.1) in
      let mine : Fits by b' s.homes id x x.stage = (
        record { below = l.below; front = fronts.0; own = entries_between by v.caller v.seen (longer v.seen w.seen) b.log fronts.1 fronts.0 l.own; source_is = l.source_is; listed = λ away. absurd (away is) },
        joins_of by b.log v.seen w.seen v.out w.caller l.front l'.front (λ m e. r.kept m (ap (λ (z : View E O). is_out m z.out) (sym f.1) ∙ e) ∙ ap (λ (z : View E O). entries_by by m z.seen) (sym f.1)) (subst (λ (m : ℕ). entries_by by m b.log ≡ entries_by by m v.seen) nought l.own) l'.own,
      ) in
      let end_apart : (k : ℕ) (z : View E O) → get_elem? s.views k ≡ some z → (z.stage ≡ Idle → ⊥) → (k ≢ id) × (k ≢ other) = λ k z e not. (
        (λ q. not (ap (λ (y : View E O). y.stage) (some-injective _ _ (sym e ∙ ap (λ (p : ℕ). get_elem? s.views p) q ∙ at)) ∙ idle)),
        (λ q. not (ap (λ (y : View E O). y.stage) (some-injective _ _ (sym e ∙ ap (λ (p : ℕ). get_elem? s.views p) q ∙ at')) ∙ idle')),
      ) in
      let stays : (k : ℕ) (z : View E O) → get_elem? s.views k ≡ some z → (z.stage ≡ Idle → ⊥) → get_elem? (set vs other spent) k ≡ some z = λ k z e not.
      let apart = end_apart k z e not in set_else vs other k spent apart.1 ∙ set_else s.views id k x apart.0 ∙ e in
      record {
        board = b';
        words_tell = r.words_tell;
        behind = r.behind;
        first_is = set_else vs other 0 spent (λ q. ne (sym q ∙ sym is)) ∙ ap (λ (q : ℕ). get_elem? (set s.views q x) 0) is ∙ set_here s.views 0 x (len_at s.views 0 b.first r.first_is);
        first_caller = nought;
        first_lives = refl;
        each = λ j z e. ⊎_elim
            (λ (p : (j ≡ other) × (spent ≡ z)). subst (λ (y : View E O). Fits by b' s.homes j y y.stage) p.1 tt)
            (λ (p : (j ≢ other) × (get_elem? vs j ≡ some z)). each_set (λ j z. j ≢ other → Fits by b' s.homes j z z.stage) s.views id x (λ _. mine)
            (λ j z away e' off_other. others_stay by b b' s.homes s.homes j z refl refl refl (le_refl b.drawn) sd (λ _ _. refl) (λ h. h) z.stage
            (λ lz h. fewer z.caller (λ q. off_other (r.alone j other z w e' at' lz live' q)) h) (r.each j z e'))
            j z p.1 p.0)
            (at_set vs other j spent z e);
        held = λ m from lt. let h = r.held m from lt in
            (h.0, stays (b.holder m) h.0 h.1 (λ q. no_ticket h.0 h.0 refl q h.2), h.2, h.3);
        alone = alone_end vs other spent (alone_set s.views id v x at r.alone live refl) refl;
        kept = λ m e. dite (ℕ_discrete m w.caller)
            (λ q. subst (λ (k : ℕ). entries_by by k b.log ≡ entries_by by k (longer v.seen w.seen)) (sym q) took)
            (λ apart. entries_between by m v.seen (longer v.seen w.seen) b.log fronts.1 fronts.0 (kept' m apart e));
        quiet = λ q. without_nil w.caller v.out (ap (λ (z : View E O). z.out) f.1 ∙ r.quiet q);
        slot = ⊎_elim
            (λ (o : (seat : ℕ) × (z : View E O) × (get_elem? s.views seat ≡ some z) × (z.stage ≡ Serves)).
            inl (o.0, o.1, stays o.0 o.1 o.2 (λ q. no_turn o.1 o.1 refl q o.3), o.3))
            (λ (i : (y : V) × (s.homes ≡ some (Some y) ∷ []) × (history y ≡ b.log) × (side y ≡ b.first.side) × (origin y ≡ b.source)).
            inr (i.0, i.1, i.2, i.3 ∙ sym sd, i.4))
            r.slot;
      }

  -- a seat is taken in
  pub joins : (id : ℕ) (v : View E O) (other : ℕ) (w : View E O) → v.stage ≡ Idle → v.caller ≡ 0 → w.stage ≡ Idle → Joins K id v other w (rejoined v w) spent
  joins id v other w idle nought idle' s kept at ne at' =
      inr (join_runs s (running by history side origin is_still s kept id v at (live_at v Idle idle refl)) id other v w at idle nought ne (sym (set_else s.views id other (rejoined v w) ne) ∙ at') idle')

  settled_runs : (s : State (Option V) (View E O)) (r : R s) (id : ℕ) (v : View E O) → get_elem? s.views id ≡ some v → v.stage ≡ Joined → R record { words = set s.words 0 (get_or s.words 0 0); homes = s.homes; views = set s.views id (settled v) }
  settled_runs s r id v at joins_is =
      let b = r.board in
      let w : View E O = settled v in
      let n : Next s.views b.first id v w = next_of s.views b.first id v w r.first_is at in
      let live : is_live v.stage ≡ true = live_at v Joined joins_is refl in
      let fits : Fits by b s.homes id v Joined = subst (λ (st : Stage). Fits by b s.homes id v st) joins_is (r.each id v at) in
      let l = fits.0 in
      let b' : Board E O = record { log = b.log; source = b.source; served = b.served; drawn = b.drawn; holder = b.holder; first = n.next } in
      let out = next_same (λ (u : View E O). u.out) s.views b.first id v w n refl in
      let sd = next_same (λ (u : View E O). u.side) s.views b.first id v w n refl in
      let seen = next_same (λ (u : View E O). u.seen) s.views b.first id v w n refl in
      let num = next_same (λ (u : View E O). u.caller) s.views b.first id v w n refl in
      let first_live : is_live n.next.stage ≡ true = ⊎_elim (λ (x : (id ≡ 0) × (n.next ≡ w) × (b.first ≡ v)). ap (λ (u : View E O). is_live u.stage) x.1) (λ (x : (id ≢ 0) × (n.next ≡ b.first)). ap (λ (u : View E O). is_live u.stage) x.1 ∙ r.first_lives) n.how in
      let apart : (k : ℕ) (z : View E O) → get_elem? s.views k ≡ some z → (has_ticket z.stage ≡ true) → k ≢ id = λ k z e h q.
      off (has_ticket z.stage) h (ap (λ (y : View E O). has_ticket y.stage) (some-injective _ _ (sym e ∙ ap (λ (p : ℕ). get_elem? s.views p) q ∙ at)) ∙ ap has_ticket joins_is) in
      record {
        board = b';
        words_tell = looked_at b.drawn b.served s.words r.words_tell 0;
        behind = r.behind;
        first_is = n.next_is;
        first_caller = num ∙ r.first_caller;
        first_lives = first_live;
        each = each_set (λ j u. Fits by b' s.homes j u u.stage) s.views id w
            (record { below = l.below; front = l.front; own = l.own; source_is = l.source_is; listed = λ ne. let p = l.listed ne in (p.0, ap (is_out v.caller) out ∙ p.1) })
            (λ j u ne e. others_stay by b b' s.homes s.homes j u refl refl refl (le_refl b.drawn) sd (λ _ _. refl) (λ h. h) u.stage (λ _ h. ap (is_out u.caller) out ∙ h) (r.each j u e));
        held = λ m from lt. let h = r.held m from lt in (h.0, set_else s.views id (b.holder m) w (apart (b.holder m) h.0 h.1 h.2) ∙ h.1, h.2, h.3);
        alone = alone_set s.views id v w at r.alone live refl;
        kept = λ m e. r.kept m (ap (is_out m) (sym out) ∙ e) ∙ ap (entries_by by m) (sym seen);
        quiet = λ q. out ∙ r.quiet q;
        slot = ⊎_elim
            (λ (o : (seat : ℕ) × (z : View E O) × (get_elem? s.views seat ≡ some z) × (z.stage ≡ Serves)).
            inl (o.0, o.1, set_else s.views id o.0 w (apart o.0 o.1 o.2 (ap has_ticket o.3)) ∙ o.2, o.3))
            (λ (i : (y : V) × (s.homes ≡ some (Some y) ∷ []) × (history y ≡ b.log) × (side y ≡ b.first.side) × (origin y ≡ b.source)).
            inr (i.0, i.1, i.2, i.3 ∙ sym sd, i.4))
            r.slot;
      }

  -- the look that tells what that came to
  pub settle : (slots id : ℕ) (me : Me (Option V) (View E O)) → me.0.stage ≡ Joined → me.1 ≡ [] → Allows K slots id me 0 (λ n. n) (settles by (step slots 0 0 0 maybe.none) me)
  settle slots id me is empty s kept long at lt =
      let r : R s = running by history side origin is_still s kept id me.0 at (live_at me.0 Joined is refl) in
      let fits : Fits by r.board s.homes id me.0 Joined = subst (λ (st : Stage). Fits by r.board s.homes id me.0 st) is (r.each id me.0 at) in
      (settled me.0, keeps, tt, inr (settled_runs s r id me.0 at is), (refl, empty, fits.1))

  -- where the first seat is idle and no number is out, the slot has the value, whose history the first view has seen
  pub closes : (id : ℕ) (v : View E O) (ws : List ℕ) (xs : List (Option V)) → v.stage ≡ Idle → v.caller ≡ 0 → v.out ≡ [] → Final (Seen K id v) ws xs
      → (y : V) × (get_elem? xs 0 ≡ some (Some y)) × (history y ≡ v.seen) × (side y ≡ v.side) × (v.origin ≡ Some (origin y))
  closes id v ws xs idle nought none final =
      let s : State (Option V) (View E O) = final.0 in
      let live : is_live v.stage ≡ true = live_at v Idle idle refl in
      let r : R s = running by history side origin is_still s final.1.0 id v final.1.1 live in
      let b = r.board in
      let f = at_first s r id v final.1.1 live nought in
      let l = lives_at by b s.homes id v v.stage (r.each id v final.1.1) live in
      let nobody : b.first.out ≡ [] = ap (λ (z : View E O). z.out) (sym f.1) ∙ none in
      ⊎_elim
      (λ (o : (seat : ℕ) × (z : View E O) × (get_elem? s.views seat ≡ some z) × (z.stage ≡ Serves)).
      let lz = lives_at by b s.homes o.0 o.1 o.1.stage (r.each o.0 o.1 o.2) (ap is_live o.3) in
      dite (ℕ_discrete o.0 0)
      (λ q. absurd (no_turn o.1 v (some-injective _ _ (sym o.2 ∙ ap (λ (k : ℕ). get_elem? s.views k) (q ∙ sym f.0) ∙ final.1.1)) idle o.3))
      (λ q. off (is_out o.1.caller b.first.out) (lz.listed q).1 (ap (is_out o.1.caller) nobody)))
      (λ (i : (y : V) × (s.homes ≡ some (Some y) ∷ []) × (history y ≡ b.log) × (side y ≡ b.first.side) × (origin y ≡ b.source)). (
        i.0,
        final.4 0 (Some i.0) (ap (λ (hs : List (maybe.Option (Option V))). get_elem? hs 0) i.1),
        i.2 ∙ whole by b.log v.seen l.front.0 l.front.1 (λ m. r.kept m (ap (is_out m) nobody) ∙ ap (λ (z : View E O). entries_by by m z.seen) (sym f.1)),
        i.3 ∙ ap (λ (z : View E O). z.side) (sym f.1),
        l.source_is ∙ ap Some (sym i.4),
      ))
      r.slot

module _ {V : Type 0} where
  value_or : V → Option V → V
  value_or d None = d
  value_or d (Some x) = x

  pub same_value : (y z : V) → Some y ≡ Some z → y ≡ z
  unfolding value_or
  same_value y z e = ap (value_or y) e

  is_value : Option V → Bool
  is_value None = false
  is_value (Some x) = true

  pub not_none : (y : V) → None ≡ Some y → ⊥
  unfolding is_value
  not_none y e = true≢false (sym (ap is_value e))
