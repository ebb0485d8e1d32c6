-- How a ticket is drawn, and how a turn comes: the rule is kept.
use Rattle.std.proofs.Common.{◌≡◌, ◌≢◌, ℕ, ◌+◌, ◌%◌, ◌^◌, ◌<◌, ◌≤◌, List, [], ◌∷◌, get_or, set, Option, Some, None, Bool, true, false, refl, sym, ap, ◌∙◌, subst, ⊎_elim, inl, inr, arith, le_refl}
use mathlib.Core.Option.{some, some-injective, some-ne-none}
use mathlib.Core.Option as maybe
use mathlib.Core.Logic.{dite}
use native.Mathlib.Decide.{ℕ_discrete}
use lib.ListN.{get_elem?}
use Rattle.atomic_table.specs.Table.{State, Me, step, keeps, takes, Allows}
use Rattle.std.proofs.lemmas.List.{set-get_or}
use Rattle.atomic_table.proofs.Lists.{set_here, set_else, set_again}
use Rattle.chv_book.specs.declared.view.View.{View}
use Rattle.chv_book.specs.declared.view.Stage.{Stage}
use Rattle.chv_book.specs.declared.view.Stage.TheVariants.{Opening, Idle, Waits, Serves, Joined, Spent}
use Rattle.chv_defs_book.specs.Histories.{StartsWith, entries_by, is_out}
use Rattle.chv_book.specs.TicketRule.{is_live, has_ticket, waiting, serving, Board, Lives, HasTicket, Fits, SlotFits, Runs, GoesInTurns}
use Rattle.chv_book.specs.TicketSteps.{draws, looks, Begun}
use Rattle.chv_defs_book.proofs.Histories.{bool_cases, starts_refl}
use Rattle.chv_book.proofs.Words.{looked_at, one_drawn}
use Rattle.chv_book.proofs.OneView.{off, put, put_here, put_else, len_at, each_set, lives_more, alone_set, Next, next_of, next_same, lives_at, running, its_turn}

module _ {E O : Type 0} where
  pub live_at : (v : View E O) (st : Stage) → v.stage ≡ st → is_live st ≡ true → is_live v.stage ≡ true
  live_at v st is live = ap is_live is ∙ live

module _ {O : Type 0} where
  from_some : O → Option O → O
  from_some o None = o
  from_some o (Some x) = x

  pub same_some : (x y : O) → Some x ≡ Some y → x ≡ y
  unfolding from_some
  same_some x y e = ap (from_some x) e

module _ {V E O : Type 0} (by : E → ℕ) where
  -- what another view knows does not change where the history and the turns passed stay
  pub others_stay : (b b' : Board E O) (homes homes' : List (maybe.Option (Option V))) (j : ℕ) (u : View E O) → b'.log ≡ b.log → b'.source ≡ b.source → b'.served ≡ b.served → b.drawn ≤ b'.drawn
      → b'.first.side ≡ b.first.side → ((t : ℕ) → t < b.drawn → b'.holder t ≡ b.holder t) → (homes ≡ maybe.none ∷ [] → homes' ≡ maybe.none ∷ []) → (st : Stage)
      → (is_live st ≡ true → is_out u.caller b.first.out ≡ true → is_out u.caller b'.first.out ≡ true) → Fits by b homes j u st → Fits by b' homes' j u st
  others_stay b b' homes homes' j u log src sv dr sd hold away st out fits = go st out fits
    where
      l_of : (is_out u.caller b.first.out ≡ true → is_out u.caller b'.first.out ≡ true) → Lives by b j u → Lives by b' j u
      l_of out l = lives_more by b b' j u (subst (λ (z : List E). StartsWith z b.log) (sym log) (starts_refl b.log)) (ap (entries_by by u.caller) log) src out l

      t_of : HasTicket by b j u → HasTicket by b' j u
      t_of t = let le : b.served ≤ u.ticket = t.from in let lt : u.ticket < b.drawn = t.before in
          record { from = omega arith; before = omega arith; held_by = hold u.ticket lt ∙ t.held_by }

      go : (st : Stage) → (is_live st ≡ true → is_out u.caller b.first.out ≡ true → is_out u.caller b'.first.out ≡ true) → Fits by b homes j u st → Fits by b' homes' j u st
      go Opening out f = absurd f
      go Idle out f = l_of (out refl) f
      go Waits out f = (l_of (out refl) f.0, t_of f.1)
      go Serves out f = (l_of (out refl) f.0, t_of f.1, record { now = f.2.now ∙ sym sv; noted_is = f.2.noted_is ∙ sym log; side_is = f.2.side_is ∙ sym sd; away = away f.2.away })
      go Joined out f = (l_of (out refl) f.0, f.1)
      go Spent out f = tt

module _ {V E O : Type 0} (by : E → ℕ) (history : V → List E) (side : V → ℕ × ℕ) (origin : V → O) (is_still : List E → Bool) where
  abbrev R : State (Option V) (View E O) → Type 0
  R = Runs by history side origin is_still

  abbrev K : State (Option V) (View E O) → Type 0
  K = GoesInTurns by history side origin is_still

  slot_draw : (b b' : Board E O) (homes : List (maybe.Option (Option V))) (views : List (View E O)) (id : ℕ) (v w : View E O) → get_elem? views id ≡ some v → v.stage ≢ Serves
      → b'.log ≡ b.log → b'.source ≡ b.source → b'.first.side ≡ b.first.side → SlotFits by history side origin is_still b homes views → SlotFits by history side origin is_still b' homes (set views id w)
  slot_draw b b' homes views id v w at not log src sd fits = ⊎_elim
      (λ (o : (seat : ℕ) × (u : View E O) × (get_elem? views seat ≡ some u) × (u.stage ≡ Serves)).
      inl (o.0, o.1, set_else views id o.0 w (λ is. not (ap (λ (z : View E O). z.stage) (some-injective _ _ (sym at ∙ ap (λ (n : ℕ). get_elem? views n) (sym is) ∙ o.2)) ∙ o.3)) ∙ o.2, o.3))
      (λ (i : (y : V) × (homes ≡ some (Some y) ∷ []) × (history y ≡ b.log) × (side y ≡ b.first.side) × (origin y ≡ b.source)).
      inr (i.0, i.1, i.2 ∙ sym log, i.3 ∙ sym sd, i.4 ∙ sym src))
      fits

  idle_serves : Idle ≢ Serves
  idle_serves e = off (has_ticket Serves) refl (ap has_ticket (sym e))

  waits_serves : Waits ≢ Serves
  waits_serves e = off (is_waits Serves) (ap is_waits (sym e)) refl
    where
      is_waits : Stage → Bool
      is_waits Opening = false
      is_waits Idle = false
      is_waits Waits = true
      is_waits Serves = false
      is_waits Joined = false
      is_waits Spent = false

  drawn_runs : (s : State (Option V) (View E O)) (r : R s) (id : ℕ) (v : View E O) → get_elem? s.views id ≡ some v → v.stage ≡ Idle
      → R record { words = set s.words 0 ((get_or s.words 0 0 + 1) % 2 ^ 64); homes = s.homes; views = set s.views id (waiting r.board.drawn v) }
  drawn_runs s r id v at idle =
      let b = r.board in
      let w : View E O = waiting b.drawn v in
      let n : Next s.views b.first id v w = next_of s.views b.first id v w r.first_is at in
      let live : is_live v.stage ≡ true = live_at v Idle idle refl in
      let l : Lives by b id v = lives_at by b s.homes id v v.stage (r.each id v at) live in
      let b' : Board E O = record { log = b.log; source = b.source; served = b.served; drawn = b.drawn + 1; holder = put b.holder b.drawn id; first = n.next } in
      let out = next_same (λ (u : View E O). u.out) s.views b.first id v w n refl in
      let sd = next_same (λ (u : View E O). u.side) s.views b.first id v w n refl in
      let seen = next_same (λ (u : View E O). u.seen) s.views b.first id v w n refl in
      let num = next_same (λ (u : View E O). u.caller) s.views b.first id v w n refl in
      let le : b.served ≤ b.drawn = r.behind in
      let l' : Lives by b' id w = record { below = l.below; front = l.front; own = l.own; source_is = l.source_is; listed = λ ne. let p = l.listed ne in (p.0, ap (is_out v.caller) out ∙ p.1) } in
      let first_live : is_live n.next.stage ≡ true = ⊎_elim (λ (x : (id ≡ 0) × (n.next ≡ w) × (b.first ≡ v)). ap (λ (u : View E O). is_live u.stage) x.1) (λ (x : (id ≢ 0) × (n.next ≡ b.first)). ap (λ (u : View E O). is_live u.stage) x.1 ∙ r.first_lives) n.how in
      record {
        board = b';
        words_tell = one_drawn b.drawn b.served s.words r.words_tell;
        behind = omega arith;
        first_is = n.next_is;
        first_caller = num ∙ r.first_caller;
        first_lives = first_live;
        each = each_set (λ j u. Fits by b' s.homes j u u.stage) s.views id w
            (l', record { from = le; before = omega arith; held_by = put_here b.holder b.drawn id b.drawn refl })
            (λ j u ne e. others_stay by b b' s.homes s.homes j u refl refl refl (omega arith) sd (λ t lt. put_else b.holder b.drawn id t (λ (is : t ≡ b.drawn). omega arith)) (λ h. h) u.stage (λ _ h. ap (is_out u.caller) out ∙ h) (r.each j u e));
        held = λ t from lt. dite (ℕ_discrete t b.drawn)
            (λ is. (w, subst (λ (k : ℕ). get_elem? (set s.views id w) k ≡ some w) (sym (put_here b.holder b.drawn id t is)) (set_here s.views id w (len_at s.views id v at)), refl, sym is))
            (λ ne. let h = r.held t from (omega arith) in
            let apart : b.holder t ≢ id = λ is. off (has_ticket h.0.stage) h.2 (ap (λ (u : View E O). has_ticket u.stage) (some-injective _ _ (sym h.1 ∙ ap (λ (k : ℕ). get_elem? s.views k) is ∙ at)) ∙ ap has_ticket idle) in
            (h.0, ap (λ (k : ℕ). get_elem? (set s.views id w) k) (put_else b.holder b.drawn id t ne) ∙ set_else s.views id (b.holder t) w apart ∙ h.1, h.2, h.3));
        alone = alone_set s.views id v w at r.alone live refl;
        kept = λ m e. r.kept m (ap (is_out m) (sym out) ∙ e) ∙ ap (entries_by by m) (sym seen);
        quiet = λ q. out ∙ r.quiet q;
        slot = slot_draw b b' s.homes s.views id v w at (λ e. idle_serves (sym idle ∙ e)) refl refl sd r.slot;
      }

  -- a ticket is drawn
  pub draw : (slots id : ℕ) (me : Me (Option V) (View E O)) → me.0.stage ≡ Idle → me.1 ≡ [] → Allows K slots id me 0 (λ n. (n + 1) % 2 ^ 64) (draws (step slots 0 1 0 maybe.none) me)
  draw slots id me idle empty s kept long at lt =
      let r : R s = running by history side origin is_still s kept id me.0 at (live_at me.0 Idle idle refl) in
      (waiting r.board.drawn me.0, keeps, tt, inr (drawn_runs s r id me.0 at idle), (r.board.drawn, r.words_tell.drawn_is, refl, empty))

  looked_runs : (s : State (Option V) (View E O)) (r : R s) (id : ℕ) (v : View E O) → get_elem? s.views id ≡ some v → v.stage ≡ Waits → v.ticket ≡ r.board.served
      → (y : V) → s.homes ≡ some (Some y) ∷ [] → history y ≡ r.board.log → side y ≡ r.board.first.side
      → R record { words = set s.words 16 (get_or s.words 16 0); homes = set s.homes 0 maybe.none; views = set s.views id (serving (history y) (side y) v) }
  looked_runs s r id v at waits now y home h sd_is =
      let b = r.board in
      let w : View E O = serving (history y) (side y) v in
      let n : Next s.views b.first id v w = next_of s.views b.first id v w r.first_is at in
      let live : is_live v.stage ≡ true = live_at v Waits waits refl in
      let fits : Fits by b s.homes id v Waits = subst (λ (st : Stage). Fits by b s.homes id v st) waits (r.each id v at) in
      let l = fits.0 in
      let t = fits.1 in
      let b' : Board E O = record { log = b.log; source = b.source; served = b.served; drawn = b.drawn; holder = b.holder; first = n.next } in
      let out = next_same (λ (u : View E O). u.out) s.views b.first id v w n refl in
      let sd = next_same (λ (u : View E O). u.side) s.views b.first id v w n refl in
      let seen = next_same (λ (u : View E O). u.seen) s.views b.first id v w n refl in
      let num = next_same (λ (u : View E O). u.caller) s.views b.first id v w n refl in
      let gone : set s.homes 0 maybe.none ≡ maybe.none ∷ [] = ap (λ (hs : List (maybe.Option (Option V))). set hs 0 maybe.none) home in
      let l' : Lives by b' id w = record { below = l.below; front = l.front; own = l.own; source_is = l.source_is; listed = λ ne. let p = l.listed ne in (p.0, ap (is_out v.caller) out ∙ p.1) } in
      let first_live : is_live n.next.stage ≡ true = ⊎_elim (λ (x : (id ≡ 0) × (n.next ≡ w) × (b.first ≡ v)). ap (λ (u : View E O). is_live u.stage) x.1) (λ (x : (id ≢ 0) × (n.next ≡ b.first)). ap (λ (u : View E O). is_live u.stage) x.1 ∙ r.first_lives) n.how in
      record {
        board = b';
        words_tell = looked_at b.drawn b.served s.words r.words_tell 16;
        behind = r.behind;
        first_is = n.next_is;
        first_caller = num ∙ r.first_caller;
        first_lives = first_live;
        each = each_set (λ j u. Fits by b' (set s.homes 0 maybe.none) j u u.stage) s.views id w
            (l', record { from = t.from; before = t.before; held_by = t.held_by }, record { now = now; noted_is = h; side_is = sd_is ∙ sym sd; away = gone })
            (λ j u ne e. others_stay by b b' s.homes (set s.homes 0 maybe.none) j u refl refl refl (le_refl b.drawn) sd (λ _ _. refl) (λ _. gone) u.stage (λ _ k. ap (is_out u.caller) out ∙ k) (r.each j u e));
        held = λ m from lt. let k = r.held m from lt in dite (ℕ_discrete (b.holder m) id)
            (λ is. let same : k.0 ≡ v = some-injective _ _ (sym k.1 ∙ ap (λ (q : ℕ). get_elem? s.views q) is ∙ at) in
            (w, subst (λ (q : ℕ). get_elem? (set s.views id w) q ≡ some w) (sym is) (set_here s.views id w (len_at s.views id v at)), refl, sym (ap (λ (u : View E O). u.ticket) same) ∙ k.3))
            (λ ne. (k.0, set_else s.views id (b.holder m) w ne ∙ k.1, k.2, k.3));
        alone = alone_set s.views id v w at r.alone live refl;
        kept = λ m e. r.kept m (ap (is_out m) (sym out) ∙ e) ∙ ap (entries_by by m) (sym seen);
        quiet = λ q. out ∙ r.quiet q;
        slot = inl (id, w, set_here s.views id w (len_at s.views id v at), refl);
      }

  -- what the view may conclude of the value
  begun : (s : State (Option V) (View E O)) (r : R s) (id : ℕ) (v : View E O) → get_elem? s.views id ≡ some v → is_live v.stage ≡ true → (y : V) → history y ≡ r.board.log → side y ≡ r.board.first.side → origin y ≡ r.board.source → Begun by history side origin is_still v y
  begun s r id v at live y h sd src =
      let b = r.board in
      let l = lives_at by b s.homes id v v.stage (r.each id v at) live in
      let is_first : v.caller ≡ 0 → v ≡ b.first = λ z. some-injective _ _ (sym at ∙ ap (λ (q : ℕ). get_elem? s.views q) (r.alone id 0 v b.first at r.first_is live r.first_lives (z ∙ sym r.first_caller)) ∙ r.first_is) in
      record {
        front = subst (λ (z : List E). StartsWith z v.seen) (sym h) l.front;
        own = ap (entries_by by v.caller) h ∙ l.own;
        source_is = l.source_is ∙ ap Some (sym src);
        moving = λ ne.
            let away : id ≢ 0 = λ z. ne (ap (λ (u : View E O). u.caller) (some-injective _ _ (sym at ∙ ap (λ (k : ℕ). get_elem? s.views k) z ∙ r.first_is)) ∙ r.first_caller) in
            let p = l.listed away in
            ⊎_elim
            (λ (q : is_still (entries_by by 0 (history y)) ≡ true).
            off (is_out v.caller b.first.out) p.1 (ap (is_out v.caller) (r.quiet (ap (λ (z : List E). is_still (entries_by by 0 z)) (sym h) ∙ q))))
            (λ (f : is_still (entries_by by 0 (history y)) ≡ false). f)
            (bool_cases (is_still (entries_by by 0 (history y))));
        side_is = λ z. sd ∙ sym (ap (λ (u : View E O). u.side) (is_first z));
        kept = λ z m e. ap (entries_by by m) h ∙ r.kept m (ap (λ (u : View E O). is_out m u.out) (sym (is_first z)) ∙ e) ∙ ap (λ (u : View E O). entries_by by m u.seen) (sym (is_first z));
        quiet = λ z q. ap (λ (u : View E O). u.out) (is_first z) ∙ r.quiet (ap (λ (z : List E). is_still (entries_by by 0 z)) (sym h) ∙ q);
      }

  -- a look whether it is served
  pub look : (slots id : ℕ) (me : Me (Option V) (View E O)) → me.0.stage ≡ Waits → me.1 ≡ [] → Allows K slots id me 16 (λ n. n) (looks by history side origin is_still (step slots 16 0 0 maybe.none) me)
  look slots id me waits empty s kept long at lt =
      let v : View E O = me.0 in
      let r : R s = running by history side origin is_still s kept id v at (live_at v Waits waits refl) in
      let b = r.board in
      let fits : Fits by b s.homes id v Waits = subst (λ (z : Stage). Fits by b s.homes id v z) waits (r.each id v at) in
      let t = fits.1 in
      let found : get_or s.words 16 0 ≡ b.served % 2 ^ 64 = r.words_tell.served_is in
      dite (ℕ_discrete (get_or s.words 16 0) (v.ticket % 2 ^ 64))
      (λ hit. let now : v.ticket ≡ b.served = its_turn by history side origin is_still s r v.ticket t.from t.before (sym found ∙ hit) in
      ⊎_elim
      (λ (o : (seat : ℕ) × (u : View E O) × (get_elem? s.views seat ≡ some u) × (u.stage ≡ Serves)).
      let f : Fits by b s.homes o.0 o.1 Serves = subst (λ (z : Stage). Fits by b s.homes o.0 o.1 z) o.3 (r.each o.0 o.1 o.2) in
      let same : o.0 ≡ id = sym f.1.held_by ∙ ap b.holder (f.2.now ∙ sym now) ∙ t.held_by in
      absurd (waits_serves (sym waits ∙ ap (λ (u : View E O). u.stage) (some-injective _ _ (sym at ∙ ap (λ (k : ℕ). get_elem? s.views k) (sym same) ∙ o.2)) ∙ o.3)))
      (λ (i : (y : V) × (s.homes ≡ some (Some y) ∷ []) × (history y ≡ b.log) × (side y ≡ b.first.side) × (origin y ≡ b.source)).
      let y : V = i.0 in (
        serving (history y) (side y) v,
        takes 0 (Some y),
        ap (λ (hs : List (maybe.Option (Option V))). get_elem? hs 0) i.1,
        inr (looked_runs s r id v at waits now y i.1 i.2 i.3),
        ((λ _. (y, refl, ap (λ (c : List (ℕ × Option V)). (0, Some y) ∷ c) empty, begun s r id v at (live_at v Waits waits refl) y i.2 i.3 i.4)), (λ miss. absurd (miss hit))),
      ))
      r.slot)
      (λ miss. (v, keeps, tt, unchanged s kept id v at, ((λ hit. absurd (miss hit)), (λ _. (refl, empty)))))
    where
      unchanged : (s : State (Option V) (View E O)) → K s → (id : ℕ) (v : View E O) → get_elem? s.views id ≡ some v → K record { words = set s.words 16 (get_or s.words 16 0); homes = s.homes; views = set s.views id v }
      unchanged s k id v at = subst (λ (z : List ℕ × List (View E O)). K record { words = z.0; homes = s.homes; views = z.1 }) (λ i. (sym (set-get_or s.words 16 0) i, sym (set_again s.views id v at) i)) k
