-- How the value comes into the slot, and how a turn is passed.
use Rattle.std.proofs.Common.{◌≡◌, ◌≢◌, ℕ, zero, suc, ◌+◌, ◌%◌, ◌^◌, ◌<◌, ◌≤◌, List, [], ◌∷◌, ◌++◌, get_or, set, Option, Some, None, Bool, true, false, eqb, refl, sym, ap, ◌∙◌, subst, ⊎_elim, inl, inr, arith, append-nil}
use mathlib.Core.Option.{some, some-injective, some-ne-none}
use mathlib.Core.Option as maybe
use lib.ListN.{get_elem?}
use Rattle.atomic_table.specs.Table.{State, Me, step, takes, gives, stepped, Allows, homes_after, rest}
use Rattle.atomic_table.proofs.Lists.{set_else}
use Rattle.chv_book.specs.declared.view.View.{View}
use Rattle.chv_book.specs.declared.view.Stage.{Stage}
use Rattle.chv_book.specs.declared.view.Stage.TheVariants.{Opening, Idle, Waits, Serves, Joined, Spent}
use Rattle.chv_defs_book.specs.Histories.{StartsWith, entries_by, is_out}
use Rattle.chv_book.specs.TicketRule.{is_live, opening, opened, passed, Board, Lives, HasTicket, WordsTell, Fits, Runs, Opens, GoesInTurns}
use Rattle.chv_book.specs.TicketSteps.{opens, passes_on, MayPass}
use Rattle.chv_defs_book.proofs.Histories.{starts_refl, starts_nil, entries_by-append}
use Rattle.chv_book.proofs.Words.{drawn_set, one_served}
use Rattle.chv_book.proofs.TakesTurn.{same_some, live_at}
use Rattle.chv_book.proofs.OneView.{off, each_set, lives_more, alone_set, Next, next_of, next_same, running}
use prog.Atomic.{either}

module _ {V E O : Type 0} (by : E → ℕ) (history : V → List E) (side : V → ℕ × ℕ) (origin : V → O) (is_still : List E → Bool) where
  abbrev R : State (Option V) (View E O) → Type 0
  R = Runs by history side origin is_still

  abbrev K : State (Option V) (View E O) → Type 0
  K = GoesInTurns by history side origin is_still

  others_pass : (b b' : Board E O) (homes homes' : List (maybe.Option (Option V))) (id j : ℕ) (v u : View E O) → StartsWith b'.log b.log → ((m : ℕ) → m ≢ v.caller → entries_by by m b'.log ≡ entries_by by m b.log)
      → b'.source ≡ b.source → b'.served ≡ b.served + 1 → b'.drawn ≡ b.drawn → b'.first.out ≡ b.first.out → ((t : ℕ) → b'.holder t ≡ b.holder t) → b.holder b.served ≡ id → j ≢ id
      → (st : Stage) → (is_live st ≡ true → u.caller ≢ v.caller) → Fits by b homes j u st → Fits by b' homes' j u st
  others_pass b b' homes homes' id j v u grows same src sv dr out hold mine ne st apart fits = go st apart fits
    where
      l_of : u.caller ≢ v.caller → Lives by b j u → Lives by b' j u
      l_of apart l = lives_more by b b' j u grows (same u.caller apart) src (λ h. ap (is_out u.caller) out ∙ h) l

      not_now : HasTicket by b j u → u.ticket ≢ b.served
      not_now t is = ne (sym t.held_by ∙ ap b.holder is ∙ mine)

      t_of : HasTicket by b j u → HasTicket by b' j u
      t_of t = let le : b.served ≤ u.ticket = t.from in let lt : u.ticket < b.drawn = t.before in let other : u.ticket ≢ b.served = not_now t in
          record { from = omega arith; before = omega arith; held_by = hold u.ticket ∙ t.held_by }

      go : (st : Stage) → (is_live st ≡ true → u.caller ≢ v.caller) → Fits by b homes j u st → Fits by b' homes' j u st
      go Opening apart f = absurd f
      go Idle apart f = l_of (apart refl) f
      go Waits apart f = (l_of (apart refl) f.0, t_of f.1)
      go Serves apart f = absurd (not_now f.1 f.2.now)
      go Joined apart f = (l_of (apart refl) f.0, f.1)
      go Spent apart f = tt

  passed_runs : (s : State (Option V) (View E O)) (r : R s) (id : ℕ) (v : View E O) → get_elem? s.views id ≡ some v → v.stage ≡ Serves → (y : V) → MayPass by history side origin is_still v y
      → R record { words = set s.words 16 ((get_or s.words 16 0 + 1) % 2 ^ 64); homes = set s.homes 0 (some (Some y)); views = set s.views id (passed (history y) (side y) v) }
  passed_runs s r id v at serves y ends =
      let b = r.board in
      let w : View E O = passed (history y) (side y) v in
      let n : Next s.views b.first id v w = next_of s.views b.first id v w r.first_is at in
      let live : is_live v.stage ≡ true = live_at v Serves serves refl in
      let fits : Fits by b s.homes id v Serves = subst (λ (st : Stage). Fits by b s.homes id v st) serves (r.each id v at) in
      let l = fits.0 in
      let t = fits.1 in
      let k = fits.2 in
      let from : b.served ≤ v.ticket = t.from in
      let before : v.ticket < b.drawn = t.before in
      let now : v.ticket ≡ b.served = k.now in
      let b' : Board E O = record { log = history y; source = b.source; served = b.served + 1; drawn = b.drawn; holder = b.holder; first = n.next } in
      let out = next_same (λ (u : View E O). u.out) s.views b.first id v w n refl in
      let num = next_same (λ (u : View E O). u.caller) s.views b.first id v w n refl in
      let log_is : history y ≡ b.log ++ ends.added = ends.longer_by ∙ ap (λ (z : List E). z ++ ends.added) k.noted_is in
      let same : (m : ℕ) → m ≢ v.caller → entries_by by m (history y) ≡ entries_by by m b.log = λ m ne.
      ap (entries_by by m) log_is ∙ entries_by-append by m b.log ends.added ∙ ap (λ (z : List E). entries_by by m b.log ++ z) (ends.by_own m ne) ∙ append-nil (entries_by by m b.log) in
      let home : set s.homes 0 (some (Some y)) ≡ some (Some y) ∷ [] = ap (λ (hs : List (maybe.Option (Option V))). set hs 0 (some (Some y))) k.away in
      let l' : Lives by b' id w = record { below = l.below; front = starts_refl (history y); own = refl; source_is = l.source_is; listed = λ ne. let p = l.listed ne in (p.0, ap (is_out v.caller) out ∙ p.1) } in
      let first_live : is_live n.next.stage ≡ true = ⊎_elim (λ (x : (id ≡ 0) × (n.next ≡ w) × (b.first ≡ v)). ap (λ (u : View E O). is_live u.stage) x.1) (λ (x : (id ≢ 0) × (n.next ≡ b.first)). ap (λ (u : View E O). is_live u.stage) x.1 ∙ r.first_lives) n.how in
      record {
        board = b';
        words_tell = one_served b.drawn b.served s.words r.words_tell;
        behind = omega arith;
        first_is = n.next_is;
        first_caller = num ∙ r.first_caller;
        first_lives = first_live;
        each = each_set (λ j u. Fits by b' (set s.homes 0 (some (Some y))) j u u.stage) s.views id w l'
            (λ j u ne e. others_pass b b' s.homes (set s.homes 0 (some (Some y))) id j v u (ends.added, log_is) same refl refl refl out (λ _. refl) (ap b.holder (sym now) ∙ t.held_by) ne u.stage
            (λ live' z. ne (r.alone j id u v e at live' live z)) (r.each j u e));
        held = λ m low lt. let h = r.held m (omega arith) lt in
            let apart : b.holder m ≢ id = λ is. let tick : m ≡ v.ticket = sym h.3 ∙ ap (λ (u : View E O). u.ticket) (some-injective _ _ (sym h.1 ∙ ap (λ (q : ℕ). get_elem? s.views q) is ∙ at)) in omega arith in
            (h.0, set_else s.views id (b.holder m) w apart ∙ h.1, h.2, h.3);
        alone = alone_set s.views id v w at r.alone live refl;
        kept = λ m e. ⊎_elim
            (λ (x : (id ≡ 0) × (n.next ≡ w) × (b.first ≡ v)). ap (λ (u : View E O). entries_by by m u.seen) (sym x.1))
            (λ (x : (id ≢ 0) × (n.next ≡ b.first)).
            let p = l.listed x.0 in
            let free : is_out m b.first.out ≡ false = ap (is_out m) (sym out) ∙ e in
            same m (λ is. off (is_out m b.first.out) (ap (λ (q : ℕ). is_out q b.first.out) is ∙ p.1) free) ∙ r.kept m free ∙ ap (λ (u : View E O). entries_by by m u.seen) (sym x.1))
            n.how;
        quiet = λ q. ⊎_elim
            (λ (x : (id ≡ 0) × (n.next ≡ w) × (b.first ≡ v)). ap (λ (u : View E O). u.out) x.1 ∙ ends.quiet (ap (λ (u : View E O). u.caller) (sym x.2) ∙ r.first_caller) q)
            (λ (x : (id ≢ 0) × (n.next ≡ b.first)). let p = l.listed x.0 in let pos : 0 < v.caller = p.0 in out ∙ r.quiet (ap is_still (sym (same 0 (λ (z : 0 ≡ v.caller). omega arith))) ∙ q))
            n.how;
        slot = inr (
          y,
          home,
          refl,
          ⊎_elim
              (λ (x : (id ≡ 0) × (n.next ≡ w) × (b.first ≡ v)). ap (λ (u : View E O). u.side) (sym x.1))
              (λ (x : (id ≢ 0) × (n.next ≡ b.first)). let p = l.listed x.0 in let pos : 0 < v.caller = p.0 in
              ends.side_is (λ (z : v.caller ≡ 0). omega arith) ∙ k.side_is ∙ ap (λ (u : View E O). u.side) (sym x.1))
              n.how,
          same_some _ _ (sym ends.source_is ∙ l.source_is),
        );
      }

  -- a turn is passed
  pub pass : (slots id : ℕ) (me : Me (Option V) (View E O)) (y : V) → me.0.stage ≡ Serves → me.1 ≡ (0, Some y) ∷ [] → MayPass by history side origin is_still me.0 y → Allows K slots id me 16 (λ n. (n + 1) % 2 ^ 64) (passes_on history side (step slots 16 1 0 maybe.none) me)
  pass slots id me y serves carried ends s kept long at lt =
      let v : View E O = me.0 in
      let r : R s = running by history side origin is_still s kept id v at (live_at v Serves serves refl) in (
        passed (history y) (side y) v,
        gives,
        tt,
        inr (subst (λ (c : List (ℕ × Option V)). R record { words = set s.words 16 ((get_or s.words 16 0 + 1) % 2 ^ 64); homes = homes_after s.homes c gives; views = set s.views id (passed (history y) (side y) v) }) (sym carried) (passed_runs s r id v at serves y ends)),
        (λ z is. let same : y ≡ z = same_head y z (sym carried ∙ is) in (ap (λ (x : V). passed (history x) (side x) v) same, ap rest carried)),
      )
    where
      first_of_all : V → List (ℕ × Option V) → V
      first_of_all d [] = d
      first_of_all d (x ∷ xs) = elim x.1 [ None ↦ d | Some y ↦ y ]

      same_head : (y z : V) → ◌≡◌ {A = List (ℕ × Option V)} ((0, Some y) ∷ []) ((0, Some z) ∷ []) → y ≡ z
      same_head y z e = ap (first_of_all y) e

  only : (a b : View E O) (id : ℕ) → get_elem? (a ∷ []) id ≡ some b → (id ≡ 0) × (a ≡ b)
  only a b zero e = (refl, some-injective a b e)
  only a b (suc id) e = absurd (some-ne-none b (sym e))

  -- the value comes into the slot: the turn of the first seat begins
  opened_runs : (words : List ℕ) → WordsTell 1 0 words → (y : V) → R record { words = words; homes = maybe.none ∷ []; views = opened (origin y) (side y) ∷ [] }
  opened_runs words tell y =
      let w : View E O = opened (origin y) (side y) in
      let b : Board E O = record { log = []; source = origin y; served = 0; drawn = 1; holder = λ _. 0; first = w } in
      let l : Lives by b 0 w = record { below = omega arith; front = starts_nil []; own = refl; source_is = refl; listed = λ ne. absurd (ne refl) } in
      let t : HasTicket by b 0 w = record { from = omega arith; before = omega arith; held_by = refl } in
      record {
        board = b;
        words_tell = tell;
        behind = omega arith;
        first_is = refl;
        first_caller = refl;
        first_lives = refl;
        each = λ j u e. let o = only w u j e in subst (λ (z : ℕ × (View E O)). Fits {V = V} by b (maybe.none ∷ []) z.0 z.1 z.1.stage) (λ i. (sym o.0 i, o.1 i)) (l, t, record { now = refl; noted_is = refl; side_is = refl; away = refl });
        held = λ m low lt. (w, refl, refl, omega arith);
        alone = λ i j u z ei ej _ _ _. (only w u i ei).0 ∙ sym (only w z j ej).0;
        kept = λ m e. refl;
        quiet = λ q. refl;
        slot = inl (0, w, refl, refl);
      }

  pub open_book : (slots id : ℕ) (me : Me (Option V) (View E O)) (y : V) (said : Option V) → said ≡ Some y → me.0 ≡ opening → me.1 ≡ [] → Allows K slots id me 0 (λ n. either (eqb n 1) 1 n) (opens side origin (step slots 0 1 1 (some said)) me)
  open_book slots id me y said says starts empty s kept long at lt = ⊎_elim
      (λ (o : Opens by history side origin is_still s).
      let here = only opening me.0 id (subst (λ (vs : List (View E O)). get_elem? vs id ≡ some me.0) o.views_are at) in
      let words : List ℕ = set s.words 0 (either (eqb (get_or s.words 0 0) 1) 1 (get_or s.words 0 0)) in
      let tell : WordsTell 1 0 words = drawn_set 1 0 s.words o.words_tell 1 _ (ap (λ (x : ℕ). either (eqb x 1) 1 x) o.words_tell.drawn_is) in
      let is : record { words = words; homes = maybe.none ∷ []; views = opened (origin y) (side y) ∷ [] } ≡ stepped s 0 (either (eqb (get_or s.words 0 0) 1) 1 (get_or s.words 0 0)) id me.1 (opened (origin y) (side y)) (takes 0 None) =
      λ i. record { words = words; homes = set (sym o.homes_are i) 0 maybe.none; views = set (sym o.views_are i) (sym here.0 i) (opened (origin y) (side y)) } in (
        opened (origin y) (side y),
        takes 0 None,
        ap (λ (hs : List (maybe.Option (Option V))). get_elem? hs 0) o.homes_are,
        inr (subst R is (opened_runs words tell y)),
        (λ z e. let same : y ≡ z = same_value y z (sym says ∙ some-injective _ _ e) in (ap (λ (x : V). opened (origin x) (side x)) same, ap (λ (c : List (ℕ × Option V)). (0, None) ∷ c) empty)),
      ))
      (λ (r : R s). absurd (subst (λ (v : View E O). Fits by r.board s.homes id v v.stage) starts (r.each id me.0 at)))
      kept
    where
      value_or : V → Option V → V
      value_or d None = d
      value_or d (Some x) = x

      same_value : (y z : V) → Some y ≡ Some z → y ≡ z
      same_value y z e = ap (value_or y) e

  -- the table as it begins
  pub begins : (words : List ℕ) → WordsTell 1 0 words → K record { words = words; homes = some None ∷ []; views = opening ∷ [] }
  begins words tell = inl record { words_tell = tell; views_are = refl; homes_are = refl }
