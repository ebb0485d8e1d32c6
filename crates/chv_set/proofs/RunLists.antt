-- Runs of ascending numbers.
use Rattle.std.proofs.Common.{◌≡◌, ℕ, ◌+◌, ◌-◌, ◌<◌, ◌≤◌, Bool, true, false, List, [], ◌∷◌, ◌++◌, refl, sym, ◌∙◌, ap, subst, arith, length, get_or, set, suc, take, inl, inr}
use Rattle.std.specs.Prelude.{cond, ◌==◌, ◌||◌, slice_get}
use Rattle.std.specs.List.{list_any}
use Rattle.std.specs.Option.{option_map_or}
use Rattle.std.proofs.lemmas.Bool.Decides.{nat_tests}
use Rattle.std.proofs.lemmas.Bool.{cases_order}
use Rattle.std.proofs.lemmas.List.{take_more, length-take, append-nil}
use Rattle.chv_lists.proofs.Bools.{bool_eq}
use Rattle.chv_defs_memory.specs.declared.bank.Span.{Span}
use Rattle.chv_defs_memory.specs.BlockSets.{has, members_from, members, runs_of, onto_runs, ranges_of, is_within, AreApart}
use Rattle.chv_set.specs.Runs.{touches_end, longer, onto_end}
use Rattle.chv_set.proofs.Members.{members_from-snoc}

-- a run that begins one number earlier ends at the same place
moved : (x : ℕ) (run : Span) (k : ℕ) {t : Bool} → (run.first == x + 1) ≡ true → (run.first + run.count == k) ≡ t → (x + (run.count + 1) == k) ≡ t
moved x run k p q =
    let same : run.first ≡ x + 1 = grind (arith, nat_tests) in
    let end : x + (run.count + 1) ≡ run.first + run.count = omega arith in
    ap (λ n. n == k) end ∙ q

-- ---- one number more at the end

eqb_comm : (a b : ℕ) → (a == b) ≡ (b == a)
eqb_comm a b = bool_eq (a == b) (b == a) (λ h. grind (arith, nat_tests)) (λ h. grind (arith, nat_tests))

-- the two ways of putting numbers, one at each end
onto_both : (x k : ℕ) (runs : List Span) → onto_runs x (onto_end runs k) ≡ onto_end (onto_runs x runs) k
onto_both x k [] = ap (λ b. cond b (record { first = x; count = 2 } ∷ []) (record { first = x; count = 1 } ∷ record { first = k; count = 1 } ∷ [])) (eqb_comm k (x + 1))
onto_both x k (run ∷ []) = by (run.first == x + 1) (run.first + run.count == k) refl refl
  where
    by : (e t : Bool) → (run.first == x + 1) ≡ e → (run.first + run.count == k) ≡ t →
        onto_runs x (cond t (record run { count = run.count + 1 } ∷ []) (run ∷ record { first = k; count = 1 } ∷ []))
        ≡ onto_end (cond e (record { first = x; count = run.count + 1 } ∷ []) (record { first = x; count = 1 } ∷ run ∷ [])) k
    by true true p q = rw (p, moved x run k p q) refl
    by true false p q = rw (p, moved x run k p q) refl
    by false true p q = rw (p, q) refl
    by false false p q = rw (p, q) refl
onto_both x k (run ∷ next ∷ runs) = by (run.first == x + 1) (touches_end (next ∷ runs) k) refl refl
  where
    by : (e t : Bool) → (run.first == x + 1) ≡ e → touches_end (next ∷ runs) k ≡ t →
        onto_runs x (cond t (run ∷ longer (next ∷ runs)) (run ∷ (next ∷ (runs ++ record { first = k; count = 1 } ∷ []))))
        ≡ onto_end (cond e (record { first = x; count = run.count + 1 } ∷ next ∷ runs) (record { first = x; count = 1 } ∷ run ∷ next ∷ runs)) k
    by true true p q = rw (p, q) refl
    by true false p q = rw (p, q) refl
    by false true p q = rw (p, q) refl
    by false false p q = rw (p, q) refl

pub runs_of-snoc : (ks : List ℕ) (k : ℕ) → runs_of (ks ++ k ∷ []) ≡ onto_end (runs_of ks) k
runs_of-snoc [] k = refl
runs_of-snoc (x ∷ xs) k = ap (onto_runs x) (runs_of-snoc xs k) ∙ onto_both x k (runs_of xs)

-- ---- the last run

pub touches_end-last : (runs : List Span) (k : ℕ) → touches_end runs k ≡ option_map_or (λ run. run.first + run.count == k) (slice_get runs (length runs - 1)) false
touches_end-last [] k = refl
touches_end-last (run ∷ []) k = refl
touches_end-last (run ∷ next ∷ runs) k =
    let here : length (run ∷ next ∷ runs) - 1 ≡ suc (length runs) = omega arith in
    let there : length (next ∷ runs) - 1 ≡ length runs = omega arith in
    touches_end-last (next ∷ runs) k
    ∙ ap (λ n. option_map_or (λ run. run.first + run.count == k) (slice_get (next ∷ runs) n) false) there
    ∙ sym (ap (λ n. option_map_or (λ run. run.first + run.count == k) (slice_get (run ∷ next ∷ runs) n) false) here)

last-ends : (runs : List Span) (k : ℕ) (r : Span) → touches_end runs k ≡ true → r ≡ get_or runs (length runs - 1) r → r.first + r.count ≡ k
last-ends [] k r h e = cc
last-ends (run ∷ []) k r h e = let there : run.first + run.count ≡ k = grind (arith, nat_tests) in ap (λ (s : Span). s.first + s.count) e ∙ there
last-ends (run ∷ next ∷ runs) k r h e =
    let here : length (run ∷ next ∷ runs) - 1 ≡ suc (length runs) = omega arith in
    let there : length runs ≡ length (next ∷ runs) - 1 = omega arith in
    last-ends (next ∷ runs) k r h (e ∙ ap (λ n. get_or (run ∷ next ∷ runs) n r) here ∙ ap (λ n. get_or (next ∷ runs) n r) there)

longer-at : (runs : List Span) (r : Span) → 0 < length runs → r ≡ get_or runs (length runs - 1) r → set runs (length runs - 1) (record { first = r.first; count = r.count + 1 }) ≡ longer runs
longer-at [] r h e = absurd (omega arith)
longer-at (run ∷ []) r h e = ap (λ (s : Span). record { first = s.first; count = s.count + 1 } ∷ []) e
longer-at (run ∷ next ∷ runs) r h e =
    let here : length (run ∷ next ∷ runs) - 1 ≡ suc (length runs) = omega arith in
    let there : length runs ≡ length (next ∷ runs) - 1 = omega arith in
    let v : Span = record { first = r.first; count = r.count + 1 } in
    ap (λ n. set (run ∷ next ∷ runs) n v) here
    ∙ ap (λ n. run ∷ set (next ∷ runs) n v) there
    ∙ ap (λ rest. run ∷ rest) (longer-at (next ∷ runs) r (omega arith) (e ∙ ap (λ n. get_or (run ∷ next ∷ runs) n r) here ∙ ap (λ n. get_or (next ∷ runs) n r) there))

some-run : (runs : List Span) (k : ℕ) → touches_end runs k ≡ true → 0 < length runs
some-run [] k h = cc
some-run (run ∷ runs) k h = omega arith

-- what the code reads and writes at the last place, where the last run touches the number
pub last-fits : (runs read : List Span) (n k : ℕ) (r : Span) → read ≡ runs → n ≡ length runs → true ≡ touches_end read k → r ≡ get_or runs (n - 1) r → r.first + r.count ≡ k
last-fits runs read n k r same len h e =
    last-ends runs k r (sym (h ∙ ap (λ xs. touches_end xs k) same)) (e ∙ ap (λ m. get_or runs (m - 1) r) len)

pub last-longer : (runs read : List Span) (n k : ℕ) (r : Span) → read ≡ runs → n ≡ length runs → true ≡ touches_end read k → r ≡ get_or runs (n - 1) r → set runs (n - 1) (record { first = r.first; count = r.count + 1 }) ≡ onto_end runs k
last-longer runs read n k r same len h e =
    let touches : touches_end runs k ≡ true = sym (h ∙ ap (λ xs. touches_end xs k) same) in
    let value : Span = record { first = r.first; count = r.count + 1 } in
    ap (λ m. set runs (m - 1) value) len
    ∙ longer-at runs r (some-run runs k touches) (e ∙ ap (λ m. get_or runs (m - 1) r) len)
    ∙ sym (ap (λ b. cond b (longer runs) (runs ++ record { first = k; count = 1 } ∷ [])) touches)

-- ---- the runs of the first values

members-step : (bs : List Bool) (i : ℕ) → i < length bs → members (take (i + 1) bs) ≡ members (take i bs) ++ cond (has bs i) (i ∷ []) []
members-step bs i small =
    let place : 0 + length (take i bs) ≡ i = simp length-take (omega arith) in
    ap members (take_more bs i false small)
    ∙ members_from-snoc 0 (take i bs) (has bs i)
    ∙ ap (λ n. members (take i bs) ++ cond (has bs i) (n ∷ []) []) place

pub runs-step-in : (bs : List Bool) (i : ℕ) (old new : List Span) → i < length bs → has bs i ≡ true → old ≡ runs_of (members (take i bs)) → new ≡ onto_end old i → new ≡ runs_of (members (take (i + 1) bs))
runs-step-in bs i old new small there before step =
    step ∙ ap (λ runs. onto_end runs i) before
    ∙ sym (runs_of-snoc (members (take i bs)) i)
    ∙ sym (ap runs_of (members-step bs i small ∙ ap (λ b. members (take i bs) ++ cond b (i ∷ []) []) there))

pub runs-step-out : (bs : List Bool) (i : ℕ) (old : List Span) → i < length bs → has bs i ≡ false → old ≡ runs_of (members (take i bs)) → old ≡ runs_of (members (take (i + 1) bs))
runs-step-out bs i old small there before =
    before ∙ sym (ap runs_of (members-step bs i small ∙ ap (λ b. members (take i bs) ++ cond b (i ∷ []) []) there ∙ append-nil (members (take i bs))))

-- ---- runs of a set

within_one : (x k : ℕ) → is_within (record { first = x; count = 1 }) k ≡ (x == k)
within_one x k = bool_eq (is_within (record { first = x; count = 1 }) k) (x == k) (λ h. grind (arith, nat_tests)) (λ h. grind (arith, nat_tests))

within_more : (x k : ℕ) (run : Span) → run.first ≡ x + 1 → is_within (record { first = x; count = run.count + 1 }) k ≡ ((x == k) || is_within run k)
within_more x k run e = bool_eq (is_within (record { first = x; count = run.count + 1 }) k) ((x == k) || is_within run k) (λ h. grind (arith, nat_tests)) (λ h. grind (arith, nat_tests))

or_assoc : (a b c : Bool) → ((a || b) || c) ≡ (a || (b || c))
or_assoc true b c = refl
or_assoc false b c = refl

onto_runs-within : (x : ℕ) (runs : List Span) (k : ℕ) → list_any (λ run. is_within run k) (onto_runs x runs) ≡ ((x == k) || list_any (λ run. is_within run k) runs)
onto_runs-within x [] k = ap (λ b. b || false) (within_one x k)
onto_runs-within x (run ∷ runs) k = by (run.first == x + 1) refl
  where
    by : (e : Bool) → (run.first == x + 1) ≡ e →
        list_any (λ run. is_within run k) (cond e (record { first = x; count = run.count + 1 } ∷ runs) (record { first = x; count = 1 } ∷ run ∷ runs))
        ≡ ((x == k) || (is_within run k || list_any (λ run. is_within run k) runs))
    by true p =
        let same : run.first ≡ x + 1 = grind (arith, nat_tests) in
        ap (λ b. b || list_any (λ run. is_within run k) runs) (within_more x k run same) ∙ or_assoc (x == k) (is_within run k) (list_any (λ run. is_within run k) runs)
    by false p = ap (λ b. b || (is_within run k || list_any (λ run. is_within run k) runs)) (within_one x k)

-- a number lies in a run where it is one of the numbers
runs_of-within : (ks : List ℕ) (k : ℕ) → list_any (λ run. is_within run k) (runs_of ks) ≡ list_any (λ m. m == k) ks
runs_of-within [] k = refl
runs_of-within (x ∷ ks) k = onto_runs-within x (runs_of ks) k ∙ ap (λ b. (x == k) || b) (runs_of-within ks k)

eqb_no : (a k : ℕ) → k < a → (a == k) ≡ false
eqb_no a k h = grind (arith, nat_tests)

eqb_no_more : (a k : ℕ) → a < k → (a == k) ≡ false
eqb_no_more a k h = grind (arith, nat_tests)

eqb_same : (a : ℕ) → (a == a) ≡ true
eqb_same a = grind (arith, nat_tests)

members-none : (a : ℕ) (bs : List Bool) (k : ℕ) → k < a → list_any (λ m. m == k) (members_from a bs) ≡ false
members-none a [] k h = refl
members-none a (true ∷ bs) k h = rw (eqb_no a k h) (members-none (a + 1) bs k (omega arith))
members-none a (false ∷ bs) k h = members-none (a + 1) bs k (omega arith)

members-any : (a : ℕ) (bs : List Bool) (k : ℕ) → a ≤ k → list_any (λ m. m == k) (members_from a bs) ≡ has bs (k - a)
members-any a [] k h = refl
members-any a (b ∷ bs) k h = elim (cases_order a k) [
  | inl e ↦ at b e
  | inr apart ↦ (elim apart [ inl less ↦ after b less (members-any (a + 1) bs k (omega arith)) | inr more ↦ absurd (omega arith) ])
]
  where
    at : (b : Bool) → a ≡ k → list_any (λ m. m == k) (members_from a (b ∷ bs)) ≡ has (b ∷ bs) (k - a)
    at true e = let place : k - a ≡ 0 = omega arith in rw (place) (ap (λ b. b || list_any (λ m. m == k) (members_from (a + 1) bs)) (ap (λ n. a == n) (sym e) ∙ eqb_same a))
    at false e = let place : k - a ≡ 0 = omega arith in rw (place) (members-none (a + 1) bs k (omega arith))

    after : (b : Bool) → a < k → list_any (λ m. m == k) (members_from (a + 1) bs) ≡ has bs (k - (a + 1)) → list_any (λ m. m == k) (members_from a (b ∷ bs)) ≡ has (b ∷ bs) (k - a)
    after true less ih = let place : k - a ≡ suc (k - (a + 1)) = omega arith in rw (place, eqb_no_more a k less) ih
    after false less ih = let place : k - a ≡ suc (k - (a + 1)) = omega arith in rw (place) ih

-- the runs are together the set
pub ranges-together : (set : List Bool) (k : ℕ) → list_any (λ run. is_within run k) (ranges_of set) ≡ has set k
ranges-together set k =
    let place : k - 0 ≡ k = omega arith in
    runs_of-within (members set) k ∙ members-any 0 set k (omega arith) ∙ ap (has set) place

apart_weaken : (from low : ℕ) (runs : List Span) → low ≤ from → AreApart from runs → AreApart low runs
apart_weaken from low [] h a = tt
apart_weaken from low (run ∷ runs) h a = (omega arith, a.1, a.2)

onto_runs-apart : (from x : ℕ) (runs : List Span) → from ≤ x → AreApart (x + 1) runs → AreApart from (onto_runs x runs)
onto_runs-apart from x [] low a = (low, omega arith, tt)
onto_runs-apart from x (run ∷ runs) low a = by (run.first == x + 1) refl
  where
    by : (b : Bool) → (run.first == x + 1) ≡ b → AreApart from (cond b (record { first = x; count = run.count + 1 } ∷ runs) (record { first = x; count = 1 } ∷ run ∷ runs))
    by true e =
        let same : run.first ≡ x + 1 = grind (arith, nat_tests) in
        let end : run.first + run.count + 1 ≡ x + (run.count + 1) + 1 = omega arith in
        (low, omega arith, subst (λ n. AreApart n runs) end a.2)
    by false e =
        let other : x + 1 + 1 ≤ run.first = grind (arith, nat_tests) in
        (low, omega arith, (other, a.1, a.2))

pub members-apart : (a : ℕ) (bs : List Bool) → AreApart a (runs_of (members_from a bs))
members-apart a [] = tt
members-apart a (true ∷ bs) = onto_runs-apart a a (runs_of (members_from (a + 1) bs)) (omega arith) (members-apart (a + 1) bs)
members-apart a (false ∷ bs) = apart_weaken (a + 1) a (runs_of (members_from (a + 1) bs)) (omega arith) (members-apart (a + 1) bs)
