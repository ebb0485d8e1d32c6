-- The search among pages that stand in the order of their numbers.
use Rattle.std.proofs.Common.{◌≡◌, ℕ, ◌+◌, ◌<◌, ◌≤◌, Bool, true, false, List, [], ◌∷◌, Result, Ok, Err, refl, sym, ap, subst, arith, suc, length}
use Rattle.std.specs.Prelude.{cond, ◌==◌, ◌||◌, nat_lt, is_ok, map, MatchOption, MatchResult}
use Rattle.std.specs.Result.{result_ok}
use Rattle.std.proofs.lemmas.Bool.Decides.{nat_tests}
use Rattle.chv_lists.specs.Locate.{locate, Follow}
use Rattle.chv_lists.proofs.Located.{locate-cases}
use Rattle.chv_pages.specs.declared.held.Held.{Held}
use Rattle.chv_pages.specs.HeldPages.{has_number, put, AreHeld, IsAt}
use Rattle.chv_pages.specs.Order.{AreInOrder}

-- pages stand in order from a number on
abbrev pub Ascend : ℕ → List Held → Type 0
Ascend low held = Follow (λ (h : Held). h.number) (λ (h : Held). h.number + 1) low held

-- the place of the page with a number, or the place where it belongs
abbrev pub located : List Held → ℕ → Result ℕ ℕ
located held number = locate (λ (h : Held). h.number) (λ (h : Held). h.number + 1) held number

none-above : (low : ℕ) (held : List Held) (number : ℕ) → Ascend low held → number < low → has_number held number ≡ false
none-above low [] number o h = refl
none-above low (x ∷ held) number o h =
    let from : low ≤ x.number = o.0 in
    let other : (x.number == number) ≡ false = grind (arith, nat_tests) in
    rw other (none-above (x.number + 1) held number o.2 (omega arith))

-- the first page with the number stands at a place
pub record Found (number : ℕ) (held : List Held) (place : ℕ) : Type 0 where
  pub within : place < length held
  pub at : IsAt held place number
  pub has : has_number held number ≡ true

-- no page has the number, if the pages stand in order
abbrev Missed : ℕ → List Held → Type 0
Missed number held = (low : ℕ) → Ascend low held → has_number held number ≡ false

-- what is located is the first page with the number, and where nothing is, no page has it
located-cases : (number : ℕ) (held : List Held) → MatchResult (located held number) (Found number held) (λ place. Missed number held)
located-cases number held = locate-cases (λ (h : Held). h.number) (λ (h : Held). h.number + 1) number (Found number) (λ hs place. Missed number hs) (λ low o. refl) here before further missed held
  where
    here : (x : Held) (hs : List Held) → x.number ≤ number → number < x.number + 1 → Found number (x ∷ hs) 0
    here x hs from below =
        let same : (x.number == number) ≡ true = grind (arith, nat_tests) in
        record { within = omega arith; at = omega arith; has = ap (λ b. b || has_number hs number) same }

    before : (x : Held) (hs : List Held) → number < x.number → number < x.number + 1 → Missed number (x ∷ hs)
    before x hs above below =
        let other : (x.number == number) ≡ false = grind (arith, nat_tests) in
        λ low o. rw other (none-above (x.number + 1) hs number o.2 below)

    or_right : (a b : Bool) → b ≡ true → (a || b) ≡ true
    or_right true b h = refl
    or_right false b h = h

    further : (x : Held) (hs : List Held) (k : ℕ) → x.number + 1 ≤ number → Found number hs k → Found number (x ∷ hs) (suc k)
    further x hs k past f = record {
      within = omega (arith, f.within);
      at = (λ e. absurd (omega (arith, past, e)), f.at);
      has = or_right (x.number == number) (has_number hs number) f.has;
    }

    missed : (x : Held) (hs : List Held) (k : ℕ) → x.number + 1 ≤ number → Missed number hs → Missed number (x ∷ hs)
    missed x hs k past f =
        let other : (x.number == number) ≡ false = grind (arith, nat_tests) in
        λ low o. rw other (f (x.number + 1) o.2)

-- a page with the number is located exactly if there is one
pub has-located : (held : List Held) (number : ℕ) → AreInOrder held → is_ok (located held number) ≡ has_number held number
has-located held number o = by (located held number) (located-cases number held)
  where
    by : (r : Result ℕ ℕ) → MatchResult r (Found number held) (λ k. Missed number held) → is_ok r ≡ has_number held number
    by (Ok place) m = sym m.has
    by (Err place) m = sym (m 0 o)

-- the place that is found, if one is
pub find-located : (held : List Held) (number : ℕ) → AreInOrder held → MatchOption (result_ok (located held number)) (has_number held number ≡ false) (λ place. (place < length held) × IsAt held place number)
find-located held number o = by (located held number) (located-cases number held)
  where
    by : (r : Result ℕ ℕ) → MatchResult r (Found number held) (λ k. Missed number held) → MatchOption (result_ok r) (has_number held number ≡ false) (λ place. (place < length held) × IsAt held place number)
    by (Ok place) m = (m.within, m.at)
    by (Err place) m = m 0 o

-- pages that are held ascend
pub in-order : (low high : ℕ) (held : List Held) → AreHeld low high held → Ascend low held
in-order low high [] a = tt
in-order low high (x ∷ held) a = (a.0, omega arith, in-order (x.number + 1) high held a.3)

-- with one page put at its number they stand in order as before
put-ascend : (low : ℕ) (held : List Held) (number : ℕ) (page : List ℕ) → low ≤ number → Ascend low held → Ascend low (put held number page)
put-ascend low [] number page from o = (from, omega arith, tt)
put-ascend low (x ∷ held) number page from o = by (nat_lt x.number number) (x.number == number) refl refl (λ next. put-ascend (x.number + 1) held number page next o.2)
  where
    by : (b e : Bool) → nat_lt x.number number ≡ b → (x.number == number) ≡ e → (x.number + 1 ≤ number → Ascend (x.number + 1) (put held number page)) →
        Ascend low (cond b (x ∷ put held number page) (cond e (record { number = number; page = page } ∷ held) (record { number = number; page = page } ∷ x ∷ held)))
    by true e p q f = (o.0, omega arith, f (grind (arith, nat_tests)))
    by false true p q f =
        let same : x.number ≡ number = grind (arith, nat_tests) in
        (from, omega arith, subst (λ n. Ascend (n + 1) held) same o.2)
    by false false p q f =
        let after : number + 1 ≤ x.number = grind (arith, nat_tests) in
        (from, omega arith, (after, omega arith, o.2))

pub put-order : (held : List Held) (number : ℕ) (page : List ℕ) → AreInOrder held → AreInOrder (put held number page)
put-order held number page o = put-ascend 0 held number page (omega arith) o

-- with the same numbers they do too
pub same-order : (low : ℕ) (old new : List Held) → map (λ (h : Held). h.number) new ≡ map (λ (h : Held). h.number) old → Ascend low old → Ascend low new
same-order low old [] e o = tt
same-order low [] (y ∷ new) e o = cc
same-order low (x ∷ old) (y ∷ new) e o =
    let same : y.number ≡ x.number = cc in
    let rest : map (λ (h : Held). h.number) new ≡ map (λ (h : Held). h.number) old = cc in
    (omega (arith, o.0, same), omega arith, subst (λ n. Ascend (n + 1) new) (sym same) (same-order (x.number + 1) old new rest o.2))
