-- The numbers of a set, ascending.
use Rattle.std.proofs.Common.{◌≡◌, ℕ, ◌+◌, ◌-◌, ◌<◌, ◌≤◌, Bool, true, false, List, [], ◌∷◌, ◌++◌, Option, None, Some, refl, sym, ◌∙◌, ap, subst, arith, length, suc, inl, inr}
use Rattle.std.specs.Prelude.{filter, find, cond, MatchOption}
use Rattle.std.proofs.lemmas.Bool.{cases_order}
use Rattle.std.proofs.lemmas.Bool.Decides.{nat_tests}
use Rattle.chv_defs_memory.specs.declared.bank.Span.{Span}
use Rattle.chv_defs_memory.specs.BlockSets.{has, members_from, first_within, is_within}

-- as many as there are true values
pub count_of-from : (k : ℕ) (bs : List Bool) → length (members_from k bs) ≡ length (filter (λ b. b) bs)
count_of-from k [] = refl
count_of-from k (true ∷ bs) = ap suc (count_of-from (k + 1) bs)
count_of-from k (false ∷ bs) = count_of-from (k + 1) bs

pub length-filter-le : (bs : List Bool) → length (filter (λ b. b) bs) ≤ length bs
length-filter-le [] = omega arith
length-filter-le (true ∷ bs) = omega (arith, length-filter-le bs)
length-filter-le (false ∷ bs) = omega (arith, length-filter-le bs)

-- one truth value more at the end
pub members_from-snoc : (k : ℕ) (bs : List Bool) (b : Bool) → members_from k (bs ++ b ∷ []) ≡ members_from k bs ++ cond b ((k + length bs) ∷ []) []
members_from-snoc k [] true = ap (λ n. n ∷ []) (omega arith)
members_from-snoc k [] false = refl
members_from-snoc k (true ∷ bs) b =
    let place : k + 1 + length bs ≡ k + length (true ∷ bs) = omega arith in
    ap (λ rest. k ∷ rest) (members_from-snoc (k + 1) bs b ∙ ap (λ n. members_from (k + 1) bs ++ cond b (n ∷ []) []) place)
members_from-snoc k (false ∷ bs) b =
    let place : k + 1 + length bs ≡ k + length (false ∷ bs) = omega arith in
    members_from-snoc (k + 1) bs b ∙ ap (λ n. members_from (k + 1) bs ++ cond b (n ∷ []) []) place

-- ---- which numbers are members, where the list begins at a number

has-later : (b : Bool) (bs : List Bool) (a k : ℕ) → a + 1 ≤ k → has (b ∷ bs) (k - a) ≡ has bs (k - (a + 1))
has-later b bs a k h = let e : k - a ≡ suc (k - (a + 1)) = omega arith in ap (has (b ∷ bs)) e

has-here : (b : Bool) (bs : List Bool) (a : ℕ) → has (b ∷ bs) (a - a) ≡ b
has-here b bs a = let e : a - a ≡ 0 = omega arith in ap (has (b ∷ bs)) e

-- what the first member that passes a test is
abbrev pub IsFirstMember : (ℕ → Bool) → ℕ → List Bool → Option ℕ → Type 0
IsFirstMember p a bs found = MatchOption found ((k : ℕ) → a ≤ k → has bs (k - a) ≡ true → p k ≡ false) (λ m. (a ≤ m) × (has bs (m - a) ≡ true) × (p m ≡ true) × ((k : ℕ) → a ≤ k → k < m → has bs (k - a) ≡ true → p k ≡ false))

from_next : (p : ℕ → Bool) (b : Bool) (bs : List Bool) (a k : ℕ) → (b ≡ true → p a ≡ false) → a ≤ k → has (b ∷ bs) (k - a) ≡ true → (a + 1 ≤ k → has bs (k - (a + 1)) ≡ true → p k ≡ false) → p k ≡ false
from_next p b bs a k here low there f =
    elim (cases_order a k) [
      | inl e ↦ (let P : ℕ → Type 0 = λ x. p x ≡ false in
          let same : a - a ≡ k - a = ap (λ x. x - a) e in
          subst P e (here (sym (has-here b bs a) ∙ ap (has (b ∷ bs)) same ∙ there)))
      | inr apart ↦ (elim apart [
        | inl less ↦ (let next : a + 1 ≤ k = omega arith in f next (sym (has-later b bs a k next) ∙ there))
        | inr more ↦ absurd (omega arith)
      ])
    ]

onto : (p : ℕ → Bool) (a : ℕ) (b : Bool) (bs : List Bool) (rest : Option ℕ) → (b ≡ true → p a ≡ false) → IsFirstMember p (a + 1) bs rest → IsFirstMember p a (b ∷ bs) rest
onto p a b bs None here r = λ k low there. from_next p b bs a k here low there (λ next. r k next)
onto p a b bs (Some m) here r =
    let low : a + 1 ≤ m = r.0 in
    (omega arith, has-later b bs a m low ∙ r.1, r.2, λ k at less there. from_next p b bs a k here at there (λ next. r.3 k next less))

first : (p : ℕ → Bool) (a : ℕ) (bs : List Bool) (b : Bool) (rest : Option ℕ) → p a ≡ b → IsFirstMember p (a + 1) bs rest → IsFirstMember p a (true ∷ bs) (cond b (Some a) rest)
first p a bs true rest h r = (omega arith, has-here true bs a, h, λ k low less there. absurd (omega arith))
first p a bs false rest h r = onto p a true bs rest (λ _. h) r

pub find-members : (p : ℕ → Bool) (a : ℕ) (bs : List Bool) → IsFirstMember p a bs (find p (members_from a bs))
find-members p a [] = λ k low there. cc
find-members p a (true ∷ bs) = first p a bs (p a) (find p (members_from (a + 1) bs)) refl (find-members p (a + 1) bs)
find-members p a (false ∷ bs) = onto p a false bs (find p (members_from (a + 1) bs)) (λ h. cc) (find-members p (a + 1) bs)

within_parts : (span : Span) (k : ℕ) → is_within span k ≡ true → (span.first ≤ k) × (k < span.first + span.count)
within_parts span k h = (grind (arith, nat_tests), grind (arith, nat_tests))

within_true : (span : Span) (k : ℕ) → span.first ≤ k → k < span.first + span.count → is_within span k ≡ true
within_true span k h g = grind (arith, nat_tests)

-- the lowest number of a span that is in the set
pub first_within-at : (set : List Bool) (span : Span) (m : ℕ) → span.first ≤ m → m < span.first + span.count → has set m ≡ true → ((k : ℕ) → span.first ≤ k → k < m → has set k ≡ false) → first_within set span ≡ Some m
first_within-at set span m low high there none = by (find (is_within span) (members_from 0 set)) (find-members (is_within span) 0 set)
  where
    by : (found : Option ℕ) → IsFirstMember (is_within span) 0 set found → found ≡ Some m
    by None f =
        let out : is_within span m ≡ false = f m (omega arith) (ap (has set) (let e : m - 0 ≡ m = omega arith in e) ∙ there) in
        let inside : is_within span m ≡ true = within_true span m low high in
        cc
    by (Some n) f = elim (cases_order n m) [
      | inl e ↦ ap Some e
      | inr apart ↦ (elim apart [
        | inl less ↦ (let out : has set n ≡ false = none n (within_parts span n f.2).0 less in
            let inside : has set n ≡ true = ap (has set) (let e : n ≡ n - 0 = omega arith in e) ∙ f.1 in
            cc)
        | inr more ↦ (let out : is_within span m ≡ false = f.3 m (omega arith) more (ap (has set) (let e : m - 0 ≡ m = omega arith in e) ∙ there) in
            let inside : is_within span m ≡ true = within_true span m low high in
            cc)
      ])
    ]

-- no number of a span is in the set
pub first_within-none : (set : List Bool) (span : Span) → ((k : ℕ) → span.first ≤ k → k < span.first + span.count → has set k ≡ false) → first_within set span ≡ None
first_within-none set span none = by (find (is_within span) (members_from 0 set)) (find-members (is_within span) 0 set)
  where
    by : (found : Option ℕ) → IsFirstMember (is_within span) 0 set found → found ≡ None
    by None f = refl
    by (Some n) f =
        let parts = within_parts span n f.2 in
        let out : has set n ≡ false = none n parts.0 parts.1 in
        let inside : has set n ≡ true = ap (has set) (let e : n ≡ n - 0 = omega arith in e) ∙ f.1 in
        cc
