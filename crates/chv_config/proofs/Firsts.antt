-- The first rule that is broken, and the first number that passes a test.
use Rattle.std.proofs.Common.{◌≡◌, ℕ, ◌+◌, ◌<◌, ◌≤◌, Bool, true, false, List, [], ◌∷◌, ◌++◌, Option, None, Some, refl, ap, ◌∙◌, arith, zero, suc, subst, inl, inr}
use Rattle.std.specs.Prelude.{find, cond, MatchOption}
use Rattle.std.specs.List.{range_with_len}
use Rattle.std.specs.Option.{option_or}
use Rattle.std.proofs.lemmas.Bool.{cases_order}
use Rattle.chv_defs_base.specs.declared.rule.Rule.{Rule}
use Rattle.chv_defs_api.specs.ConfigRules.{first_broken}

-- rules behind others: the first that is broken is one of those before, or else one of those behind
pub first_broken-append : (xs ys : List (Bool × Rule)) → first_broken (xs ++ ys) ≡ option_or (first_broken xs) (first_broken ys)
first_broken-append [] ys = refl
first_broken-append ((true, rule) ∷ xs) ys = refl
first_broken-append ((false, rule) ∷ xs) ys = first_broken-append xs ys

-- a rule broken in the first rows is the answer
pub first_broken-some : (xs ys : List (Bool × Rule)) (rule : Rule) → first_broken xs ≡ Some rule → first_broken (xs ++ ys) ≡ Some rule
first_broken-some xs ys rule h = first_broken-append xs ys ∙ ap (λ found. option_or found (first_broken ys)) h

-- where no rule of the first rows is broken, the others decide
pub first_broken-none : (xs ys : List (Bool × Rule)) → first_broken xs ≡ None → first_broken (xs ++ ys) ≡ first_broken ys
first_broken-none xs ys h = first_broken-append xs ys ∙ ap (λ found. option_or found (first_broken ys)) h

-- where none is broken, none of either is
pub first_broken-parts : (xs ys : List (Bool × Rule)) → first_broken (xs ++ ys) ≡ None → (first_broken xs ≡ None) × (first_broken ys ≡ None)
first_broken-parts [] ys e = (refl, e)
first_broken-parts ((true, rule) ∷ xs) ys e = cc
first_broken-parts ((false, rule) ∷ xs) ys e = first_broken-parts xs ys e

-- what the first of n numbers from a on that passes a test is
abbrev pub IsFirstPassing : (ℕ → Bool) → ℕ → ℕ → Option ℕ → Type 0
IsFirstPassing p a n found = MatchOption found ((j : ℕ) → a ≤ j → j < a + n → p j ≡ false) (λ m. (a ≤ m) × (m < a + n) × (p m ≡ true) × ((j : ℕ) → a ≤ j → j < m → p j ≡ false))

-- what holds of a and of each number above it
from_next : (p : ℕ → Bool) (a j : ℕ) → p a ≡ false → a ≤ j → (a + 1 ≤ j → p j ≡ false) → p j ≡ false
from_next p a j h low f =
    elim (cases_order a j) [
      | inl e ↦ (let P : ℕ → Type 0 = λ x. p x ≡ false in subst P e h)
      | inr apart ↦ (elim apart [ inl less ↦ f (omega arith) | inr more ↦ absurd (omega arith) ])
    ]

-- one number more in front
onto : (p : ℕ → Bool) (a n : ℕ) (b : Bool) (rest : Option ℕ) → p a ≡ b → IsFirstPassing p (a + 1) n rest → IsFirstPassing p a (suc n) (cond b (Some a) rest)
onto p a n true rest h r = (omega arith, omega arith, h, λ j low high. absurd (omega arith))
onto p a n false None h r = λ j low high. from_next p a j h low (λ next. r j next (omega arith))
onto p a n false (Some m) h r = (omega arith, omega arith, r.2, λ j low high. from_next p a j h low (λ next. r.3 j next high))

pub find-range : (p : ℕ → Bool) (a n : ℕ) → IsFirstPassing p a n (find p (range_with_len a n))
find-range p a zero = λ j low high. absurd (omega arith)
find-range p a (suc n) = onto p a n (p a) (find p (range_with_len (a + 1) n)) refl (find-range p (a + 1) n)
