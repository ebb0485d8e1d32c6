-- Numbers that are kept as flags.
use Rattle.std.proofs.Common.{◌≡◌, ◌≢◌, ℕ, zero, suc, ◌+◌, ◌<◌, ◌≤◌, ◌==◌, ⊎_elim, Bool, true, false, List, [], ◌∷◌, length, get_or, set, replicate, refl, sym, ap, ◌∙◌, arith}
use Rattle.std.proofs.lemmas.Bool.{cases_eq, cases_lt}
use Rattle.std.proofs.lemmas.Bool.Decides.{nat_tests}
use Rattle.std.proofs.lemmas.List.{get_or-set_other, get_or-set_same, get_or_past}
use Rattle.chv_defs_memory.specs.BlockSets.{members, members_from}
use Rattle.chv_defs_memory.specs.Lending.{is_in, OneLess, OneMore}

other-number : (m n : ℕ) → m ≢ n → (m == n) ≡ false
other-number m n other = grind (arith, nat_tests, other)

self : (n : ℕ) → (n == n) ≡ true
self n = grind (arith, nat_tests)

not-below : (flags : List Bool) (from n : ℕ) → n < from → is_in n (members_from from flags) ≡ false
not-below [] from n below = refl
not-below (true ∷ flags) from n below = rw (other-number from n (λ e. omega (arith, e, below))) (not-below flags (from + 1) n (omega (arith, below)))
not-below (false ∷ flags) from n below = not-below flags (from + 1) n (omega (arith, below))

in-from : (flags : List Bool) (from k n : ℕ) → n ≡ from + k → is_in n (members_from from flags) ≡ get_or flags k false
in-from [] from k n at = refl
in-from (true ∷ flags) from zero n at =
    let here : (from == n) ≡ true = grind (arith, nat_tests, at) in rw here refl
in-from (false ∷ flags) from zero n at = not-below flags (from + 1) n (omega (arith, at))
in-from (true ∷ flags) from (suc k) n at =
    rw (other-number from n (λ e. omega (arith, e, at))) (in-from flags (from + 1) k n (omega (arith, at)))
in-from (false ∷ flags) from (suc k) n at = in-from flags (from + 1) k n (omega (arith, at))

-- a number is among them exactly where its flag is set
in-members : (flags : List Bool) (n : ℕ) → is_in n (members flags) ≡ get_or flags n false
in-members flags n = in-from flags 0 n n (omega arith)

-- and then there is a flag of it
pub has-flag : (flags : List Bool) (n : ℕ) → is_in n (members flags) ≡ true → n < length flags
has-flag flags n here = ⊎_elim
    (λ (inside : n < length flags). inside)
    (λ (past : length flags ≤ n). let none : is_in n (members flags) ≡ false = in-members flags n ∙ get_or_past flags n false past in let wrong : n < length flags = cc in wrong)
    (cases_lt n (length flags))

none-from : (from count : ℕ) → members_from from (replicate count false) ≡ []
none-from from zero = refl
none-from from (suc count) = none-from (from + 1) count

-- no flag is set
pub no-members : (count : ℕ) → members (replicate count false) ≡ []
no-members count = none-from 0 count

-- a flag is set
pub one-more-flag : (flags : List Bool) (caller : ℕ) → caller < length flags → OneMore caller (members flags) (members (set flags caller true))
one-more-flag flags caller inside = λ n.
    in-members (set flags caller true) n ∙ ⊎_elim
    (λ (e : n ≡ caller). ap (λ (m : ℕ). get_or (set flags caller true) m false) e ∙ get_or-set_same flags caller true false inside
    ∙ sym (rw e (rw (self caller) refl)))
    (λ (o : n ≢ caller). get_or-set_other flags caller n true false o ∙ sym (in-members flags n)
    ∙ sym (rw (other-number caller n (λ e. o (sym e))) refl))
    (cases_eq n caller)

-- a flag is cleared
pub one-less-flag : (flags : List Bool) (caller : ℕ) → caller < length flags → OneLess caller (members flags) (members (set flags caller false))
one-less-flag flags caller inside = (
  in-members (set flags caller false) caller ∙ get_or-set_same flags caller false false inside,
  λ n other. in-members (set flags caller false) n
      ∙ get_or-set_other flags caller n false false (λ e. let wrong : (n == caller) ≡ true = rw e (self caller) in let both : true ≡ false = sym wrong ∙ other in cc)
      ∙ sym (in-members flags n),
)
