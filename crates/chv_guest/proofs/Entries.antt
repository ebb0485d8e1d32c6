-- The history of a bank among all banks, as a list of traces has it.
use Rattle.std.proofs.Common.{◌≡◌, ◌⊎◌, inl, inr, ◌≤◌, ◌<◌, ℕ, suc, ◌+◌, ◌-◌, ◌/◌, ◌%◌, ◌==◌, Bool, true, false, cond, List, [], ◌∷◌, get_or, Option, None, Some, refl, sym, ap, ◌∙◌, arith}
use Rattle.std.specs.Prelude.{◌&&◌, find, length}
use Rattle.std.proofs.lemmas.Bool.Decides.{nat_tests}
use Rattle.chv_defs_memory.specs.BankBook.{BankBook, fresh}
use Rattle.chv_defs_memory.specs.BankState.{banks}

-- whether a book is that of a bank
abbrev pub is_book_of : ℕ → ℕ → BankBook → Bool
is_book_of zone bank b = b.zone == zone && b.bank == bank

-- the book that is found
abbrev pub or_fresh : Option BankBook → BankBook
or_fresh None = fresh 0 0
or_fresh (Some b) = b

differs : (zone bank k p : ℕ) (b : BankBook) → b.zone ≡ k / banks → b.bank ≡ k % banks → zone ≡ p / banks → bank ≡ p % banks → k < p
    → is_book_of zone bank b ≡ false
differs zone bank k p b zone_is bank_is z b' below = grind (arith, nat_tests)

agrees : (zone bank p : ℕ) (b : BankBook) → b.zone ≡ p / banks → b.bank ≡ p % banks → zone ≡ p / banks → bank ≡ p % banks
    → is_book_of zone bank b ≡ true
agrees zone bank p b zone_is bank_is z b' = grind (arith, nat_tests)

lt_or_eq : (k p : ℕ) → k ≤ p → (k < p) ⊎ (k ≡ p)
lt_or_eq k p above = elim (k == p) as (λ v. (k == p) ≡ v → (k < p) ⊎ (k ≡ p)) [
  | true ↦ λ is. inr (grind (arith, nat_tests, is))
  | false ↦ λ is. inl (grind (arith, nat_tests, is))
] refl

pub find_book : (books : List BankBook) (k p zone bank : ℕ)
    → ((i : ℕ) → i < length books → ((get_or books i (fresh 0 0)).zone ≡ (k + i) / banks) × ((get_or books i (fresh 0 0)).bank ≡ (k + i) % banks))
    → k ≤ p → p < k + length books → zone ≡ p / banks → bank ≡ p % banks
    → or_fresh (find (is_book_of zone bank) books) ≡ get_or books (p - k) (fresh 0 0)
find_book [] k p zone bank each above within z b = absurd (omega (arith, above, within))
find_book (book ∷ books) k p zone bank each above within z b =
    let first = each 0 (omega arith) in
    let zone_is : book.zone ≡ k / banks = first.0 ∙ ap (λ n. n / banks) (let e : k + 0 ≡ k = omega arith in e) in
    let bank_is : book.bank ≡ k % banks = first.1 ∙ ap (λ n. n % banks) (let e : k + 0 ≡ k = omega arith in e) in
    elim (lt_or_eq k p above) as (λ v. or_fresh (cond (is_book_of zone bank book) (Some book) (find (is_book_of zone bank) books)) ≡ get_or (book ∷ books) (p - k) (fresh 0 0)) [
      | inl below ↦
          let later : p - k ≡ suc (p - (k + 1)) = omega (arith, below) in
          let rest : or_fresh (find (is_book_of zone bank) books) ≡ get_or books (p - (k + 1)) (fresh 0 0) =
          find_book books (k + 1) p zone bank
          (λ i i_within. let next : (k + 1) + i ≡ k + suc i = omega arith in let one = each (suc i) (omega (arith, i_within)) in
          (one.0 ∙ ap (λ n. n / banks) (sym next), one.1 ∙ ap (λ n. n % banks) (sym next)))
          (omega (arith, below)) (omega (arith, within)) z b in
          rw (differs zone bank k p book zone_is bank_is z b below) (rest ∙ sym (ap (λ n. get_or (book ∷ books) n (fresh 0 0)) later))
      | inr same ↦
          let none : p - k ≡ 0 = omega (arith, same) in
          rw (agrees zone bank p book (zone_is ∙ ap (λ n. n / banks) same) (bank_is ∙ ap (λ n. n % banks) same) z b)
          (sym (ap (λ n. get_or (book ∷ books) n (fresh 0 0)) none))
    ]
