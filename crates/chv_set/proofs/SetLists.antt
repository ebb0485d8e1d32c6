-- Sets as lists of truth values.
use Rattle.std.proofs.Common.{◌≡◌, ℕ, ◌+◌, ◌<◌, ◌≤◌, Bool, true, false, List, sym, ◌∙◌, arith, length, replicate, zero-add, inl, inr}
use Rattle.std.specs.Prelude.{not, ◌||◌, ◌&&◌}
use Rattle.std.proofs.lemmas.List.{ext_get_or, get_or-replicate, length-replicate}
use Rattle.std.proofs.lemmas.List.FromFn.{get_or-map-range_with_len, length-map-range_with_len}
use Rattle.std.proofs.lemmas.Bool.{cases_lt}
use Rattle.std.proofs.lemmas.Bool.Decides.{nat_tests}
use Rattle.chv_lists.proofs.Bools.{and_false, and_true, or_false, or_true}
use Rattle.chv_defs_memory.specs.declared.bank.Span.{Span}
use Rattle.chv_defs_memory.specs.BlockSets.{has, numbers_where, is_within, no_blocks, with_span, without_span}

-- a set is given by which numbers it has
pub numbers_where-is : (size : ℕ) (p : ℕ → Bool) (set : List Bool) → length set ≡ size → ((k : ℕ) → k < size → has set k ≡ p k) → set ≡ numbers_where size p
numbers_where-is size p set len same =
    ext_get_or false set (numbers_where size p) (len ∙ sym (length-map-range_with_len p 0 size))
    (λ k small.
    let below : k < size = omega (arith, len) in
    same k below ∙ sym (get_or-map-range_with_len p 0 size k k false below (zero-add k)))

pub no_blocks-is : (n : ℕ) → replicate n false ≡ no_blocks n
no_blocks-is n = numbers_where-is n (λ _. false) (replicate n false) (length-replicate n false) (λ k small. get_or-replicate n k false false small)

-- what a write of one value to a span leaves
pub record PutsAll (old new : List Bool) (first count : ℕ) (value : Bool) : Type 0 where
  pub len : length new ≡ length old
  pub inside : (k : ℕ) → first ≤ k → k < first + count → has new k ≡ value
  pub below : (k : ℕ) → k < first → has new k ≡ has old k
  pub above : (k : ℕ) → first + count ≤ k → has new k ≡ has old k

within_false-below : (span : Span) (k : ℕ) → k < span.first → is_within span k ≡ false
within_false-below span k h = grind (arith, nat_tests)

within_false-above : (span : Span) (k : ℕ) → span.first + span.count ≤ k → is_within span k ≡ false
within_false-above span k h = grind (arith, nat_tests)

within_true : (span : Span) (k : ℕ) → span.first ≤ k → k < span.first + span.count → is_within span k ≡ true
within_true span k h g = grind (arith, nat_tests)

-- with true it is the set with the span
pub with_span-is : (old new : List Bool) (span : Span) → PutsAll old new span.first span.count true → new ≡ with_span old span
with_span-is old new span puts = numbers_where-is (length old) (λ k. has old k || is_within span k) new puts.len by
  where
    by : (k : ℕ) → k < length old → has new k ≡ (has old k || is_within span k)
    by k small = elim (cases_lt k span.first) [
      | inl before ↦ puts.below k before ∙ sym (rw (within_false-below span k before) (or_false (has old k)))
      | inr from ↦ (elim (cases_lt k (span.first + span.count)) [
        | inl inside ↦ puts.inside k from inside ∙ sym (rw (within_true span k from inside) (or_true (has old k)))
        | inr behind ↦ puts.above k behind ∙ sym (rw (within_false-above span k behind) (or_false (has old k)))
      ])
    ]

-- with false it is the set without the span
pub without_span-is : (old new : List Bool) (span : Span) → PutsAll old new span.first span.count false → new ≡ without_span old span
without_span-is old new span puts = numbers_where-is (length old) (λ k. has old k && not (is_within span k)) new puts.len by
  where
    by : (k : ℕ) → k < length old → has new k ≡ (has old k && not (is_within span k))
    by k small = elim (cases_lt k span.first) [
      | inl before ↦ puts.below k before ∙ sym (rw (within_false-below span k before) (and_true (has old k)))
      | inr from ↦ (elim (cases_lt k (span.first + span.count)) [
        | inl inside ↦ puts.inside k from inside ∙ sym (rw (within_true span k from inside) (and_false (has old k)))
        | inr behind ↦ puts.above k behind ∙ sym (rw (within_false-above span k behind) (and_true (has old k)))
      ])
    ]
