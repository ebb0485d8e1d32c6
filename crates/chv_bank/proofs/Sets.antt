-- Sets after numbers were put in or taken out.
use Rattle.std.proofs.Common.{◌≡◌, ℕ, ◌<◌, Bool, true, false, ◌∙◌, ap, arith, length, zero-add}
use Rattle.std.specs.Prelude.{not, ◌==◌, ◌||◌, ◌&&◌, nat_lt}
use Rattle.std.proofs.lemmas.List.FromFn.{get_or-map-range_with_len, length-map-range_with_len}
use Rattle.std.proofs.lemmas.Bool.Decides.{nat_tests}
use Rattle.chv_lists.proofs.Bools.{and_false, and_true, bool_eq, or_false, or_true}
use Rattle.chv_defs_memory.specs.declared.bank.Span.{Span}
use Rattle.chv_defs_memory.specs.BlockSets.{Blocks, has, numbers_where, is_within, with_span, without_span}

pub has-numbers_where : (size : ℕ) (p : ℕ → Bool) (k : ℕ) → k < size → has (numbers_where size p) k ≡ p k
has-numbers_where size p k h = get_or-map-range_with_len p 0 size k k false h (zero-add k)

pub len-numbers_where : (size : ℕ) (p : ℕ → Bool) → length (numbers_where size p) ≡ size
len-numbers_where size p = length-map-range_with_len p 0 size

-- a set with a span, of a stated size
pub with_span-len : (size : ℕ) (old new : Blocks) (span : Span) → length old ≡ size → new ≡ with_span old span → length new ≡ size
with_span-len size old new span e f = ap length f ∙ len-numbers_where (length old) (λ k. has old k || is_within span k) ∙ e

pub with_span-has : (size : ℕ) (old new : Blocks) (span : Span) (k : ℕ) → length old ≡ size → new ≡ with_span old span → k < size → has new k ≡ (has old k || is_within span k)
with_span-has size old new span k e f h =
    let small : k < length old = omega arith in
    ap (λ set. has set k) f ∙ has-numbers_where (length old) (λ j. has old j || is_within span j) k small

-- a set without a span
pub without_span-len : (size : ℕ) (old new : Blocks) (span : Span) → length old ≡ size → new ≡ without_span old span → length new ≡ size
without_span-len size old new span e f = ap length f ∙ len-numbers_where (length old) (λ k. has old k && not (is_within span k)) ∙ e

pub without_span-has : (size : ℕ) (old new : Blocks) (span : Span) (k : ℕ) → length old ≡ size → new ≡ without_span old span → k < size → has new k ≡ (has old k && not (is_within span k))
without_span-has size old new span k e f h =
    let small : k < length old = omega arith in
    ap (λ set. has set k) f ∙ has-numbers_where (length old) (λ j. has old j && not (is_within span j)) k small

within_all : (size k : ℕ) → k < size → is_within (record { first = 0; count = size }) k ≡ true
within_all size k h = grind (arith, nat_tests)

within_below : (n k : ℕ) → is_within (record { first = 0; count = n }) k ≡ nat_lt k n
within_below n k = bool_eq (is_within (record { first = 0; count = n }) k) (nat_lt k n) (λ h. grind (arith, nat_tests)) (λ h. grind (arith, nat_tests))

within_here : (block : ℕ) → is_within (record { first = block; count = 1 }) block ≡ true
within_here block = grind (arith, nat_tests)

within_other : (block k : ℕ) → (k == block) ≡ false → is_within (record { first = block; count = 1 }) k ≡ false
within_other block k h = bool_eq (is_within (record { first = block; count = 1 }) k) false (λ g. absurd (grind (arith, nat_tests))) (λ g. cc)

-- all numbers taken out, and those below n put in
pub below-has : (size n k : ℕ) (old mid new : Blocks) → length old ≡ size → mid ≡ without_span old (record { first = 0; count = size }) → new ≡ with_span mid (record { first = 0; count = n }) → k < size → has new k ≡ nat_lt k n
below-has size n k old mid new e f g h =
    let len : length mid ≡ size = without_span-len size old mid (record { first = 0; count = size }) e f in
    let gone : has mid k ≡ false = without_span-has size old mid (record { first = 0; count = size }) k e f h ∙ ap (λ b. has old k && not b) (within_all size k h) ∙ and_false (has old k) in
    with_span-has size mid new (record { first = 0; count = n }) k len g h
    ∙ ap (λ b. b || is_within (record { first = 0; count = n }) k) gone
    ∙ within_below n k

-- one number put in
pub in-here : (size block : ℕ) (old new : Blocks) → length old ≡ size → new ≡ with_span old (record { first = block; count = 1 }) → block < size → has new block ≡ true
in-here size block old new e f h =
    with_span-has size old new (record { first = block; count = 1 }) block e f h ∙ ap (λ b. has old block || b) (within_here block) ∙ or_true (has old block)

pub in-other : (size block k : ℕ) (old new : Blocks) → length old ≡ size → new ≡ with_span old (record { first = block; count = 1 }) → k < size → (k == block) ≡ false → has new k ≡ has old k
in-other size block k old new e f h g =
    with_span-has size old new (record { first = block; count = 1 }) k e f h ∙ ap (λ b. has old k || b) (within_other block k g) ∙ or_false (has old k)

-- one number taken out
pub out-here : (size block : ℕ) (old new : Blocks) → length old ≡ size → new ≡ without_span old (record { first = block; count = 1 }) → block < size → has new block ≡ false
out-here size block old new e f h =
    without_span-has size old new (record { first = block; count = 1 }) block e f h ∙ ap (λ b. has old block && not b) (within_here block) ∙ and_false (has old block)

pub out-other : (size block k : ℕ) (old new : Blocks) → length old ≡ size → new ≡ without_span old (record { first = block; count = 1 }) → k < size → (k == block) ≡ false → has new k ≡ has old k
out-other size block k old new e f h g =
    without_span-has size old new (record { first = block; count = 1 }) k e f h ∙ ap (λ b. has old k && not b) (within_other block k g) ∙ and_true (has old k)
