-- Sets of blocks: a set of numbers below its size is kept as one truth value for each of these numbers, which says
-- whether the number is in the set.
use Rattle.std.specs.Prelude.{◌≡◌, ℕ, ◌+◌, ◌<◌, ◌≤◌, ◌==◌, ◌&&◌, ◌||◌, Bool, false, not, nat_lt, nat_le, if◌then◌else◌, List, [], ◌∷◌, length, map, find, Option}
use Rattle.std.specs.List.{slice_index_or, range_with_len, list_any}
use Rattle.chv_defs_memory.specs.declared.bank.Span.{Span}

-- a set of numbers below its size, which is the list's length
abbrev pub Blocks : Type 0
Blocks = List Bool

-- whether the number is in the set
abbrev pub has : Blocks → ℕ → Bool
has set k = slice_index_or set k false

-- the numbers below a size that pass a test
abbrev pub numbers_where : ℕ → (ℕ → Bool) → Blocks
numbers_where size p = map p (range_with_len 0 size)

-- whether the number lies in the span
abbrev pub is_within : Span → ℕ → Bool
is_within span k = nat_le span.first k && nat_lt k (span.first + span.count)

-- no number, below a size
abbrev pub no_blocks : ℕ → Blocks
no_blocks size = numbers_where size (λ _. false)

-- the set with the numbers of a span
abbrev pub with_span : Blocks → Span → Blocks
with_span set span = numbers_where (length set) (λ k. has set k || is_within span k)

-- the set without the numbers of a span
abbrev pub without_span : Blocks → Span → Blocks
without_span set span = numbers_where (length set) (λ k. has set k && not (is_within span k))

-- the numbers of the set, ascending, where the list begins at a number
abbrev pub members_from : ℕ → Blocks → List ℕ
members_from k [] = []
members_from k (b ∷ bs) = if b then k ∷ members_from (k + 1) bs else members_from (k + 1) bs

-- the numbers of the set, ascending
abbrev pub members : Blocks → List ℕ
members set = members_from 0 set

-- how many numbers the set has
abbrev pub count_of : Blocks → ℕ
count_of set = length (members set)

-- the lowest number of the set in a span
abbrev pub first_within : Blocks → Span → Option ℕ
first_within set span = find (is_within span) (members set)

-- a number put before the runs of greater ones: it joins the first run where they touch
abbrev pub onto_runs : ℕ → List Span → List Span
onto_runs k [] = record { first = k; count = 1 } ∷ []
onto_runs k (run ∷ runs) = if run.first == k + 1 then record { first = k; count = run.count + 1 } ∷ runs else record { first = k; count = 1 } ∷ run ∷ runs

-- the maximal runs of ascending numbers
abbrev pub runs_of : List ℕ → List Span
runs_of [] = []
runs_of (k ∷ ks) = onto_runs k (runs_of ks)

-- the maximal runs of a set, ascending
abbrev pub ranges_of : Blocks → List Span
ranges_of set = runs_of (members set)

-- runs from a number on that ascend, of which none is empty and no two touch
abbrev pub AreApart : ℕ → List Span → Type 0
AreApart from [] = Unit {0}
AreApart from (run ∷ runs) = (from ≤ run.first) × (0 < run.count) × AreApart (run.first + run.count + 1) runs

-- runs of a set: they ascend, none is empty, no two touch, and their numbers are those of the set
pub record AreRuns (set : Blocks) (runs : List Span) : Type 0 where
  pub apart : AreApart 0 runs
  pub together : (k : ℕ) → list_any (λ run. is_within run k) runs ≡ has set k
