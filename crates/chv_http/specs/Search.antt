-- Bytes that the search for a front passes.
use Rattle.std.specs.Prelude.{◌≡◌, ◌≢◌, ℕ, ◌<◌, ◌≤◌, ◌⊎◌, List, slice_index}

-- the byte at k is neither CR nor LF
abbrev pub IsText : List ℕ → ℕ → Type 0
IsText bytes k = (slice_index bytes k ≢ 13) × (slice_index bytes k ≢ 10)

-- each byte from `from` up to `to` is CR or LF
abbrev pub AreLineEnds : List ℕ → ℕ → ℕ → Type 0
AreLineEnds bytes from to =
    (k : ℕ) → from ≤ k → k < to → (slice_index bytes k ≡ 13) ⊎ (slice_index bytes k ≡ 10)
