-- Where the head of a request ends. The front of a stream goes from its first byte to the end of the first empty line
-- that stands behind a byte other than CR and LF. (RFC 9112, section 2.1, ends a head so; section 2.2 lets lines end in
-- LF alone, and lets empty lines come first.)
use Rattle.std.specs.Prelude.{◌≡◌, ◌≢◌, ℕ, ◌+◌, ◌<◌, ◌≤◌, ◌⊎◌, List, slice_index}

-- An empty line stands at i and ends before n: a line feed at i, and behind it a line feed, or CR and a line feed. (A
-- place past the end of the bytes reads 0.)
abbrev pub IsEmptyLine : List ℕ → ℕ → ℕ → Type 0
IsEmptyLine bytes i n =
    (slice_index bytes i ≡ 10)
    × (((slice_index bytes (i + 1) ≡ 10) × (n ≡ i + 2))
    ⊎ ((slice_index bytes (i + 1) ≡ 13) × (slice_index bytes (i + 2) ≡ 10) × (n ≡ i + 3)))

-- a byte other than CR and LF stands before i
abbrev pub IsBehindText : List ℕ → ℕ → Type 0
IsBehindText bytes i = (k : ℕ) × (k < i) × (slice_index bytes k ≢ 13) × (slice_index bytes k ≢ 10)

-- an empty line behind such a byte ends before n
abbrev pub Closes : List ℕ → ℕ → Type 0
Closes bytes n = (i : ℕ) × IsEmptyLine bytes i n × IsBehindText bytes i

-- the front of the bytes is their first n bytes
pub record IsFront (bytes : List ℕ) (n : ℕ) : Type 0 where
  pub closes : Closes bytes n
  pub first : (m : ℕ) → Closes bytes m → n ≤ m

-- the first 8,192 bytes hold no whole front
abbrev pub HasNoFront : List ℕ → Type 0
HasNoFront bytes = (n : ℕ) → n ≤ 8192 → ¬ (Closes bytes n)
