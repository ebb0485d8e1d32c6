-- Bytes that are written into a part of other bytes.
use Rattle.std.specs.Prelude.{◌≡◌, ℕ, ◌+◌, ◌<◌, ◌≤◌, List, length, slice_index}

-- the bytes stand from a place on, and all others are as before
pub record CopiedAt (old new : List ℕ) (at : ℕ) (bytes : List ℕ) : Type 0 where
  pub len : length new ≡ length old
  pub inside : (k : ℕ) → k < length bytes → slice_index new (at + k) ≡ slice_index bytes k
  pub before : (k : ℕ) → k < at → slice_index new k ≡ slice_index old k
  pub behind : (k : ℕ) → at + length bytes ≤ k → slice_index new k ≡ slice_index old k
