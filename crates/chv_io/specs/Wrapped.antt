-- A reader or a writer of the standard library with a count of its faults, and what a call through it does.
use Rattle.std.specs.Prelude.{◌≡◌, ℕ, ◌<◌, ◌≤◌, Bool, List, length, take, Option, None, Some, Result, Ok, Err}
use Rattle.std.specs.Io.KnownBytes.{Keeps, Appends, Consumes, IsAtEnd}
use Rattle.chv_io.specs.FailingCalls.{one_more}
use Rattle.chv_io.specs.Outside.{Rose}

-- The reader, and how many faults it had.
pub record Reading (R : Type 0) : Type 0 where
  pub inner : R
  pub faults : ℕ

-- The writer, how many faults it had, and whether it was written to since the last flush that was answered.
pub record Writing (W : Type 0) : Type 0 where
  pub inner : W
  pub faults : ℕ
  pub waits : Bool

-- A fault was counted. The count stands still at the end of its type.
pub record CountsOne (before now : ℕ) : Type 0 where
  pub later : before ≤ now
  pub rose : Rose before now
  pub one : now ≡ one_more before

-- A failure counts one fault, and an answer none.
abbrev pub CountsFault : {T E : Type 0} → ℕ → ℕ → Result T E → Type 0
CountsFault before now (Ok _) = now ≡ before
CountsFault before now (Err _) = CountsOne before now

-- One read: it was answered, or it was interrupted or failed, and then what is left is as before.
abbrev pub ReadsOnce : {E : Type 0} → Option (List ℕ) → Option (List ℕ) → Result (Option ℕ) E → List ℕ → Type 0
ReadsOnce before after (Ok (Some n)) buffer = Consumes before after (take n buffer) × (n ≡ 0 → 0 < length buffer → IsAtEnd after)
ReadsOnce before after (Ok None) buffer = Keeps before after
ReadsOnce before after (Err _) buffer = Keeps before after

-- One write: it was answered, or it was interrupted or failed, and then the writer holds what it held.
abbrev pub WritesOnce : {E : Type 0} → Option (List ℕ) → Option (List ℕ) → Result (Option ℕ) E → List ℕ → Type 0
WritesOnce before after (Ok (Some n)) bytes = Appends before after (take n bytes)
WritesOnce before after (Ok None) bytes = Keeps before after
WritesOnce before after (Err _) bytes = Keeps before after

-- Where the writer tells what it holds, that grows by all bytes, or on failure by a first part of them.
abbrev pub WritesThrough : {T E : Type 0} → Option (List ℕ) → Option (List ℕ) → List ℕ → Result T E → Type 0
WritesThrough before after bytes (Ok _) = Appends before after bytes
WritesThrough before after bytes (Err _) = (n : ℕ) × (n ≤ length bytes) × Appends before after (take n bytes)
