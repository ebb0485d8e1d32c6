-- What an object of the outside (an input, an output, a connection) means: the bytes that it has left, the bytes
-- that were put into it, each told or not, and a count of its faults.
use Rattle.std.specs.Prelude.{◌≡◌, ◌≤◌, ◌+◌, ◌-◌, ◌^◌, ◌++◌, ◌↔◌, ℕ, min, List, [], length, take, drop, Option, None, Some, Result, Ok, Err, OnOk, OnErr}

-- A count rose: it is greater than before, or it stands at the end of its type, where it cannot rise.
abbrev pub Rose : ℕ → ℕ → Type 0
Rose before now = min (before + 1) (2 ^ 64 - 1) ≤ now

-- The count never falls, a failure is answered only where it rose, and an answer leaves it as it was. So no fault is passed
-- over, and none is counted that is not answered.
pub record HasCause {T E : Type 0} (before now : ℕ) (result : Result T E) : Type 0 where
  pub later : before ≤ now
  pub failed : OnErr result (Rose before now)
  pub kept : OnOk result (now ≡ before)

-- A read of n bytes moves the first n bytes of what is left into the front of the buffer. It is 0 exactly where
-- nothing is left.
pub record Moves (before after buffer : List ℕ) (n : ℕ) : Type 0 where
  pub within : n ≤ length before
  pub front : take n buffer ≡ take n before
  pub rest : after ≡ drop n before
  pub end : (n ≡ 0) ↔ (before ≡ [])

-- What a read does to what is left: an answer moves bytes, and a failure leaves it. No call changes whether it is told.
abbrev pub Takes : {E : Type 0} → Option (List ℕ) → Option (List ℕ) → List ℕ → Result ℕ E → Type 0
Takes None after buffer result = after ≡ None
Takes (Some before) None buffer result = ⊥
Takes (Some before) (Some after) buffer (Ok n) = Moves before after buffer n
Takes (Some before) (Some after) buffer (Err e) = after ≡ before

-- What a write does to what was put: all bytes are appended, or on failure a first part of them.
abbrev pub Puts : {T E : Type 0} → Option (List ℕ) → Option (List ℕ) → List ℕ → Result T E → Type 0
Puts None after bytes result = after ≡ None
Puts (Some before) None bytes result = ⊥
Puts (Some before) (Some after) bytes (Ok _) = after ≡ before ++ bytes
Puts (Some before) (Some after) bytes (Err _) = (n : ℕ) × (n ≤ length bytes) × (after ≡ before ++ take n bytes)

-- These bytes, and no others, were put in all.
abbrev pub Gains : Option (List ℕ) → Option (List ℕ) → List ℕ → Type 0
Gains None after bytes = after ≡ None
Gains (Some before) None bytes = ⊥
Gains (Some before) (Some after) bytes = after ≡ before ++ bytes

-- A first part of these bytes, perhaps none, was put in all.
abbrev pub GainsPart : Option (List ℕ) → Option (List ℕ) → List ℕ → Type 0
GainsPart None after bytes = after ≡ None
GainsPart (Some before) None bytes = ⊥
GainsPart (Some before) (Some after) bytes = (n : ℕ) × (n ≤ length bytes) × (after ≡ before ++ take n bytes)

-- These bytes, and no others, were taken in all.
abbrev pub Loses : Option (List ℕ) → Option (List ℕ) → List ℕ → Type 0
Loses None after bytes = after ≡ None
Loses (Some before) None bytes = ⊥
Loses (Some before) (Some after) bytes = before ≡ bytes ++ after
