-- The calls of an object in memory that fails at listed calls: how many it has had, and how many of them failed.
use Rattle.std.specs.Prelude.{◌≡◌, ◌↔◌, ℕ, ◌+◌, ◌-◌, ◌^◌, ◌==◌, min, Bool, false, List, Option, None, Some, Result, IsOk, if◌then◌else◌}
use Rattle.std.specs.List.{list_any}

-- One more. A count stands still at the end of its type.
abbrev pub one_more : ℕ → ℕ
one_more n = min (n + 1) (2 ^ 64 - 1)

-- The listed numbers, the number of calls made, and the number of faults.
pub record Calls : Type 0 where
  pub listed : List ℕ
  pub made : ℕ
  pub faults : ℕ

-- No call was made yet.
abbrev pub no_calls : List ℕ → Calls
no_calls listed = record { listed = listed; made = 0; faults = 0 }

-- Whether the next call is a listed one. Calls are numbered from 1.
abbrev pub is_listed : Calls → Bool
is_listed calls = list_any (λ k. k == one_more calls.made) calls.listed

-- The calls after one more, which failed or not.
abbrev pub after_call : Calls → Bool → Calls
after_call calls failed = record {
  listed = calls.listed;
  made = one_more calls.made;
  faults = (if failed then one_more calls.faults else calls.faults);
}

-- Where an object tells which of its calls fail, exactly the listed ones do. No call changes whether it is told.
abbrev pub FailsAsListed : {T E : Type 0} → Option Calls → Option Calls → Result T E → Type 0
FailsAsListed None after result = after ≡ None
FailsAsListed (Some before) after result = (after ≡ Some (after_call before (is_listed before))) × (IsOk result ↔ (is_listed before ≡ false))
