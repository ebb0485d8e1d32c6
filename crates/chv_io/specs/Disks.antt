-- What a disk means: its sectors in order, each the list of its 512 bytes, told or not. No call changes whether it is
-- told.
use Rattle.std.specs.Prelude.{◌≡◌, ℕ, List, length, All, Option, None, Some, Result, Ok, Err, OnOk, ⊤, ◌⊎◌, slice_get, slice_set}

-- There are so many sectors, each of 512 bytes.
pub record IsWhole (sectors : List (List ℕ)) (count : ℕ) : Type 0 where
  pub number : length sectors ≡ count
  pub size : All (λ sector. length sector ≡ 512) sectors

-- An answered read gives the sector.
abbrev pub GivesSector : {T E : Type 0} → Option (List (List ℕ)) → ℕ → List ℕ → Result T E → Type 0
GivesSector None sector bytes result = ⊤
GivesSector (Some sectors) sector bytes result = OnOk result (slice_get sectors sector ≡ Some bytes)

-- A write leaves the new sector in its place, and on failure the old one or the new one. The others stay.
abbrev pub WritesSector : {T E : Type 0} → Option (List (List ℕ)) → Option (List (List ℕ)) → ℕ → List ℕ → Result T E → Type 0
WritesSector None after sector bytes result = after ≡ None
WritesSector (Some before) None sector bytes result = ⊥
WritesSector (Some before) (Some after) sector bytes (Ok _) = after ≡ slice_set before sector bytes
WritesSector (Some before) (Some after) sector bytes (Err _) = (after ≡ before) ⊎ (after ≡ slice_set before sector bytes)
