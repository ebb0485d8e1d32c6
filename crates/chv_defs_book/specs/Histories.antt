-- Histories whose entries have callers, and numbers of callers that are out. `by` says who made an entry.
use Rattle.std.specs.Prelude.{◌≡◌, ℕ, ◌-◌, ◌==◌, nat_le, Bool, true, not, if◌then◌else◌, List, ◌++◌, length, filter, Option, option_map, slice_get}
use Rattle.std.specs.List.{list_all, list_any}

-- a history begins with another
abbrev pub StartsWith : {A : Type 0} → List A → List A → Type 0
StartsWith {A} history front = (rest : List A) × (history ≡ front ++ rest)

-- the entries of one caller, in their order
abbrev pub entries_by : {E : Type 0} → (E → ℕ) → ℕ → List E → List E
entries_by by caller history = filter (λ e. by e == caller) history

-- none of these entries is this caller's
abbrev pub AreOfOthers : {E : Type 0} → (E → ℕ) → ℕ → List E → Type 0
AreOfOthers by caller entries = list_all (λ e. not (by e == caller)) entries ≡ true

-- whether a number is out
abbrev pub is_out : ℕ → List ℕ → Bool
is_out caller out = list_any (λ n. n == caller) out

-- the numbers that are out, but this one
abbrev pub without : ℕ → List ℕ → List ℕ
without caller out = filter (λ n. not (n == caller)) out

-- these entries are of callers whose numbers are out
abbrev pub AreOut : {E : Type 0} → (E → ℕ) → List ℕ → List E → Type 0
AreOut by out entries = list_all (λ e. is_out (by e) out) entries ≡ true

-- the longer of two histories; of two that are as long, the second
abbrev pub longer : {A : Type 0} → List A → List A → List A
longer a b = if nat_le (length a) (length b) then b else a

-- who made the last entry
abbrev pub last_caller_of : {E : Type 0} → (E → ℕ) → List E → Option ℕ
last_caller_of by history = option_map by (slice_get history (length history - 1))
