-- The search in a list of stretches that follow each other.
use Rattle.std.specs.Prelude.{ℕ, suc, ◌<◌, ◌≤◌, nat_le, if◌then◌else◌, List, [], ◌∷◌, Result, Ok, Err}

-- stretches follow each other from a number on: none is empty, and each begins where the one before it ends, or later
abbrev pub Follow : {X : Type 0} → (X → ℕ) → (X → ℕ) → ℕ → List X → Type 0
Follow start end low [] = Unit {0}
Follow start end low (x ∷ xs) = (low ≤ start x) × (start x < end x) × Follow start end (end x) xs

-- one place further
abbrev pub further : Result ℕ ℕ → Result ℕ ℕ
further (Ok place) = Ok (suc place)
further (Err place) = Err (suc place)

-- the place of the stretch that holds a number; where none does, the place at which one that did would stand
abbrev pub locate : {X : Type 0} → (X → ℕ) → (X → ℕ) → List X → ℕ → Result ℕ ℕ
locate start end [] at = Err 0
locate start end (x ∷ xs) at =
    if nat_le (end x) at then further (locate start end xs at)
    else (if nat_le (start x) at then Ok 0 else Err 0)
