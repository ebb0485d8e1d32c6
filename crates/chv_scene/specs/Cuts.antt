-- A text is cut at a byte.
use Rattle.std.specs.Prelude.{ℕ, ◌==◌, if◌then◌else◌, List, [], ◌∷◌, Option, None, Some}

-- what stands before the first such byte, and what stands behind it where there is one
abbrev pub cut_at : ℕ → List ℕ → List ℕ × Option (List ℕ)
cut_at at [] = ([], None)
cut_at at (b ∷ bytes) = if b == at then ([], Some bytes) else (let rest = cut_at at bytes in (b ∷ rest.0, rest.1))
