-- A text is cut at a byte: its fields at a space, its lines at a line feed.
use Rattle.std.proofs.Common.{◌≡◌, ℕ, ◌<◌, ◌≤◌, ◌==◌, Bool, true, false, if◌then◌else◌, List, [], ◌∷◌, length, Option, None, Some, refl, ap, arith}
use Rattle.chv_defs_scene.specs.ScenarioLines.{Line, lines_of, onto_line}
use Rattle.chv_scene.specs.Cuts.{cut_at}

-- whether something stands behind
abbrev pub is_there : Option (List ℕ) → Bool
is_there None = false
is_there (Some bytes) = true

-- what stands behind, or nothing
abbrev pub or_nothing : Option (List ℕ) → List ℕ
or_nothing None = []
or_nothing (Some bytes) = bytes

-- the lines of a cut text
abbrev pub lines_from : List ℕ × Option (List ℕ) → List Line
lines_from parts = record { text = parts.0; is_ended = is_there parts.1 } ∷ lines_of (or_nothing parts.1)

-- what stands behind the first such byte is not longer
behind_from : (v : Bool) (at b : ℕ) (bytes : List ℕ) → length (or_nothing (cut_at at bytes).1) ≤ length bytes → let parts : List ℕ × Option (List ℕ) = if v then ([], Some bytes) else (b ∷ (cut_at at bytes).0, (cut_at at bytes).1) in length (or_nothing parts.1) ≤ length bytes
behind_from true at b bytes h = omega arith
behind_from false at b bytes h = h

behind-le : (at : ℕ) (text : List ℕ) → length (or_nothing (cut_at at text).1) ≤ length text
behind-le at [] = omega arith
behind-le at (b ∷ bytes) = let h = behind_from (b == at) at b bytes (behind-le at bytes) in omega (arith, h)

-- a byte more before a text, which may be a line feed
joined : (v : Bool) (b : ℕ) (bytes : List ℕ) (lines : List Line) → lines ≡ lines_from (cut_at 10 bytes) → (if v then record { text = []; is_ended = true } ∷ lines_of bytes else onto_line b lines) ≡ lines_from (if v then ([], Some bytes) else (b ∷ (cut_at 10 bytes).0, (cut_at 10 bytes).1))
joined true b bytes lines h = refl
joined false b bytes lines h = ap (onto_line b) h

-- the lines of a text that is not empty
pub lines-cut : (b : ℕ) (bytes : List ℕ) → lines_of (b ∷ bytes) ≡ lines_from (cut_at 10 (b ∷ bytes))
lines-cut b [] = elim (b == 10) as (λ v. (if v then record { text = []; is_ended = true } ∷ [] else record { text = b ∷ []; is_ended = false } ∷ []) ≡ lines_from (if v then ([], Some []) else (b ∷ [], None))) [ true ↦ refl | false ↦ refl ]
lines-cut b (c ∷ bytes) = joined (b == 10) b (c ∷ bytes) (lines_of (c ∷ bytes)) (lines-cut c bytes)

-- the same by its length
pub lines-cut_at : (text : List ℕ) → 0 < length text → lines_of text ≡ lines_from (cut_at 10 text)
lines-cut_at [] h = absurd (omega arith)
lines-cut_at (b ∷ bytes) h = lines-cut b bytes

-- what stands behind the first such byte is shorter
pub behind-shorter : (at : ℕ) (text : List ℕ) → 0 < length text → length (or_nothing (cut_at at text).1) < length text
behind-shorter at [] h = absurd (omega arith)
behind-shorter at (b ∷ bytes) h = let less = behind_from (b == at) at b bytes (behind-le at bytes) in omega (arith, less)

-- a text without bytes has no lines
pub no_lines : (text : List ℕ) → length text ≡ 0 → lines_of text ≡ []
no_lines [] h = refl
no_lines (b ∷ bytes) h = absurd (omega (arith, h))
