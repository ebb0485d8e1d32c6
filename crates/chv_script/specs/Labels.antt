-- Labels, as far as they can be asked for.
use Rattle.std.specs.Prelude.{◌≡◌, ℕ, List}
use Rattle.chv_defs_scene.specs.ScriptReading.{has_label}

-- a label is one of these exactly where it is one of those
abbrev pub SameLabels : List (List ℕ) → List (List ℕ) → Type 0
SameLabels these those = (name : List ℕ) → has_label these name ≡ has_label those name
