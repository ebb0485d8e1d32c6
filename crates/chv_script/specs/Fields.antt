-- The fields of a line, one after another.
use Rattle.std.specs.Prelude.{ℕ, List, [], ◌∷◌, Option, None, Some, Result, Ok, Err}
use Rattle.chv_defs_base.specs.declared.rule.Reason.{Reason}
use Rattle.chv_defs_base.specs.declared.rule.Reason.TheVariants.{FieldCount}
use Rattle.chv_defs_scene.specs.ScriptReading.{fields_of}

-- the fields of what stands behind a space, where there is one
abbrev pub fields_behind : Option (List ℕ) → List (List ℕ)
fields_behind None = []
fields_behind (Some text) = fields_of text

-- the first of the fields, and those behind it
unfoldable pub first_of : List (List ℕ) → Result (List ℕ × List (List ℕ)) Reason
first_of [] = Err FieldCount
first_of (field ∷ fields) = Ok (field, fields)
