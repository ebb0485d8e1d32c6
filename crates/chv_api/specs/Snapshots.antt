-- The snapshots that bodies name.
use Rattle.std.specs.Prelude.{ℕ, List, Result}
use Rattle.chv_defs_api.specs.JsonBodies.{◌>>=◌, text_of}
use Rattle.chv_defs_api.specs.Routes.{snapshot_name}
use Rattle.chv_defs_base.specs.declared.rule.Rule.{Rule}

-- the name of the snapshot whose URL stands at a key of a body
abbrev pub snapshot_at : List ℕ → List ℕ → Result (List ℕ) Rule
snapshot_at body key = text_of body key >>= snapshot_name
