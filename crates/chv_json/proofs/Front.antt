-- A list of which a front was read already.
use Rattle.std.proofs.Common.{List, ◌++◌, Result, Ok}
use Rattle.chv_defs_api.specs.JsonBodies.{◌>>=◌}
use Rattle.chv_defs_base.specs.declared.rule.Rule.{Rule}

-- what was found, before what the rest means
abbrev pub with_front : {A : Type 0} → List A → Result (List A) Rule → Result (List A) Rule
with_front front meaning = meaning >>= λ rest. Ok (front ++ rest)
