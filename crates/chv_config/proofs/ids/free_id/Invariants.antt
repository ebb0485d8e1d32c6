use Rattle.std.proofs.Common.{◌≡◌, ◌<◌, ℕ, false}
use Rattle.chv_defs_api.specs.ConfigRules.{is_free}
use Rattle.chv_config.proofs.ids.free_id.Given as goal

abbrev pub invariant-loop-k : goal.invariant-loop-k
invariant-loop-k l = (j : ℕ) → j < l.k → is_free l.ids j ≡ false
