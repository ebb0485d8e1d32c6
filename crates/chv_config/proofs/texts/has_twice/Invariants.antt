use Rattle.std.proofs.Common.{◌≡◌, ◌++◌, ℕ, List, false}
use Rattle.chv_defs_api.specs.ConfigRules.{has_text, has_twice}
use Rattle.std.specs.Vec.Iter.{into_iter_items}
use Rattle.chv_config.proofs.texts.has_twice.Given as goal

abbrev pub invariant-loop-text : goal.invariant-loop-text
invariant-loop-text l = (has_twice l.yielded ≡ false) × ((q : List ℕ) → has_text l.seen.keys q ≡ has_text l.yielded q) × (l.yielded ++ into_iter_items l.text-iterator ≡ l.fn.texts.items)
