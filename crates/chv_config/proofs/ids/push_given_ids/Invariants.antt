use Rattle.std.proofs.Common.{◌≡◌, ◌++◌, drop}
use Rattle.chv_defs_api.specs.ConfigRules.{given_ids}
use Rattle.chv_config.proofs.ids.push_given_ids.Given as goal

abbrev pub invariant-loop-disk : goal.invariant-loop-disk
invariant-loop-disk l = l.ids.items ++ given_ids (drop l.disk-index l.disks) ≡ l.initial.ids.items ++ given_ids l.disks
