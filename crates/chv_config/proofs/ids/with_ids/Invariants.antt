use Rattle.std.proofs.Common.{◌≡◌, ◌++◌, drop}
use Rattle.chv_defs_api.specs.ConfigRules.{with_ids}
use Rattle.chv_config.proofs.ids.with_ids.Given as goal

abbrev pub invariant-loop-disk : goal.invariant-loop-disk
invariant-loop-disk l = l.named ++ with_ids l.ids.items (drop l.disk-index l.disks) ≡ with_ids l.initial.ids.items l.disks
