use Rattle.std.proofs.Common.{◌≡◌, ◌++◌, drop}
use Rattle.chv_defs_api.specs.ConfigRules.{memory_device_ids}
use Rattle.chv_config.proofs.ids.memory_device_ids.Given as goal

abbrev pub invariant-loop-zone : goal.invariant-loop-zone
invariant-loop-zone l = l.ids.items ++ memory_device_ids (drop l.zone-index l.zones) ≡ memory_device_ids l.zones
