use Rattle.std.proofs.Common.{◌≡◌, take}
use Rattle.std.specs.Prelude.{map}
use Rattle.chv_defs_api.specs.ConfigRules.{disk_name}
use Rattle.chv_config.proofs.disks.disk_names.Given as goal

abbrev pub invariant-loop-disk : goal.invariant-loop-disk
invariant-loop-disk l = l.names.items ≡ map disk_name (take l.disk-index l.disks)
