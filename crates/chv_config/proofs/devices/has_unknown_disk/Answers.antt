use Rattle.std.proofs.Common.{arith}
use Rattle.chv_config.proofs.Twice.{known_disks}
use Rattle.chv_config.proofs.devices.has_unknown_disk.Goals as goal

pub returns : goal.returns
returns c = grind (arith, known_disks)
