use Rattle.std.proofs.Common.{rules}
use Rattle.chv_store.proofs.any_disk.AnyDiskDisk.disk_faults.Goals as goal

pub returns-in-Made : goal.returns-in-Made
returns-in-Made g c = search rules
