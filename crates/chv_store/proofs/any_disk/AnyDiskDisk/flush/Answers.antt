use Rattle.std.proofs.Common.{rules}
use Rattle.chv_store.proofs.any_disk.AnyDiskDisk.flush.Goals as goal

pub returns-in-Made-clause-cause : goal.returns-in-Made-clause-cause
returns-in-Made-clause-cause g c = search rules

pub returns-in-Made-clause-listed : goal.returns-in-Made-clause-listed
returns-in-Made-clause-listed g c = search rules
