use Rattle.std.proofs.Common.{rules}
use Rattle.chv_store.proofs.any_disk.AnyDiskDisk.write.Goals as goal

pub returns-in-Given-clause-contents : goal.returns-in-Given-clause-contents
returns-in-Given-clause-contents g c = search rules
