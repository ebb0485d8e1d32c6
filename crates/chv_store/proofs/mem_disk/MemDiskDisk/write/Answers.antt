use Rattle.std.proofs.Common.{rules}
use Rattle.chv_store.proofs.mem_disk.MemDiskDisk.write.Goals as goal

pub returns-clause-contents : goal.returns-clause-contents
returns-clause-contents c = search rules

pub returns-clause-after : goal.returns-clause-after
returns-clause-after c = search rules
