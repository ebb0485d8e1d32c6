use Rattle.std.proofs.Common.{refl}
use Rattle.std.proofs.lemmas.Option.{slice_get_read}
use Rattle.chv_store.proofs.mem_disk.MemDiskDisk.read.Goals as goal

pub returns-clause-gives : goal.returns-clause-gives
returns-clause-gives c =
    let within = rw (← c.self.view_is) at c.requires in
    rw (← c.self.view_is) (slice_get_read _ _ _ _ refl within c.index.ensures)
