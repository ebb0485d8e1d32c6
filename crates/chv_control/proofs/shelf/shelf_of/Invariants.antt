use Rattle.std.proofs.Common.{◌≡◌, ◌++◌, drop}
use Rattle.chv_control.specs.Shelf.{sectors_of, shelf_of}
use Rattle.chv_control.proofs.shelf.shelf_of.Given as goal

abbrev pub invariant-loop-name : goal.invariant-loop-name
invariant-loop-name g l = l.shelf ++ shelf_of (sectors_of g.D.Disk.sector_count) (drop l.name-index l.disks) ≡ shelf_of (sectors_of g.D.Disk.sector_count) l.disks
