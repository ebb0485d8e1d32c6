use Rattle.std.proofs.Common.{◌≡◌, ◌++◌, flat_map, take}
use Rattle.chv_defs_scene.specs.SceneText.{disk_line}
use Rattle.chv_scene.proofs.printing.push_disks.Given as goal

-- what was printed so far
abbrev pub invariant-loop-disk : goal.invariant-loop-disk
invariant-loop-disk l = l.shown.items ≡ l.initial.shown.items ++ flat_map disk_line (take l.disk-index l.disks)
