use Rattle.std.proofs.Common.{◌≡◌, ◌≤◌, ◌+◌, ◌++◌, length}
use Rattle.std.specs.Vec.{vec_capacity}
use Rattle.std.specs.Vec.Iter.{into_iter_items}
use Rattle.chv_top.specs.Given.{handed_in}
use Rattle.chv_top.proofs.disks.handed_back.Given as goal

abbrev pub invariant-loop-name : goal.invariant-loop-name
invariant-loop-name g l =
    (goal.iterator-loop-name g).can_next l.name-iterator
    × (goal.iterator-loop-name g).is_finite l.name-iterator
    × (l.back.items ++ handed_in (into_iter_items l.name-iterator) ≡ handed_in l.fn.disks.items)
    × (length l.back.items + length (into_iter_items l.name-iterator) ≤ vec_capacity l.back)
