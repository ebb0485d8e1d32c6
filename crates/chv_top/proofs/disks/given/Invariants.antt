use Rattle.std.proofs.Common.{◌≡◌, ◌≤◌, ◌+◌, ◌++◌, length}
use Rattle.std.specs.Vec.{vec_capacity}
use Rattle.std.specs.Vec.Iter.{into_iter_items}
use Rattle.chv_top.specs.Given.{as_given}
use Rattle.chv_top.proofs.disks.given.Given as goal

abbrev pub invariant-loop-name : goal.invariant-loop-name
invariant-loop-name g l =
    (goal.iterator-loop-name g).can_next l.name-iterator
    × (goal.iterator-loop-name g).is_finite l.name-iterator
    × (l.given.items ++ as_given (into_iter_items l.name-iterator) ≡ as_given l.fn.disks.items)
    × (length l.given.items + length (into_iter_items l.name-iterator) ≤ vec_capacity l.given)
