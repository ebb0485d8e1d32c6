use Rattle.std.proofs.Common.{◌≡◌, ℕ, ◌+◌, ◌-◌, ◌*◌, ◌/◌, ◌<◌, ◌≤◌, true, vec_len}
use Rattle.std.specs.Vec.{vec_capacity}
use Rattle.chv_pages.specs.HeldPages.{has_number, AreHeld, MakesRoom}
use Rattle.chv_pages.specs.Order.{AreInOrder}
use Rattle.chv_pages.proofs.edits.hold_range.Given as goal

abbrev pub invariant-loop-done : goal.invariant-loop-done
invariant-loop-done l =
    (l.done ≤ l.len)
    × AreInOrder l.held.items
    × (vec_len l.held + l.spare ≤ vec_capacity l.held)
    × MakesRoom l.initial.held.items l.held.items
    × ((high : ℕ) → l.block * 512 + 512 ≤ high → AreHeld 0 high l.initial.held.items → AreHeld 0 high l.held.items)
    × ((k : ℕ) → k < l.done → has_number l.held.items (l.block * 512 + (l.offset + k) / 4096) ≡ true)

abbrev pub decreases-loop-done : goal.decreases-loop-done
decreases-loop-done l = l.len - l.done
