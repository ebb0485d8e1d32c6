use Rattle.std.proofs.Common.{◌-◌, ◌≤◌, length, take}
use Rattle.chv_pages.specs.HeldPages.{WritesHeld}
use Rattle.chv_pages.proofs.edits.write_held.Given as goal

abbrev pub invariant-loop-done : goal.invariant-loop-done
invariant-loop-done l = (l.done ≤ length l.from) × WritesHeld l.initial.held l.held l.block l.offset (take l.done l.from)

abbrev pub decreases-loop-done : goal.decreases-loop-done
decreases-loop-done l = length l.from - l.done
