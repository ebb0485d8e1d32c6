use Rattle.std.proofs.Common.{◌≡◌, ℕ, ◌+◌, ◌-◌, ◌<◌, ◌≤◌, length, get_or}
use Rattle.chv_pages.specs.HeldPages.{held_at}
use Rattle.chv_pages.proofs.reads.read_held.Given as goal

abbrev pub invariant-loop-done : goal.invariant-loop-done
invariant-loop-done l = (l.done ≤ length l.into) × ((k : ℕ) → k < l.done → get_or l.into k 0 ≡ held_at l.held l.block (l.offset + k))

abbrev pub decreases-loop-done : goal.decreases-loop-done
decreases-loop-done l = length l.initial.into - l.done
