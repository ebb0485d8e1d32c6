use Rattle.std.proofs.Common.{length, ◌-◌, ◌≡◌, ◌≤◌, ◌++◌, take, drop}
use Rattle.chv_defs_control.specs.ApiStep.{with_number}
use Rattle.chv_ctl_api.proofs.ended.place_of.Given as goal

abbrev pub invariant-loop-at : goal.invariant-loop-at
invariant-loop-at l = (l.at ≤ length l.numbers) × (with_number l.number l.numbers ≡ take l.at l.numbers ++ with_number l.number (drop l.at l.numbers))

abbrev pub decreases-loop-at : goal.decreases-loop-at
decreases-loop-at l = length l.numbers - l.at
