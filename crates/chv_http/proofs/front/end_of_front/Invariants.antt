use Rattle.std.proofs.Common.{ℕ, ◌≤◌}
use Rattle.chv_defs_api.specs.HttpFront.{Closes}
use Rattle.chv_http.proofs.front.end_of_front.Given as goal

-- no front ends at or before the place
abbrev pub invariant-loop-at : goal.invariant-loop-at
invariant-loop-at l = (n : ℕ) → n ≤ l.at → ¬ (Closes l.bytes n)
