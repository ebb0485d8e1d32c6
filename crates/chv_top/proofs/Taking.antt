-- Takings from one input, one after the other.
use Rattle.std.proofs.Common.{◌≡◌, ◌≤◌, ◌+◌, ◌++◌, ℕ, List, length, Option}
use native.Mathlib.Omega.{arith}
use Rattle.std.proofs.lemmas.List.{length-append}
use Rattle.chv_io.specs.Outside.{Loses}
use Rattle.chv_io.proofs.Gained.{loses_join}
use Rattle.chv_top.specs.Outcome.{TakesAtMost}

-- what is taken in two goes, each within its limit, is within both
pub takes_both : (left between after : Option (List ℕ)) (first : List ℕ) (rest limit : ℕ) → Loses left between first → TakesAtMost between after rest → length first + rest ≤ limit → TakesAtMost left after limit
takes_both left between after first rest limit p q within =
    let more : length (first ++ q.0) ≡ length first + length q.0 = length-append first q.0 in
    let few : length q.0 ≤ rest = q.2 in
    (first ++ q.0, loses_join left between after first q.0 p q.1, omega (arith, more, few, within))
