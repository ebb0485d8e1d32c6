use Rattle.std.proofs.Common.{◌≡◌, ℕ, ◌<◌, ◌≤◌, get_or}
use Rattle.chv_pages.proofs.copies.clear_at.Given as goal

abbrev pub invariant-loop-k : goal.invariant-loop-k
invariant-loop-k l =
    ((j : ℕ) → l.at ≤ j → j < l.k → get_or l.into j 0 ≡ 0)
    × ((j : ℕ) → j < l.at → get_or l.into j 0 ≡ get_or l.initial.into j 0)
    × ((j : ℕ) → l.k ≤ j → get_or l.into j 0 ≡ get_or l.initial.into j 0)
