use Rattle.std.proofs.Common.{◌≡◌, ◌≤◌, ◌+◌, drop, length}
use Rattle.chv_pages.specs.HeldPages.{visible}
use Rattle.chv_pages.proofs.lists.count_shown.Given as goal

abbrev pub invariant-loop-h : goal.invariant-loop-h
invariant-loop-h l = (l.count ≤ l.h-index) × (l.count + length (visible (drop l.h-index l.held)) ≡ length (visible l.held))
