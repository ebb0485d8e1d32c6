use Rattle.std.proofs.Common.{◌≡◌, ◌++◌, drop}
use Rattle.chv_pages.specs.HeldPages.{visible}
use Rattle.chv_pages.proofs.lists.shown_pages.Given as goal

abbrev pub invariant-loop-h : goal.invariant-loop-h
invariant-loop-h l = l.pages ++ visible (drop l.h-index l.held) ≡ visible l.held
