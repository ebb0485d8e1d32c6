-- Numbers that callers enter.
use Rattle.std.specs.Prelude.{◌≡◌, ℕ, List, map}
use Rattle.atomic_table.specs.Seated.{TableId}
use Rattle.chv_defs_book.specs.Histories.{entries_by}
use Rattle.chv_defs_book.specs.Passes.{IsFree, PassView}
use Rattle.chv_tests_book.specs.declared.tally.Entered.{Entered}

-- who entered a number
abbrev pub caller_of : Entered → ℕ
caller_of e = e.caller

-- the entries that a caller makes of these numbers
abbrev pub entered : ℕ → List ℕ → List Entered
entered caller numbers = map (λ n. record { caller = caller; number = n }) numbers

-- A free pass of this book and this caller, who entered just these numbers.
abbrev pub HasEntered : TableId → ℕ → List ℕ → PassView Entered ℕ → Type 0
HasEntered book caller numbers pass = (pass.book ≡ book) × (pass.caller ≡ caller) × IsFree pass × (entries_by caller_of caller pass.seen ≡ entered caller numbers)
