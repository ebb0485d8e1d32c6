-- Room in some banks.
use Rattle.std.specs.Prelude.{ℕ, ◌+◌, ◌-◌, Bool, true, false, List, map, min, Option, Result, Ok, Err}
use Rattle.std.specs.declared.alloc.AllocError.{AllocError}
use Rattle.chv_defs_memory.specs.declared.bank.Refusal.{Refusal}
use Rattle.chv_defs_memory.specs.BankBook.{BankBook, room_refusal}
use Rattle.chv_defs_memory.specs.Zones.{first_due}

-- a bank with room for further entries, and for pages
abbrev pub with_places : ℕ → ℕ → BankBook → BankBook
with_places entries pages b = record b { entries = b.entries + entries; pages = pages }

-- a bank with room for so many entries less, and for no page
abbrev pub without_places : ℕ → BankBook → BankBook
without_places entries b = record b { entries = b.entries - entries; pages = 0 }

-- a bank with room for at most so many entries, and for no page
abbrev pub keep_places : ℕ → BankBook → BankBook
keep_places keep b = record b { entries = min b.entries keep; pages = 0 }

-- the first refusal of room for these entries and pages in each bank, where one is due
abbrev pub refusal_in : List BankBook → ℕ → ℕ → Option Refusal
refusal_in books entries pages = first_due (map (λ (b : BankBook). room_refusal b entries pages) books)

-- whether room was made
abbrev pub is_made : Result (Result (Unit {0}) Refusal) AllocError → Bool
is_made (Ok (Ok done)) = true
is_made (Ok (Err why)) = false
is_made (Err none) = false
