-- The banks of the control value that is played, as the schedule has them.
use Rattle.std.specs.Prelude.{◌≡◌, ℕ, List, [], map}
use Rattle.chv_defs_control.specs.declared.machine.Machine.{Machine}
use Rattle.chv_defs_api.specs.declared.control.ControlEntry.{ControlEntry}
use Rattle.chv_defs_memory.specs.BankBook.{BankBook}
use Rattle.chv_defs_memory.specs.MadeCalls.{at_rest, with_calls, IsAtRest}
use Rattle.chv_defs_memory.specs.Zones.{book_of, IsBank}
use Rattle.chv_defs_control.specs.OwnerCalls.{owner_calls}
use Rattle.chv_defs.specs.declared.trace.BankTrace.{BankTrace}
use Rattle.chv_guest.specs.LentBanks.{known_at, AreAllBanks, Lent}
use Rattle.chv_control.specs.Control.{Controlled, entered}

-- a control value over the banks of one thread
abbrev pub PlayedControl : Type 0 → Type 0
PlayedControl D = Controlled D Lent

-- What is known of the banks of such a value: they are all banks, nobody is lent, and each is at rest.
pub record IsWhole {D : Type 0} (control : PlayedControl D) : Type 0 where
  pub all : AreAllBanks control.zones.books
  pub home : control.zones.lent ≡ []
  pub rest : (zone bank : ℕ) → IsBank zone bank → IsAtRest (known_at control.zones.books zone bank)

-- a bank, with its history
abbrev pub as_trace : BankBook → BankTrace
as_trace b = record { zone = b.zone; bank = b.bank; entries = b.history }

-- all banks, with their histories
abbrev pub traced : Lent → List BankTrace
traced zones = map as_trace zones.books

-- a bank with the entries of the owner's calls that a control entry of this machine stands for, and at rest
abbrev pub book_behind : Machine → ControlEntry → BankBook → BankBook
book_behind m e b = book_of b.zone b.bank (at_rest (with_calls b.bank b.history (owner_calls m e.call e.reply b.zone b.bank)))

-- all banks behind that entry
abbrev pub zones_behind : Machine → ControlEntry → Lent → Lent
zones_behind m e zones = record zones { books = map (book_behind m e) zones.books }

-- the control value behind one more entry, with its banks
abbrev pub entered_with_banks : {D : Type 0} → PlayedControl D → ControlEntry → PlayedControl D
entered_with_banks control e = record (entered control e) { zones = zones_behind control.machine e control.zones }
