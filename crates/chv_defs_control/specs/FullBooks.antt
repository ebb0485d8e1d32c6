-- The first book that is full for a control entry: the control book is asked first, and then the banks, zones ascending.
use Rattle.std.specs.Prelude.{ℕ, List, Option, None, Some}
use Rattle.chv_defs_control.specs.declared.machine.Machine.{Machine}
use Rattle.chv_defs_base.specs.declared.book.Full.{Full}
use Rattle.chv_defs_api.specs.declared.control.ControlEntry.{ControlEntry}
use Rattle.chv_defs_memory.specs.declared.bank.Refusal.{Refusal}
use Rattle.chv_defs_memory.specs.declared.bank.Refusal.TheVariants as refusal
use Rattle.chv_defs_memory.specs.Zones.{Known}
use Rattle.chv_defs_control.specs.ControlBook.{full_at}
use Rattle.chv_defs_control.specs.OwnerCalls.{room_refusal_for}

-- the book that a refusal says to be full (a refusal of room is no other)
abbrev pub book_in : Option Refusal → Option Full
book_in (Some (refusal.Full full)) = Some full
book_in _ = None

-- this book, or else that one
abbrev pub or_else : Option Full → Option Full → Option Full
or_else (Some full) other = Some full
or_else None other = other

-- The first book that is full for an entry of this machine behind this history, where one is: the control book, where the entry
-- passes one of its limits; or else the lowest bank that has no room for the owner's calls for which it is made before the entry
-- (`room_calls` of `OwnerCalls`).
abbrev pub first_full : Machine → List ControlEntry → (ℕ → ℕ → Known) → ControlEntry → Option Full
first_full m history known entry = or_else (full_at m history entry) (book_in (room_refusal_for m entry.call entry.reply known))
