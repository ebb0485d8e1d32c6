-- What contracts see of the control value, and what its type keeps.
use Rattle.std.specs.Prelude.{◌≤◌, ℕ, List, [], ◌∷◌, ◌++◌, Option, None, Some, Result, Ok, Err}
use Rattle.chv_defs_control.specs.declared.machine.Machine.{Machine}
use Rattle.chv_defs_base.specs.declared.book.Full.{Full}
use Rattle.chv_defs_api.specs.declared.shelf.OnShelf.{OnShelf}
use Rattle.chv_defs_api.specs.declared.control.ControlCall.{ControlCall}
use Rattle.chv_defs_api.specs.declared.control.ControlReply.{ControlReply}
use Rattle.chv_defs_api.specs.declared.control.ControlEntry.{ControlEntry}
use Rattle.chv_defs_base.specs.Sizes.{most_entries, most_payload}
use Rattle.chv_defs_control.specs.Machine.{IsWellFormed, empty_machine}
use Rattle.chv_defs_control.specs.ApiStep.{after, reply_to}
use Rattle.chv_defs_control.specs.ControlBook.{payload, places}
use Rattle.chv_defs_control.specs.FullBooks.{first_full}
use Rattle.chv_defs_control.specs.LegalControl.{IsLegal}
use Rattle.chv_defs_memory.specs.Zones.{Known}
use Rattle.chv_store.specs.declared.any_disk.AnyDisk.{AnyDisk}
use Rattle.chv_control.specs.declared.inner.Inner.{Inner}
use Rattle.chv_control.specs.declared.inner.Inner.TheVariants as inner

-- the state, the history that led to it, the disks that stand by, each behind its name, the banks of all zones, and how many
-- sessions there are
pub record Controlled (D Z : Type 0) : Type 0 where
  pub machine : Machine
  pub history : List ControlEntry
  pub disks : List (List ℕ × AnyDisk D)
  pub zones : Z
  pub sessions : ℕ

-- a control value with these disks, zones and sessions, to which nothing happened yet
abbrev pub fresh : {D Z : Type 0} → List (List ℕ × AnyDisk D) → Z → ℕ → Controlled D Z
fresh disks zones sessions = record { machine = empty_machine; history = []; disks = disks; zones = zones; sessions = sessions }

-- the entry of a call, answered by its rules
abbrev pub entry_of : List OnShelf → Machine → ℕ → ControlCall → ControlEntry
entry_of shelf m caller call = record { caller = caller; call = call; reply = reply_to shelf m call }

-- an answer, unless a book is full
abbrev pub unless_full : Option Full → ControlReply → Result ControlReply Inner
unless_full None reply = Ok reply
unless_full (Some full) reply = Err (inner.Full full)

-- The answer to a call where this is known of the banks: Full of the first book that is full for its entry, exactly where one
-- is, and else the answer by its rules.
abbrev pub answer_to : {D Z : Type 0} → List OnShelf → (ℕ → ℕ → Known) → Controlled D Z → ℕ → ControlCall → Result ControlReply Inner
answer_to shelf known control caller call =
    unless_full (first_full control.machine control.history known (entry_of shelf control.machine caller call)) (reply_to shelf control.machine call)

-- the control value behind one more entry, its zones as they were
abbrev pub entered : {D Z : Type 0} → Controlled D Z → ControlEntry → Controlled D Z
entered control entry = record control {
  machine = after control.machine entry.caller entry.call entry.reply;
  history = control.history ++ entry ∷ [];
}

-- what the type keeps, where these disks stand by: the history is legal and leads to the state, which is well formed, and
-- keeps within the limits of the book, the place of a Stop counted
pub record IsKept (shelf : List OnShelf) (machine : Machine) (history : List ControlEntry) : Type 0 where
  pub legal : IsLegal shelf history machine
  pub formed : IsWellFormed machine
  pub entries : places machine history ≤ most_entries
  pub bytes : payload history ≤ most_payload
