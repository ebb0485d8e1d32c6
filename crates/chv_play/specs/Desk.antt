-- What asking a call at the desk of the sessions that are played brings about.
use Rattle.std.specs.Prelude.{◌≡◌, ◌⊎◌, ℕ, true, List, Option, None, Some, Result, Ok, Err}
use Rattle.chv_defs_base.specs.declared.book.Full.{Full}
use Rattle.chv_defs_api.specs.declared.shelf.OnShelf.{OnShelf}
use Rattle.chv_defs_api.specs.declared.control.ControlCall.{ControlCall}
use Rattle.chv_defs_api.specs.declared.control.ControlEntry.{ControlEntry}
use Rattle.chv_defs_api.specs.declared.control.ControlReply.{ControlReply}
use Rattle.chv_defs_control.specs.ApiStep.{reply_to}
use Rattle.chv_defs_api.specs.Desks.{can_have}
use Rattle.chv_defs_control.specs.FullBooks.{first_full}
use Rattle.chv_defs.specs.Schedule.{known_in}
use Rattle.chv_control.specs.Control.{entry_of}
use Rattle.chv_play.specs.declared.desk.PlayDesk.{PlayDesk}
use Rattle.chv_play.specs.declared.desk.Refused.{Refused}
use Rattle.chv_play.specs.Banks.{PlayedControl, entered_with_banks, traced}

-- the call for which a book was full, where there was one
abbrev pub call_of : Option Refused → Option ControlCall
call_of None = None
call_of (Some refused) = Some refused.call

-- the book that was full for it
abbrev pub full_of : Option Refused → Option Full
full_of None = None
full_of (Some refused) = Some refused.full

-- the entry of a call that a caller makes now, answered by its rules
abbrev pub entry_at : {D : Type 0} → List OnShelf → PlayedControl D → ℕ → ControlCall → ControlEntry
entry_at shelf control caller call = entry_of shelf control.machine caller call

-- The first book that is full for that entry, where one is.
abbrev pub full_for : {D : Type 0} → List OnShelf → PlayedControl D → ℕ → ControlCall → Option Full
full_for shelf control caller call =
    first_full control.machine control.history (known_in (traced control.zones)) (entry_at shelf control caller call)

-- The books have room for the call, which is entered, with the owner's calls in the banks that it stands for; and nothing else
-- changes.
pub record IsEntered {D : Type 0} (shelf : List OnShelf) (before : PlayDesk D) (call : ControlCall) (after : PlayDesk D) : Type 0 where
  pub room : full_for shelf before.control before.caller call ≡ None
  pub enters : after ≡ record before { control = entered_with_banks before.control (entry_at shelf before.control before.caller call) }

-- A book is full for the call, which is kept with the book, and nothing else changes.
pub record IsRefused {D : Type 0} (shelf : List OnShelf) (before : PlayDesk D) (call : ControlCall) (after : PlayDesk D) : Type 0 where
  pub full : Full
  pub no_room : full_for shelf before.control before.caller call ≡ Some full
  pub keeps : after ≡ record before { refused = Some (record { call = call; full = full }) }

-- A call that is asked is entered; or a book is full for it; or nothing changes, where memory is wanting.
abbrev pub IsAskedOf : {D : Type 0} → List OnShelf → PlayDesk D → ControlCall → PlayDesk D → Type 0
IsAskedOf shelf before call after = IsEntered shelf before call after ⊎ IsRefused shelf before call after ⊎ (after ≡ before)

-- A call is entered, and answered by its rules; or it is refused; or nothing changes, where memory is wanting.
abbrev pub IsAnswered : {D S E : Type 0} → List OnShelf → PlayDesk D → ControlCall → PlayDesk D → Result (Result ControlReply S) E → Type 0
IsAnswered shelf before call after (Ok (Ok reply)) =
    IsEntered shelf before call after × (reply ≡ reply_to shelf before.control.machine call) × (can_have call reply ≡ true)
IsAnswered shelf before call after (Ok (Err stopped)) = IsRefused shelf before call after
IsAnswered shelf before call after (Err error) = after ≡ before
