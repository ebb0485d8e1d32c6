-- What playing sessions comes to.
use Rattle.std.specs.Prelude.{◌≡◌, true, ℕ, ◌+◌, List, [], ◌∷◌, filter, length, Option, None, Some, Result, Ok, Err}
use Rattle.std.specs.List.{AllByRecursion, range_with_len}
use Rattle.chv_defs_base.specs.declared.book.Full.{Full}
use Rattle.chv_defs_api.specs.declared.context.StopCause.{StopCause}
use Rattle.chv_defs_api.specs.declared.context.StopCause.TheVariants as cause
use Rattle.chv_defs_api.specs.declared.control.ControlEntry.{ControlEntry}
use Rattle.chv_defs.specs.declared.trace.Trace.{Trace}
use Rattle.chv_defs_api.specs.declared.shelf.OnShelf.{OnShelf}
use Rattle.chv_defs.specs.LegalTrace.{numbers_of, AreInOrder, IsLegalTrace}
use Rattle.chv_defs.specs.Schedule.{has_entries}
use Rattle.chv_defs.specs.declared.trace.BankTrace.{BankTrace}
use Rattle.chv_defs.specs.declared.trace.SessionTrace.{SessionTrace}
use Rattle.chv_defs_memory.specs.LegalBank.{IsLegal}
use Rattle.chv_session.specs.Talk.{new_talk, end_of}
use Rattle.chv_session.specs.Step.{is_over}
use Rattle.chv_play.specs.declared.seat.Seat.{Seat}
use Rattle.chv_play.specs.Banks.{PlayedControl, traced}
use Rattle.chv_play.specs.Playing.{ForEach}

-- a seat at the start of its stream
pub record IsNewSeat (stream : List ℕ) (seat : Seat) : Type 0 where
  pub session : seat.session ≡ new_talk
  pub left : seat.link.left ≡ stream

-- one for each stream
abbrev pub AreNewSeats : List (List ℕ) → List Seat → Type 0
AreNewSeats streams seats = ForEach IsNewSeat streams seats

-- the session of each seat has ended
abbrev pub AreOver : List Seat → Type 0
AreOver seats = AllByRecursion (λ (seat : Seat). is_over seat.session.state ≡ true) seats

-- what a seat's session leaves, which has this number
abbrev pub log_at : ℕ → Seat → SessionTrace
log_at session seat = record {
  session = session;
  log = record { asked = seat.session.asked; replied = seat.session.replied; end = end_of seat.session.state };
}

-- what the sessions leave, the first of which has this number
abbrev pub logs_at : ℕ → List Seat → List SessionTrace
logs_at session [] = []
logs_at session (seat ∷ seats) = log_at session seat ∷ logs_at (session + 1) seats

-- the trace of a run of sessions alone, of which these are the banks: those that have entries
abbrev pub trace_with : List ControlEntry → List BankTrace → List SessionTrace → Trace
trace_with history banks logs =
    record { disks = []; vcpus = []; control = history; banks = filter has_entries banks; sessions = logs }

-- the history of each bank is legal
abbrev pub AreLegalBanks : List BankTrace → Type 0
AreLegalBanks banks = AllByRecursion (λ (b : BankTrace). IsLegal b.bank b.entries) banks

-- What the sessions left makes the trace that is due, and each made its calls in order; or this book is full, as is due.
abbrev pub Gives : {D : Type 0} → Result Trace Full → PlayedControl D → Result (List SessionTrace) Full → Type 0
Gives due control (Ok logs) = (due ≡ Ok (trace_with control.history (traced control.zones) logs)) × AreInOrder control.history logs
Gives due control (Err full) = due ≡ Err full

-- The sessions have the numbers 1, 2 and so on, in order, none left out.
abbrev pub AreNumberedFromOne : List SessionTrace → Type 0
AreNumberedFromOne sessions = numbers_of sessions ≡ range_with_len 1 (length sessions)

-- What playing comes to where these disks stand by: the trace that is due, which is legal, and whose sessions are numbered from 1
-- on; the book that is full where that is due; or want of memory.
abbrev pub Comes : List OnShelf → Result Trace Full → Option Trace → Option StopCause → Type 0
Comes shelf due (Some trace) None = (due ≡ Ok trace) × IsLegalTrace shelf trace × AreNumberedFromOne trace.sessions
Comes shelf due None (Some (cause.Full full)) = due ≡ Err full
Comes shelf due None (Some cause.Memory) = Unit {0}
Comes shelf due _ _ = ⊥
