-- Where no count of a connection's faults rises.
use Rattle.std.specs.Prelude.{◌≡◌, ◌⊎◌, ⊤, ℕ, Bool, true, Option, Some}
use Rattle.chv_defs_api.specs.declared.control.ControlCall.{ControlCall}
use Rattle.chv_defs_api.specs.declared.control.ControlCall.TheVariants as call
use Rattle.chv_defs_api.specs.declared.session.SessionEnd.TheVariants as end
use Rattle.chv_session.specs.declared.fill.Found.{Found}
use Rattle.chv_session.specs.declared.fill.Found.TheVariants as found
use Rattle.chv_session.specs.declared.respond.Then.{Then}
use Rattle.chv_session.specs.declared.respond.Then.TheVariants as then_is
use Rattle.chv_session.specs.declared.next.Next.{Next}
use Rattle.chv_session.specs.declared.next.Next.TheVariants as next
use Rattle.chv_session.specs.Moment.{Faults}

-- Neither count of a connection's faults rose.
pub record CountsStay (counts : Faults) : Type 0 where
  pub reads_stay : counts.reads_after ≡ counts.reads
  pub writes_stay : counts.writes_after ≡ counts.writes

-- A read that failed is found as a fault, and what else is found leaves the counts.
abbrev pub StaysUnlessFound : Found → Faults → Type 0
StaysUnlessFound found.Fault counts = ⊤
StaysUnlessFound _ counts = CountsStay counts

-- It is no fault of a read.
abbrev pub IsNoFault : Found → Type 0
IsNoFault found.Fault = ⊥
IsNoFault _ = ⊤

-- The session is to end by a fault, or the counts stay.
abbrev pub StaysUnlessEnding : Then → Faults → Type 0
StaysUnlessEnding what counts = (what ≡ then_is.End end.Fault) ⊎ CountsStay counts

-- No count rose in a call that is answered, or that ended the session otherwise than by a fault. A run that stopped at the
-- Bye of such an end had one too: this is the call that was answered Stopped then.
abbrev pub IsFaultless : Next → Option ControlCall → Faults → Type 0
IsFaultless what refused counts =
    CountsStay counts ⊎ (what ≡ next.Ended end.Fault) ⊎ ((what ≡ next.Ended end.Stopped) × (refused ≡ Some call.Bye))

-- No count rose in a call that met want of memory, unless it had closed the connection: at the Bye of an end, which may be
-- one by a fault.
abbrev pub IsLostFaultless : Bool → Faults → Type 0
IsLostFaultless closed_after counts = CountsStay counts ⊎ (closed_after ≡ true)
