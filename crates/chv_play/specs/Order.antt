-- The calls of a session that is played, as the control history has them: those of its requests, in their order.
use Rattle.std.specs.Prelude.{◌≡◌, ◌≢◌, ℕ, true, false, List, [], None}
use Rattle.chv_defs_api.specs.declared.control.ControlEntry.{ControlEntry}
use Rattle.chv_defs_api.specs.declared.session.SessionEnd.TheVariants as end
use Rattle.chv_defs_api.specs.Desks.{Answer}
use Rattle.chv_defs_control.specs.LegalControl.{answers_by}
use Rattle.chv_defs_api.specs.SessionBytes.{IsSessionLog}
use Rattle.chv_session.specs.declared.state.State.TheVariants as state
use Rattle.chv_session.specs.Laws.{Runs}
use Rattle.chv_session.specs.Moment.{Moment, moment}
use Rattle.chv_session.specs.Step.{is_over}
use Rattle.chv_session.specs.Talk.{Talk, new_talk, end_of}
use Rattle.chv_play.specs.declared.seat.Seat.{Seat}

-- a session that is played, whose caller made these calls: none was refused, what it puts is not told, and nothing fails
abbrev pub played : Talk → List Answer → Moment
played talk answers = moment talk answers None None 0 0

-- Where a session has not ended, answered turns led it here from its start; and where it has ended, these are its calls. The
-- run does not stop it.
pub record IsOrdered (talk : Talk) (answers : List Answer) : Type 0 where
  pub going : is_over talk.state ≡ false → (moments : List Moment) × Runs (played new_talk []) moments (played talk answers)
  pub leaving : talk.state ≢ state.Leaving end.Stopped
  pub over : is_over talk.state ≡ true → (end_of talk.state ≢ end.Stopped) × IsSessionLog (end_of talk.state) talk.asked talk.replied answers

-- a seat's session is ordered by its calls in this history
abbrev pub IsOrderedIn : List ControlEntry → ℕ → Seat → Type 0
IsOrderedIn history k seat = IsOrdered seat.session (answers_by k history)
