-- What a turn of a seat does to the control value, and where a run stands.
use Rattle.std.specs.Prelude.{◌≡◌, ◌≢◌, ◌⊎◌, ℕ, map, List, [], ◌++◌, Option, None, Some, Result, Ok, Err}
use Rattle.chv_defs_base.specs.declared.book.Full.{Full}
use Rattle.chv_defs_api.specs.declared.shelf.OnShelf.{OnShelf}
use Rattle.chv_defs_control.specs.LegalControl.{answers_by}
use Rattle.chv_defs.specs.Schedule.{Turn, Stage, after_turn, after_turns, first_stage, all_turns, numbered, visit_of, replies_to}
use Rattle.chv_play.specs.declared.seat.Seat.{Seat}
use Rattle.chv_play.specs.Ahead.{Ahead, with_first}
use Rattle.chv_play.specs.Order.{IsOrdered, IsOrderedIn}
use Rattle.chv_play.specs.Playing.{ahead_at, EachFrom, IsUnderWay, Attends, ForEach}
use Rattle.chv_play.specs.Turns.{with_reply_of}
use Rattle.chv_play.specs.Banks.{PlayedControl, traced}

-- the stage at a control value, with these replies
abbrev pub stage_at : {D : Type 0} → PlayedControl D → List (ℕ × List ℕ) → Stage
stage_at control replies =
    record { machine = control.machine; history = control.history; banks = traced control.zones; replies = replies }

-- A seat took the first of the turns ahead of it, of which the control value and the replies came that the schedule says.
pub record TakesTurn {D : Type 0} (shelf : List OnShelf) (caller : ℕ) (old new : PlayedControl D) (seat after : Seat) : Type 0 where
  pub turn : Turn
  pub reply : List ℕ
  pub more : List ℕ
  pub first : ahead_at seat ≡ with_first turn (ahead_at after)
  pub asks : after.session.asked ≡ seat.session.asked ++ more
  pub gives : seat.link.left ≡ more ++ after.link.left
  pub puts : (replies : List (ℕ × List ℕ)) → replies_to caller replies ≡ seat.session.replied
      → replies_to caller (with_reply_of turn caller reply replies) ≡ after.session.replied
  pub puts_no_other : (replies : List (ℕ × List ℕ)) (other : ℕ) → other ≢ caller
      → replies_to other (with_reply_of turn caller reply replies) ≡ replies_to other replies
  pub leads : (replies : List (ℕ × List ℕ))
      → after_turn shelf (stage_at old replies) caller turn ≡ Ok (stage_at new (with_reply_of turn caller reply replies))
  pub calls : IsOrdered seat.session (answers_by caller old.history) → IsOrdered after.session (answers_by caller new.history)
  pub calls_no_other : (other : ℕ) → other ≢ caller → answers_by other new.history ≡ answers_by other old.history

-- The first of the turns ahead of a seat finds a book full.
pub record FindsFull {D : Type 0} (shelf : List OnShelf) (caller : ℕ) (control : PlayedControl D) (seat : Seat) (full : Full) : Type 0 where
  pub turn : Turn
  pub rest : Ahead
  pub first : ahead_at seat ≡ with_first turn rest
  pub leads : (replies : List (ℕ × List ℕ)) → after_turn shelf (stage_at control replies) caller turn ≡ Err full

-- the one or the other
abbrev pub TurnsOut : {D : Type 0} → List OnShelf → ℕ → PlayedControl D → PlayedControl D → Seat → Seat → Option Full → Type 0
TurnsOut shelf caller old new seat after None = TakesTurn shelf caller old new seat after
TurnsOut shelf caller old new seat after (Some full) = FindsFull shelf caller old seat full

-- A seat whose session has ended is left as it is; any other takes its turn.
abbrev pub IsServed : {D : Type 0} → List OnShelf → ℕ → PlayedControl D → PlayedControl D → Seat → Seat → Option Full → Type 0
IsServed shelf caller old new seat after None =
    TakesTurn shelf caller old new seat after ⊎ (((ahead_at seat).turns ≡ []) × (new ≡ old) × (after ≡ seat))
IsServed shelf caller old new seat after (Some full) = FindsFull shelf caller old seat full

-- where all turns of sessions at these streams lead
abbrev pub whole : List OnShelf → List (List ℕ) → Result Stage Full
whole shelf streams = after_turns shelf first_stage (all_turns (numbered (map visit_of streams)))

-- A run of sessions at these streams stands here: so many of the seats have had their turn of the round.
pub record Stands {D : Type 0} (shelf : List OnShelf) (streams : List (List ℕ)) (control : PlayedControl D) (served : ℕ) (seats : List Seat) : Type 0 where
  pub under_way : IsUnderWay shelf (whole shelf streams) (stage_at control) served seats
  pub attend : ForEach Attends streams seats
  pub ordered : EachFrom (IsOrderedIn control.history) 1 seats

-- What playing on comes to: the run stands further on; or it finds a book full.
abbrev pub GoesOn : {D : Type 0} → List OnShelf → List (List ℕ) → PlayedControl D → ℕ → List Seat → Option Full → Type 0
GoesOn shelf streams control served seats None = Stands shelf streams control served seats
GoesOn shelf streams control served seats (Some full) = whole shelf streams ≡ Err full
