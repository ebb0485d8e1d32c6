-- Where a run of sessions stands: the turns that are left, and what has come of those that were taken.
use Rattle.std.specs.Prelude.{◌≡◌, ℕ, zero, suc, ◌+◌, List, [], ◌∷◌, ◌++◌, drop, slice_get, Result}
use Rattle.std.specs.List.{cons_option}
use Rattle.chv_defs_base.specs.declared.book.Full.{Full}
use Rattle.chv_defs_api.specs.declared.shelf.OnShelf.{OnShelf}
use Rattle.chv_defs.specs.Schedule.{Turn, Visit, Stage, turn_of, numbered, all_turns, after_turns, replies_to, visit_of, end_of}
use Rattle.chv_play.specs.declared.seat.Seat.{Seat}
use Rattle.chv_play.specs.Ahead.{Ahead, ahead_of}

-- what a seat has ahead of it
abbrev pub ahead_at : Seat → Ahead
ahead_at seat = ahead_of seat.session seat.link.left

-- that, as a visit
abbrev pub visit_ahead : Seat → Visit
visit_ahead seat = record { turns = (ahead_at seat).turns; taken = (ahead_at seat).taken }

-- a visit without its first turn
abbrev pub later : Visit → Visit
later visit = record visit { turns = drop 1 visit.turns }

-- ---- in a round

-- The turns of this round that are left, where so many of the seats have had theirs; the first seat has this number.
abbrev pub round_left : ℕ → ℕ → List Seat → List (ℕ × Turn)
round_left k served [] = []
round_left k zero (seat ∷ seats) = cons_option (turn_of k (slice_get (ahead_at seat).turns 0)) (round_left (k + 1) zero seats)
round_left k (suc served) (seat ∷ seats) = round_left (k + 1) served seats

-- what is ahead of the seats behind this round
abbrev pub behind_round : ℕ → List Seat → List Visit
behind_round served [] = []
behind_round zero (seat ∷ seats) = later (visit_ahead seat) ∷ behind_round zero seats
behind_round (suc served) (seat ∷ seats) = visit_ahead seat ∷ behind_round served seats

-- all turns that are left
abbrev pub turns_left : ℕ → List Seat → List (ℕ × Turn)
turns_left served seats = round_left 1 served seats ++ all_turns (numbered (behind_round served seats))

-- ---- what came of the turns

-- This holds of each seat with its session's number; the first seat has this one.
abbrev pub EachFrom : (ℕ → Seat → Type 0) → ℕ → List Seat → Type 0
EachFrom P k [] = Unit {0}
EachFrom P k (seat ∷ seats) = P k seat × EachFrom P (k + 1) seats

-- of these replies, those to a seat's session are what it put
abbrev pub IsPut : List (ℕ × List ℕ) → ℕ → Seat → Type 0
IsPut replies k seat = replies_to k replies ≡ seat.session.replied

-- The turns that are left lead from this stage, which has the replies that were put, where all turns lead.
pub record IsUnderWay (shelf : List OnShelf) (whole : Result Stage Full) (stage : List (ℕ × List ℕ) → Stage) (served : ℕ) (seats : List Seat) : Type 0 where
  pub replies : List (ℕ × List ℕ)
  pub put : EachFrom (IsPut replies) 1 seats
  pub leads : after_turns shelf (stage replies) (turns_left served seats) ≡ whole

-- ---- each session at its stream

-- What a session took and what is left are its stream, and it takes in all and ends as the schedule says.
pub record Attends (stream : List ℕ) (seat : Seat) : Type 0 where
  pub split : stream ≡ seat.session.asked ++ seat.link.left
  pub taken : (ahead_at seat).taken ≡ (visit_of stream).taken
  pub how : (ahead_at seat).how ≡ end_of (visit_of stream).turns

-- There is a seat for each stream, and this holds of the two.
abbrev pub ForEach : (List ℕ → Seat → Type 0) → List (List ℕ) → List Seat → Type 0
ForEach P [] [] = Unit {0}
ForEach P [] (seat ∷ seats) = ⊥
ForEach P (stream ∷ streams) [] = ⊥
ForEach P (stream ∷ streams) (seat ∷ seats) = P stream seat × ForEach P streams seats
