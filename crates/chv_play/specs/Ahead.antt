-- What a session that is played has ahead of it: the turns that the schedule gives it from where it stands.
use Rattle.std.specs.Prelude.{◌≡◌, ℕ, ◌+◌, suc, List, [], ◌∷◌, length}
use Rattle.chv_defs_api.specs.declared.control.ControlCall.TheVariants as call
use Rattle.chv_defs_api.specs.declared.session.SessionEnd.{SessionEnd}
use Rattle.chv_defs_api.specs.declared.session.SessionEnd.TheVariants as end
use Rattle.chv_defs_api.specs.Desks.{Answer}
use Rattle.chv_defs_api.specs.SessionBytes.{AnsweredBy}
use Rattle.chv_defs.specs.Schedule.{Standing, Turn, Visit, Answers, Leaves, visit_from, end_of}
use Rattle.chv_session.specs.declared.state.State.{State}
use Rattle.chv_session.specs.declared.state.State.TheVariants as state
use Rattle.chv_session.specs.Talk.{Talk}

-- the turns that are left, how many bytes it takes in all, and how it ends
pub record Ahead : Type 0 where
  pub turns : List Turn
  pub taken : ℕ
  pub how : SessionEnd

-- those of a visit
abbrev pub ahead_in : Visit → Ahead
ahead_in visit = record { turns = visit.turns; taken = visit.taken; how = end_of visit.turns }

-- with a turn before the others
abbrev pub with_first : Turn → Ahead → Ahead
with_first turn ahead = record ahead { turns = turn ∷ ahead.turns }

-- where a session stands at its stream, of which so much is left
abbrev pub standing_of : Talk → List ℕ → Standing
standing_of talk left = record { left = left; taken = length talk.asked; rest = talk.rest }

-- how many bytes it has not answered
abbrev pub unanswered : Standing → ℕ
unanswered s = length s.left + length s.rest

-- What a session has ahead of it, by where it stands: looking once more than it has bytes that are not answered is enough for an open one.
abbrev pub ahead_from : State → Talk → List ℕ → Ahead
ahead_from state.Open talk left = ahead_in (visit_from (suc (unanswered (standing_of talk left))) (standing_of talk left))
ahead_from (state.Leaving how) talk left = record { turns = Leaves how ∷ []; taken = length talk.asked; how = how }
ahead_from (state.Ended how) talk left = record { turns = []; taken = length talk.asked; how = how }
ahead_from state.Lost talk left = record { turns = []; taken = length talk.asked; how = end.Stopped }

-- What a session has ahead of it at a stream of which so much is left.
abbrev pub ahead_of : Talk → List ℕ → Ahead
ahead_of talk left = ahead_from talk.state talk left

-- A turn made these calls, and this is the reply to it: a request's, or none where it is the Bye.
abbrev pub Does : Turn → List Answer → List ℕ → Type 0
Does (Answers what last) made reply = AnsweredBy what last made reply
Does (Leaves how) made reply = (bye : Answer) × (bye.call ≡ call.Bye) × (made ≡ bye ∷ []) × (reply ≡ [])
