-- What contracts see of a session.
use Rattle.std.specs.Prelude.{ℕ, List, []}
use Rattle.chv_defs_api.specs.declared.session.SessionEnd.{SessionEnd}
use Rattle.chv_defs_api.specs.declared.session.SessionEnd.TheVariants as end
use Rattle.chv_session.specs.declared.state.State.{State}
use Rattle.chv_session.specs.declared.state.State.TheVariants as state

-- The bytes that a session took, those of them that were not answered so far, the replies that were put, and where it
-- stands. Of a lost session the unanswered bytes are not told.
pub record Talk : Type 0 where
  pub asked : List ℕ
  pub rest : List ℕ
  pub replied : List ℕ
  pub state : State

-- these together
abbrev pub talk_of : List ℕ → List ℕ → List ℕ → State → Talk
talk_of asked rest replied stands = record { asked = asked; rest = rest; replied = replied; state = stands }

-- A session of which nothing came so far.
abbrev pub new_talk : Talk
new_talk = record { asked = []; rest = []; replied = []; state = state.Open }

-- How a session ended: Stopped where it has not.
abbrev pub end_of : State → SessionEnd
end_of (state.Ended how) = how
end_of state.Open = end.Stopped
end_of (state.Leaving how) = end.Stopped
end_of state.Lost = end.Stopped
