-- What a session does in one turn.
use Rattle.std.specs.Prelude.{◌≡◌, ℕ, List, [], ◌∷◌, ◌++◌, Option, None, Some, Ok, Err}
use Rattle.chv_defs_api.specs.declared.control.ControlCall.{ControlCall}
use Rattle.chv_defs_api.specs.declared.control.ControlCall.TheVariants as call
use Rattle.chv_defs_api.specs.Desks.{Answer}
use Rattle.chv_defs.specs.Schedule.{Turn, Answers, Leaves}
use Rattle.chv_session.specs.Talk.{Talk}
use Rattle.chv_play.specs.Ahead.{Ahead, ahead_of, with_first, Does}

-- the call that a turn makes, where it makes one
abbrev pub call_in : Turn → Option ControlCall
call_in (Answers (Ok c) last) = Some c
call_in (Answers (Err rule) last) = None
call_in (Leaves how) = Some call.Bye

-- the replies with that of a turn of this session, where it has one
abbrev pub with_reply_of : Turn → ℕ → List ℕ → List (ℕ × List ℕ) → List (ℕ × List ℕ)
with_reply_of (Answers what last) session reply replies = replies ++ (session, reply) ∷ []
with_reply_of (Leaves how) session reply replies = replies

-- A session took the first of the turns ahead of it: it took bytes of its stream, made calls, and put its reply.
pub record Turned (old new : Talk) (left left_after : List ℕ) (made : List Answer) : Type 0 where
  pub turn : Turn
  pub reply : List ℕ
  pub more : List ℕ
  pub first : ahead_of old left ≡ with_first turn (ahead_of new left_after)
  pub asks : new.asked ≡ old.asked ++ more
  pub gives : left ≡ more ++ left_after
  pub replied : new.replied ≡ old.replied ++ reply
  pub does : Does turn made reply

-- The first of the turns ahead of a session makes this call.
pub record Halts (talk : Talk) (left : List ℕ) (refused : ControlCall) : Type 0 where
  pub turn : Turn
  pub rest : Ahead
  pub first : ahead_of talk left ≡ with_first turn rest
  pub makes : call_in turn ≡ Some refused

-- What a session did whose caller's calls grew so: it took its turn; or the call of its turn was refused, and it made none.
abbrev pub TurnedOrHalted : Talk → Talk → List ℕ → List ℕ → List Answer → List Answer → Option ControlCall → Type 0
TurnedOrHalted old new left left_after answers answers_after None =
    (made : List Answer) × (answers_after ≡ answers ++ made) × Turned old new left left_after made
TurnedOrHalted old new left left_after answers answers_after (Some refused) = (answers_after ≡ answers) × Halts old left refused
