-- Whole sessions: turns that follow one another, and what they come to.
use Rattle.std.specs.Prelude.{◌≡◌, ◌⊎◌, ℕ, true, false, List, [], ◌∷◌, ◌++◌, Option}
use Rattle.std.specs.List.{AllByRecursion}
use Rattle.chv_defs_base.specs.declared.rule.Rule.{Rule}
use Rattle.chv_defs_api.specs.declared.request.Request.{Request}
use Rattle.chv_defs_api.specs.declared.control.ControlCall.TheVariants as call
use Rattle.chv_defs_api.specs.declared.session.SessionEnd.{SessionEnd}
use Rattle.chv_defs_api.specs.declared.session.SessionEnd.TheVariants as end
use Rattle.chv_defs_api.specs.Desks.{Answer}
use Rattle.chv_io.specs.Outside.{Gains, GainsPart}
use Rattle.chv_defs_api.specs.Requests.{BeginsWith}
use Rattle.chv_defs_api.specs.Routes.{refusal_bytes}
use Rattle.chv_defs_api.specs.SessionBytes.{Answered, IsBad, IsOpen, IsSessionLog}
use Rattle.chv_session.specs.declared.next.Next.TheVariants as next
use Rattle.chv_session.specs.Talk.{new_talk}
use Rattle.chv_session.specs.Moment.{Moment}
use Rattle.chv_session.specs.Response.{is_bye}
use Rattle.chv_session.specs.Step.{ComesTo, GetsLost}

-- In a turn that answers a request or a refusal, none of the session's calls is its Bye.
abbrev pub AnswersWithoutBye : Type 0
AnswersWithoutBye =
    (before after : Moment) → ComesTo next.Answered before after
    → (made : List Answer) × (after.answers ≡ before.answers ++ made)
    × AllByRecursion (λ (answer : Answer). is_bye answer.call ≡ false) made

-- Calls of `next` that follow one another, with what is between them; each of them answered a request or a refusal.
abbrev pub Runs : Moment → List Moment → Moment → Type 0
Runs first [] last = first ≡ last
Runs first (moment ∷ moments) last = ComesTo next.Answered first moment × Runs moment moments last

-- From a new session on, any number of answered turns and then an end make what a session leaves: the bytes that it
-- asked, its replies, and all calls that its caller made meanwhile, in whatever pieces the bytes came.
abbrev pub EndsAsSession : Type 0
EndsAsSession =
    (first last after : Moment) (moments : List Moment) (how : SessionEnd) → first.talk ≡ new_talk → Runs first moments last
    → ComesTo (next.Ended how) last after
    → (made : List Answer) × (after.answers ≡ first.answers ++ made) × IsSessionLog how after.talk.asked after.talk.replied made

-- A session that is left behind any number of answered turns is one that the run stopped.
abbrev pub IsSessionWhereLeft : Type 0
IsSessionWhereLeft =
    (first last : Moment) (moments : List Moment) → first.talk ≡ new_talk → Runs first moments last
    → (made : List Answer) × (last.answers ≡ first.answers ++ made)
    × IsSessionLog end.Stopped last.talk.asked last.talk.replied made

-- A session that met want of memory, behind any number of answered turns, is one that the run stopped.
abbrev pub IsSessionWhereLost : Type 0
IsSessionWhereLost =
    (first last after : Moment) (moments : List Moment) → first.talk ≡ new_talk → Runs first moments last → GetsLost last after
    → (made : List Answer) × (after.answers ≡ first.answers ++ made)
    × IsSessionLog end.Stopped after.talk.asked after.talk.replied made

-- These bytes are the reply to what is in front, of which these calls were made: to a request, by the answers to its calls;
-- or to bytes that a rule refuses, which make none.
abbrev pub IsReplyTo : List ℕ → List Answer → List ℕ → Type 0
IsReplyTo rest made reply =
    ((request : Request) × (behind : List ℕ) × BeginsWith rest request behind × Answered request made reply)
    ⊎ ((rule : Rule) × IsBad rest rule × (made ≡ []) × (reply ≡ refusal_bytes rule true))

-- Of the last reply a first part was put, perhaps none of it. What the session asked is requests and a rest, and the calls
-- that it made are those of the requests and then those of what is in front of the rest. The replies to the requests
-- were put whole, and behind them the first part of the reply to what is in front, by the answers that were made to its calls.
pub record IsCutOff (before after : Option (List ℕ)) (asked replied : List ℕ) (made : List Answer) : Type 0 where
  pub calls : List Answer
  pub more : List Answer
  pub rest : List ℕ
  pub unsent : List ℕ
  pub between : Option (List ℕ)
  pub requests : IsOpen asked replied calls rest
  pub both : made ≡ calls ++ more
  pub front : IsReplyTo rest more unsent
  pub whole : Gains before between replied
  pub part : GainsPart between after unsent

-- What was put is the replies of the session, which made these calls; or the last reply was cut off.
abbrev pub PutsPart : Option (List ℕ) → Option (List ℕ) → List ℕ → List ℕ → List Answer → Type 0
PutsPart before after asked replied made = Gains before after replied ⊎ IsCutOff before after asked replied made

-- What was put at an end, where the session made these calls: the replies of the session. At a Fault, whose Bye is the last
-- of the calls, and where the run stopped, the last reply may be cut off.
abbrev pub PutsAt : SessionEnd → Option (List ℕ) → Option (List ℕ) → List ℕ → List ℕ → List Answer → Type 0
PutsAt end.Fault before after asked replied made =
    (calls : List Answer) × (bye : Answer) × (bye.call ≡ call.Bye) × (made ≡ calls ++ bye ∷ []) × PutsPart before after asked replied calls
PutsAt end.Stopped before after asked replied made = PutsPart before after asked replied made
PutsAt _ before after asked replied made = Gains before after replied

-- Behind any number of answered turns the replies of the session, and no more, were put into the connection, and so they
-- were at an end, of the calls that its caller made meanwhile.
abbrev pub PutsItsReplies : Type 0
PutsItsReplies =
    (first last after : Moment) (moments : List Moment) (how : SessionEnd) → first.talk ≡ new_talk → Runs first moments last
    → ComesTo (next.Ended how) last after
    → Gains first.put last.put last.talk.replied
    × ((made : List Answer) × (after.answers ≡ first.answers ++ made)
    × PutsAt how first.put after.put after.talk.asked after.talk.replied made)

-- And so they were where the session met want of memory; the last reply may be cut off.
abbrev pub PutsItsRepliesWhereLost : Type 0
PutsItsRepliesWhereLost =
    (first last after : Moment) (moments : List Moment) → first.talk ≡ new_talk → Runs first moments last → GetsLost last after
    → (made : List Answer) × (after.answers ≡ first.answers ++ made)
    × PutsPart first.put after.put after.talk.asked after.talk.replied made
