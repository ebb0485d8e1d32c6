-- What one call of `next` brings about.
use Rattle.std.specs.Prelude.{◌≡◌, ◌≢◌, ◌<◌, ◌⊎◌, ⊤, ℕ, Bool, true, false, List, [], ◌∷◌, ◌++◌, length, Option, Some}
use Rattle.chv_defs_base.specs.declared.rule.Rule.{Rule}
use Rattle.chv_defs_api.specs.declared.request.Request.{Request}
use Rattle.chv_defs_api.specs.declared.control.ControlCall.{ControlCall}
use Rattle.chv_defs_api.specs.declared.control.ControlCall.TheVariants as call
use Rattle.chv_defs_api.specs.declared.session.SessionEnd.{SessionEnd}
use Rattle.chv_defs_api.specs.declared.session.SessionEnd.TheVariants as end
use Rattle.chv_defs_api.specs.Desks.{Answer, is_held}
use Rattle.chv_io.specs.Outside.{Rose, Gains, GainsPart}
use Rattle.chv_defs_api.specs.Requests.{BeginsWith, IsShort}
use Rattle.chv_defs_api.specs.Routes.{refusal_bytes}
use Rattle.chv_defs_api.specs.SessionBytes.{Answered, IsBad, session_limit}
use Rattle.chv_session.specs.declared.next.Next.{Next}
use Rattle.chv_session.specs.declared.next.Next.TheVariants as next
use Rattle.chv_session.specs.declared.state.State.{State}
use Rattle.chv_session.specs.declared.state.State.TheVariants as state
use Rattle.chv_session.specs.Moment.{Moment, Faults, faults}
use Rattle.chv_session.specs.Response.{StopsIn, BreaksIn, Leaves}

-- ---- what is said, and where a session stands then

-- what a call says that left the session there; a lost session says nothing but want of memory
abbrev pub said_at : State → Next
said_at state.Open = next.Answered
said_at (state.Leaving how) = next.Answered
said_at (state.Ended how) = next.Ended how
said_at state.Lost = next.Ended end.Stopped

-- where a session stands that answered a request: behind a last one it has its Bye to make
abbrev pub state_behind : Bool → State
state_behind true = state.Leaving end.Closed
state_behind false = state.Open

-- whether a session has ended or is lost, so that it does nothing more
abbrev pub is_over : State → Bool
is_over state.Open = false
is_over (state.Leaving how) = false
is_over (state.Ended how) = true
is_over state.Lost = true

-- ---- an answer

-- Of the bytes at hand the request in front was answered, and the rest stands behind it; or a rule refused them, and they
-- are the rest. These are the calls and the reply, and the session stands there then.
abbrev pub Answers : State → List ℕ → List ℕ → List ℕ → List Answer → Type 0
Answers stands hand rest reply made =
    ((request : Request) × BeginsWith hand request rest × Answered request made reply × (stands ≡ state_behind request.last))
    ⊎ ((rule : Rule) × IsBad hand rule × (rest ≡ hand) × (made ≡ []) × (reply ≡ refusal_bytes rule true)
    × (stands ≡ state.Leaving end.Bad))

-- ---- what is at hand

-- What an open session had at hand in a call: the bytes, those that it had not answered and those that it took; the rest that
-- is left of them; all that it has asked; and the counts of its connection's faults, before the call and after it.
pub record Hand : Type 0 where
  pub bytes : List ℕ
  pub rest : List ℕ
  pub asked : List ℕ
  pub counts : Faults

-- what it had that took these bytes more
abbrev pub hand_between : Moment → List ℕ → Moment → Hand
hand_between before more after = record {
  bytes = before.talk.rest ++ more;
  rest = after.talk.rest;
  asked = after.talk.asked;
  counts = faults before.reads after.reads before.writes after.writes;
}

-- ---- an end without an answer

-- How a session ends that answers nothing in the call: by what it had at hand, the reply of which not all could be put, and
-- the calls before the Bye. At a Fault a read failed where neither a request nor a refusal was at hand, and else the write of
-- the reply.
abbrev pub ComesToEnd : SessionEnd → Hand → List ℕ → List Answer → Type 0
ComesToEnd end.Ended hand unsent calls =
    (hand.bytes ≡ []) × (hand.rest ≡ []) × (length hand.asked < session_limit) × (unsent ≡ []) × (calls ≡ [])
ComesToEnd end.Cut hand unsent calls =
    IsShort hand.bytes × (hand.bytes ≢ []) × (hand.rest ≡ hand.bytes) × (length hand.asked < session_limit) × (unsent ≡ [])
    × (calls ≡ [])
ComesToEnd end.Fault hand unsent calls =
    (IsShort hand.bytes × (hand.rest ≡ hand.bytes) × (length hand.asked < session_limit) × (unsent ≡ []) × (calls ≡ [])
    × Rose hand.counts.reads hand.counts.reads_after)
    ⊎ ((rule : Rule) × IsBad hand.bytes rule × (hand.rest ≡ hand.bytes) × (unsent ≡ refusal_bytes rule true) × (calls ≡ [])
    × Rose hand.counts.writes hand.counts.writes_after)
    ⊎ ((request : Request) × BeginsWith hand.bytes request hand.rest × Answered request calls unsent
    × Rose hand.counts.writes hand.counts.writes_after)
ComesToEnd end.Limit hand unsent calls =
    IsShort hand.bytes × (hand.rest ≡ hand.bytes) × (length hand.asked ≡ session_limit) × (unsent ≡ []) × (calls ≡ [])
ComesToEnd end.Bad hand unsent calls = ⊥
ComesToEnd end.Closed hand unsent calls = ⊥
ComesToEnd end.Stopped hand unsent calls = ⊥

-- The run stopped in a request, or at the Bye of another end, where this call was answered Stopped.
abbrev pub Stops : Hand → List ℕ → List Answer → Option ControlCall → Type 0
Stops hand unsent made refused =
    ((request : Request) × BeginsWith hand.bytes request hand.rest × StopsIn request made refused × (unsent ≡ []))
    ⊎ ((how : SessionEnd) × ComesToEnd how hand unsent made × (refused ≡ Some call.Bye))

-- An end with its calls: one Bye is the last of them, and there is none where the run stopped.
abbrev pub EndsBy : SessionEnd → Hand → List ℕ → List Answer → Option ControlCall → Type 0
EndsBy end.Stopped hand unsent made refused = Stops hand unsent made refused
EndsBy how hand unsent made refused =
    (calls : List Answer) × (bye : Answer) × ComesToEnd how hand unsent calls × (bye.call ≡ call.Bye) × (made ≡ calls ++ bye ∷ [])

-- ---- the outcome

-- An answer, whose reply was put whole; or an end, at which no reply was, but perhaps a first part of one.
abbrev pub Outcome : Next → Moment → Moment → Hand → List Answer → List ℕ → Type 0
Outcome next.Answered before after hand made reply =
    Answers after.talk.state hand.bytes hand.rest reply made × Gains before.put after.put reply
Outcome (next.Ended how) before after hand made reply =
    (unsent : List ℕ) × (after.talk.state ≡ state.Ended how) × (reply ≡ []) × EndsBy how hand unsent made after.refused
    × GainsPart before.put after.put unsent

-- No call was answered Stopped but where that is the end.
abbrev pub Refuses : Next → Option ControlCall → Option ControlCall → Type 0
Refuses (next.Ended end.Stopped) before after = ⊤
Refuses _ before after = after ≡ before

-- What an open session did: the bytes that it took, the calls that it made, and the reply that was put, each behind what
-- was there. After an answer it took nothing more.
pub record Step (what : Next) (before after : Moment) : Type 0 where
  pub more : List ℕ
  pub made : List Answer
  pub reply : List ℕ
  pub takes : after.talk.asked ≡ before.talk.asked ++ more
  pub calls : after.answers ≡ before.answers ++ made
  pub replies : after.talk.replied ≡ before.talk.replied ++ reply
  pub outcome : Outcome what before after (hand_between before more after) made reply
  pub refuses : Refuses what before.refused after.refused

-- Behind an answer no Settle is owed.
abbrev pub IsReady : Next → List Answer → Type 0
IsReady next.Answered answers = is_held answers ≡ false
IsReady (next.Ended how) answers = ⊤

-- ---- want of memory

-- Where memory was wanting: before a call was made and a byte put; in a request, of which the reply was not put; or at
-- the Bye of an end. What the session left of the bytes at hand is not told.
abbrev pub BreaksAt : Hand → List ℕ → List Answer → Type 0
BreaksAt hand unsent made =
    ((made ≡ []) × (unsent ≡ []))
    ⊎ ((request : Request) × (behind : List ℕ) × BeginsWith hand.bytes request behind × BreaksIn request made × (unsent ≡ []))
    ⊎ ((how : SessionEnd) × (rest : List ℕ) × ComesToEnd how (record hand { rest = rest }) unsent made)

-- What want of memory leaves of what an open session did: no reply is kept, and of one a first part was put, perhaps none.
pub record Breaks (before after : Moment) : Type 0 where
  pub more : List ℕ
  pub made : List Answer
  pub unsent : List ℕ
  pub takes : after.talk.asked ≡ before.talk.asked ++ more
  pub calls : after.answers ≡ before.answers ++ made
  pub replies : after.talk.replied ≡ before.talk.replied
  pub puts : GainsPart before.put after.put unsent
  pub place : BreaksAt (hand_between before more after) unsent made

-- ---- a call, by where the session stood

-- What a call comes to that was made of a session there.
abbrev pub ComesFrom : State → Next → Moment → Moment → Type 0
ComesFrom state.Open what before after = Step what before after
ComesFrom (state.Leaving how) what before after =
    (came : SessionEnd) × (what ≡ next.Ended came) × (after.talk ≡ record before.talk { state = state.Ended came })
    × Leaves how came before.answers after.answers before.refused after.refused × (after.put ≡ before.put)
ComesFrom (state.Ended how) what before after = (what ≡ next.Ended how) × (after.talk ≡ before.talk)
ComesFrom state.Lost what before after = ⊥

-- What a call comes to. An open session answers a request or a refusal, or it ends; one that is leaving makes its Bye,
-- and takes and puts nothing; an ended one answers its end and is as it was; and a lost one answers want of memory.
abbrev pub ComesTo : Next → Moment → Moment → Type 0
ComesTo what before after = ComesFrom before.talk.state what before after

-- What want of memory leaves of a session that stood there.
abbrev pub LosesFrom : State → Moment → Moment → Type 0
LosesFrom state.Open before after =
    (after.talk.state ≡ state.Lost) × Breaks before after × (after.refused ≡ before.refused)
LosesFrom (state.Leaving how) before after =
    (after.talk ≡ record before.talk { state = state.Lost }) × (after.answers ≡ before.answers)
    × (after.refused ≡ before.refused) × (after.put ≡ before.put)
LosesFrom (state.Ended how) before after = ⊥
LosesFrom state.Lost before after = after.talk ≡ before.talk

-- What want of memory leaves. An open session is lost, and one that is leaving is, without its Bye; a lost one is as it
-- was; and an ended one meets none.
abbrev pub GetsLost : Moment → Moment → Type 0
GetsLost before after = LosesFrom before.talk.state before after

-- ---- the connection of a lost session

-- Memory was wanting at the Bye of an end to which an open session came by what it had at hand.
pub record BreaksAtBye (before after : Moment) : Type 0 where
  pub more : List ℕ
  pub made : List Answer
  pub unsent : List ℕ
  pub rest : List ℕ
  pub how : SessionEnd
  pub takes : after.talk.asked ≡ before.talk.asked ++ more
  pub calls : after.answers ≡ before.answers ++ made
  pub comes : ComesToEnd how (record (hand_between before more after) { rest = rest }) unsent made

-- Whether the connection of a session that stood there is closed, where memory was wanting: before and after the call.
-- An open session left it as it was, and put nothing; or it closed it, at the Bye of an end. One that was leaving closed
-- it, and a lost one left it.
abbrev pub ClosesLost : State → Moment → Moment → Bool → Bool → Type 0
ClosesLost state.Open before after closed closed_after =
    ((closed_after ≡ closed) × (after.put ≡ before.put)) ⊎ ((closed_after ≡ true) × BreaksAtBye before after)
ClosesLost (state.Leaving how) before after closed closed_after = closed_after ≡ true
ClosesLost (state.Ended how) before after closed closed_after = ⊥
ClosesLost state.Lost before after closed closed_after = closed_after ≡ closed
