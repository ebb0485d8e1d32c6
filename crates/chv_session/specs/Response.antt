-- How a session responds to what it found, and what it does then.
use Rattle.std.specs.Prelude.{◌≡◌, ◌⊎◌, ⊤, ℕ, Bool, true, false, List, [], ◌∷◌, ◌++◌, Option, None, Some, Ok}
use Rattle.chv_defs_api.specs.declared.request.Request.{Request}
use Rattle.chv_defs_api.specs.declared.control.ControlCall.{ControlCall}
use Rattle.chv_defs_api.specs.declared.control.ControlCall.TheVariants as call
use Rattle.chv_defs_api.specs.declared.session.SessionEnd.{SessionEnd}
use Rattle.chv_defs_api.specs.declared.session.SessionEnd.TheVariants as end
use Rattle.chv_defs_api.specs.Desks.{Answer}
use Rattle.chv_io.specs.Outside.{Rose, Gains, GainsPart}
use Rattle.chv_defs_api.specs.Routes.{call_of_request, refusal_bytes}
use Rattle.chv_defs_api.specs.SessionBytes.{Answered, Holds}
use Rattle.chv_session.specs.declared.fill.Found.{Found}
use Rattle.chv_session.specs.declared.fill.Found.TheVariants as found
use Rattle.chv_session.specs.declared.respond.Response.{Response}
use Rattle.chv_session.specs.declared.respond.Then.{Then}
use Rattle.chv_session.specs.declared.respond.Then.TheVariants as then_is
use Rattle.chv_session.specs.declared.state.State.{State}
use Rattle.chv_session.specs.declared.state.State.TheVariants as state

-- Calls were made of which this holds.
abbrev pub HasMadeAlso : List Answer → List Answer → (List Answer → Type 0) → Type 0
HasMadeAlso before after P = (made : List Answer) × (after ≡ before ++ made) × P made

-- The run stopped in a request: its call was answered Stopped, or the Settle of its call, which was answered Holding.
abbrev pub StopsIn : Request → List Answer → Option ControlCall → Type 0
StopsIn request made refused =
    (c : ControlCall) × (call_of_request request ≡ Ok c)
    × (((made ≡ []) × (refused ≡ Some c)) ⊎ (Holds c made × (refused ≡ Some call.Settle)))

-- Memory was wanting in a request, before its reply was put: before its call was made, before the Settle of a call that
-- was answered Holding, or behind all its calls.
abbrev pub BreaksIn : Request → List Answer → Type 0
BreaksIn request made =
    (made ≡ []) ⊎ ((c : ControlCall) × (call_of_request request ≡ Ok c) × Holds c made)
    ⊎ ((reply : List ℕ) × Answered request made reply)

-- what comes behind the reply to a request: the session leaves, where that is the last one
abbrev pub then_after : Bool → Then
then_after true = then_is.Leave end.Closed
then_after false = then_is.GoOn

-- A request is answered, and no call was answered Stopped; or the run stopped in it.
abbrev pub Serves : Request → Option (List ℕ) → Then → List Answer → Option ControlCall → Option ControlCall → Type 0
Serves request reply after made refused refused_after =
    ((bytes : List ℕ) × (reply ≡ Some bytes) × (after ≡ then_after request.last) × Answered request made bytes × (refused_after ≡ refused))
    ⊎ ((reply ≡ None) × (after ≡ then_is.Stop) × StopsIn request made refused_after)

-- the end where a stream ended: whether all of it was answered
abbrev pub end_at : Bool → SessionEnd
end_at true = end.Ended
end_at false = end.Cut

-- What a session responds to what it found, where all bytes are answered or not: the reply and what comes then, the calls
-- that it made, and the call that was answered Stopped.
abbrev pub Responds : Found → Bool → Response → List Answer → Option ControlCall → Option ControlCall → Type 0
Responds (found.Request request) all response made refused refused_after =
    Serves request response.reply response.then made refused refused_after
Responds (found.Bad rule) all response made refused refused_after =
    (response.reply ≡ Some (refusal_bytes rule true)) × (response.then ≡ then_is.Leave end.Bad) × (made ≡ []) × (refused_after ≡ refused)
Responds found.End all response made refused refused_after =
    (response.reply ≡ None) × (response.then ≡ then_is.End (end_at all)) × (made ≡ []) × (refused_after ≡ refused)
Responds found.Fault all response made refused refused_after =
    (response.reply ≡ None) × (response.then ≡ then_is.End end.Fault) × (made ≡ []) × (refused_after ≡ refused)
Responds found.Limit all response made refused refused_after =
    (response.reply ≡ None) × (response.then ≡ then_is.End end.Limit) × (made ≡ []) × (refused_after ≡ refused)

-- The calls that were made of what was found, where memory was wanting before a reply was there.
abbrev pub BreaksOn : Found → List Answer → Type 0
BreaksOn (found.Request request) made = BreaksIn request made
BreaksOn _ made = made ≡ []

-- What a session has replied, what was put into its connection, where that is told, and the count of failed writes.
pub record Sent : Type 0 where
  pub replied : List ℕ
  pub put : Option (List ℕ)
  pub writes : ℕ

-- these together
abbrev pub sent : List ℕ → Option (List ℕ) → ℕ → Sent
sent replied put writes = record { replied = replied; put = put; writes = writes }

-- A reply was put and kept, and what comes then stays; or the connection failed, a first part was put and none of it
-- kept, and the end is Fault.
abbrev pub Sends : Option (List ℕ) → Then → Then → Sent → Sent → Type 0
Sends None planned then_of before after = (then_of ≡ planned) × (after.replied ≡ before.replied) × (after.put ≡ before.put)
Sends (Some bytes) planned then_of before after =
    ((then_of ≡ planned) × (after.replied ≡ before.replied ++ bytes) × Gains before.put after.put bytes)
    ⊎ ((then_of ≡ then_is.End end.Fault) × (after.replied ≡ before.replied) × GainsPart before.put after.put bytes
    × Rose before.writes after.writes)

-- whether a call is a Bye
abbrev pub is_bye : ControlCall → Bool
is_bye call.Bye = true
is_bye _ = false

-- The Bye of an end is answered; or it was answered Stopped, and the end is Stopped.
abbrev pub Leaves : SessionEnd → SessionEnd → List Answer → List Answer → Option ControlCall → Option ControlCall → Type 0
Leaves how came before after refused refused_after =
    ((bye : Answer) × (came ≡ how) × (bye.call ≡ call.Bye) × (after ≡ before ++ bye ∷ []) × (refused_after ≡ refused))
    ⊎ ((came ≡ end.Stopped) × (after ≡ before) × (refused_after ≡ Some call.Bye))

-- Where a session stands at last. An end is made known by a Bye; a session that leaves makes it later.
abbrev pub Finishes : Then → State → List Answer → List Answer → Option ControlCall → Option ControlCall → Type 0
Finishes then_is.GoOn stands before after refused refused_after = (stands ≡ state.Open) × (after ≡ before) × (refused_after ≡ refused)
Finishes (then_is.Leave how) stands before after refused refused_after =
    (stands ≡ state.Leaving how) × (after ≡ before) × (refused_after ≡ refused)
Finishes then_is.Stop stands before after refused refused_after =
    (stands ≡ state.Ended end.Stopped) × (after ≡ before) × (refused_after ≡ refused)
Finishes (then_is.End how) stands before after refused refused_after =
    (came : SessionEnd) × (stands ≡ state.Ended came) × Leaves how came before after refused refused_after

-- an end is made known by a Bye
abbrev pub IsEnd : Then → Type 0
IsEnd (then_is.End how) = ⊤
IsEnd _ = ⊥
