-- The bytes of a session: what it asked of its connection, what it replied, and which control calls it made in between.
-- Its requests are cut from the front of what it asked (RFC 9112, sections 2 and 9); the ways in which a session ends, and
-- how many bytes it takes at a time and in all, are this project's own.
use Rattle.std.specs.Prelude.{◌≡◌, ◌≢◌, ◌≤◌, ◌<◌, ℕ, ◌+◌, ◌-◌, ◌⊎◌, min, Bool, true, false, List, [], ◌∷◌, ◌++◌, length, drop, Result, Ok, Err}
use Rattle.std.specs.List.{list_any}
use Rattle.chv_defs_base.specs.declared.rule.Rule.{Rule}
use Rattle.chv_defs_api.specs.declared.request.Request.{Request}
use Rattle.chv_defs_api.specs.declared.request.Took.TheVariants as took
use Rattle.chv_defs_api.specs.declared.control.ControlCall.{ControlCall}
use Rattle.chv_defs_api.specs.declared.control.ControlCall.TheVariants as call
use Rattle.chv_defs_api.specs.declared.control.ControlReply.TheVariants as reply
use Rattle.chv_defs_api.specs.declared.session.SessionEnd.{SessionEnd}
use Rattle.chv_defs_api.specs.declared.session.SessionEnd.TheVariants as end
use Rattle.chv_defs_api.specs.Requests.{BeginsWith, Cuts, CutsInto, IsShort}
use Rattle.chv_defs_api.specs.Routes.{call_of_request, reply_to_call, refusal_bytes}
use Rattle.chv_defs_api.specs.Desks.{Answer, is_holding}

-- ---- one request

-- the call was made, and answered Holding: its Settle is owed
abbrev pub Holds : ControlCall → List Answer → Type 0
Holds c made = made ≡ record { call = c; reply = reply.Holding } ∷ []

-- A call was made, and the last of its answers is this one: the call's own, or that of a Settle where the call was
-- answered Holding.
abbrev pub Makes : ControlCall → List Answer → Answer → Type 0
Makes c made answer =
    (is_holding answer.reply ≡ false)
    × (((answer.call ≡ c) × (made ≡ answer ∷ []))
    ⊎ ((answer.call ≡ call.Settle) × (made ≡ record { call = c; reply = reply.Holding } ∷ answer ∷ [])))

-- a request was answered with these bytes, by the call that it makes, or by the rule that refuses it
abbrev pub AnsweredBy : Result ControlCall Rule → Bool → List Answer → List ℕ → Type 0
AnsweredBy (Err rule) last made bytes = (made ≡ []) × (bytes ≡ refusal_bytes rule last)
AnsweredBy (Ok c) last made bytes = (answer : Answer) × Makes c made answer × (bytes ≡ reply_to_call answer.call answer.reply last)

-- A request made these calls, and these are the bytes of the reply to it.
abbrev pub Answered : Request → List Answer → List ℕ → Type 0
Answered request made bytes = AnsweredBy (call_of_request request) request.last made bytes

-- Requests made these calls, one request after another, and these are the bytes of the replies.
abbrev pub AreAnswered : List Request → List Answer → List ℕ → Type 0
AreAnswered [] made bytes = (made ≡ []) × (bytes ≡ [])
AreAnswered (request ∷ requests) made bytes =
    (first : List Answer) × (more : List Answer) × (reply : List ℕ) × (replies : List ℕ)
    × Answered request first reply × AreAnswered requests more replies × (made ≡ first ++ more) × (bytes ≡ reply ++ replies)

-- whether one of the requests is a last one
abbrev pub has_last : List Request → Bool
has_last requests = list_any (λ (request : Request). request.last) requests

-- ---- a session so far

-- What a session has asked is whole requests, none of them last, and a rest. It made the calls of these requests, and
-- replied to them.
pub record IsOpen (asked replied : List ℕ) (made : List Answer) (rest : List ℕ) : Type 0 where
  pub requests : List Request
  pub cut : CutsInto asked requests rest
  pub none_last : has_last requests ≡ false
  pub answered : AreAnswered requests made replied

-- ---- how much it takes

-- the most bytes that a session takes in all
abbrev pub session_limit : ℕ
session_limit = 67108864

-- the most bytes that it asks for at a time
abbrev pub piece_limit : ℕ
piece_limit = 4096

-- how many bytes a session asks for that has taken so many: 4,096, or what is left up to the limit where that is less
abbrev pub asks_for : ℕ → ℕ
asks_for taken = min piece_limit (session_limit - taken)

-- A session that had so many bytes, of which a rest was not answered, took these pieces: each was asked for while the
-- rest held neither a whole request nor a refusal, and none is empty or longer than what was asked for.
abbrev pub AreTaken : ℕ → List ℕ → List (List ℕ) → Type 0
AreTaken count rest [] = Unit {0}
AreTaken count rest (piece ∷ pieces) =
    IsShort rest × (0 < length piece) × (length piece ≤ asks_for count) × AreTaken (count + length piece) (rest ++ piece) pieces

-- A connection with these bytes left, of which each read gives as much as was asked for, as is left, and as its `most`
-- allows, gave these pieces to a session that had so many bytes.
abbrev pub AreGiven : ℕ → List ℕ → ℕ → List (List ℕ) → Type 0
AreGiven most left count [] = Unit {0}
AreGiven most left count (piece ∷ pieces) =
    (length piece ≡ min (min most (asks_for count)) (length left)) × AreGiven most (drop (length piece) left) (count + length piece) pieces

-- ---- its ends

-- bytes of which a rule refuses the front
abbrev pub IsBad : List ℕ → Rule → Type 0
IsBad rest rule = Cuts rest (took.Bad rule) rest

-- fewer bytes than a session takes: whole requests, none last; after them nothing
abbrev pub HasEnded : List ℕ → List ℕ → List Answer → Type 0
HasEnded asked replied made = (length asked < session_limit) × IsOpen asked replied made []

-- fewer bytes than a session takes: whole requests, none last; after them a part of one
abbrev pub WasCut : List ℕ → List ℕ → List Answer → Type 0
WasCut asked replied made =
    (length asked < session_limit) × ((rest : List ℕ) × IsOpen asked replied made rest × IsShort rest × (rest ≢ []))

-- whole requests, none last; after them bytes that a rule refuses, which were replied to as the last thing
abbrev pub WasBad : List ℕ → List ℕ → List Answer → Type 0
WasBad asked replied made =
    (replies : List ℕ) × (rest : List ℕ) × (rule : Rule) × IsOpen asked replies made rest × IsBad rest rule
    × (replied ≡ replies ++ refusal_bytes rule true)

-- whole requests up to the first last one, all answered; after them any bytes
abbrev pub WasClosed : List ℕ → List ℕ → List Answer → Type 0
WasClosed asked replied made =
    (replies : List ℕ) × (calls : List Answer) × (rest : List ℕ) × (request : Request) × (behind : List ℕ)
    × (more : List Answer) × (reply : List ℕ)
    × IsOpen asked replies calls rest × BeginsWith rest request behind × (request.last ≡ true) × Answered request more reply
    × (made ≡ calls ++ more) × (replied ≡ replies ++ reply)

-- as many bytes as a session takes: whole requests, none last; after them nothing, or a part of a request
abbrev pub HasReachedLimit : List ℕ → List ℕ → List Answer → Type 0
HasReachedLimit asked replied made =
    (length asked ≡ session_limit) × ((rest : List ℕ) × IsOpen asked replied made rest × IsShort rest)

-- Replies to whole requests, none last. A read failed, below the limit: behind these requests stands neither a whole one
-- nor a refusal. Or a write failed: the next request made its calls, or a rule refused what stands there, and the reply to that is left
-- out.
abbrev pub HasFailed : List ℕ → List ℕ → List Answer → Type 0
HasFailed asked replied made =
    (calls : List Answer) × (rest : List ℕ) × IsOpen asked replied calls rest
    × (((made ≡ calls) × IsShort rest × (length asked < session_limit))
    ⊎ ((made ≡ calls) × ((rule : Rule) × IsBad rest rule))
    ⊎ ((request : Request) × (behind : List ℕ) × (more : List Answer) × (reply : List ℕ)
    × BeginsWith rest request behind × Answered request more reply × (made ≡ calls ++ more)))

-- The session ended so, where it made these calls before its Bye. An end Stopped is none of these.
abbrev pub EndsAs : SessionEnd → List ℕ → List ℕ → List Answer → Type 0
EndsAs end.Ended asked replied made = HasEnded asked replied made
EndsAs end.Cut asked replied made = WasCut asked replied made
EndsAs end.Bad asked replied made = WasBad asked replied made
EndsAs end.Closed asked replied made = WasClosed asked replied made
EndsAs end.Fault asked replied made = HasFailed asked replied made
EndsAs end.Limit asked replied made = HasReachedLimit asked replied made
EndsAs end.Stopped asked replied made = ⊥

-- A session was stopped in a request of which the call is answered Holding: its Settle is not made.
abbrev pub StopsHolding : List ℕ → List ℕ → List Answer → Type 0
StopsHolding asked replied made =
    (calls : List Answer) × (rest : List ℕ) × (request : Request) × (behind : List ℕ) × (c : ControlCall) × (more : List Answer)
    × IsOpen asked replied calls rest × BeginsWith rest request behind × (call_of_request request ≡ Ok c) × Holds c more
    × (made ≡ calls ++ more)

-- A session was stopped between two requests, or before the next one's call was made; in a request; or at its Bye, where
-- it would have ended otherwise.
abbrev pub StopsAs : List ℕ → List ℕ → List Answer → Type 0
StopsAs asked replied made =
    ((rest : List ℕ) × IsOpen asked replied made rest)
    ⊎ StopsHolding asked replied made
    ⊎ ((how : SessionEnd) × EndsAs how asked replied made)

-- How a session ended, what it asked and replied, and all its calls. It made the calls of its requests in order, and then
-- one Bye; where it was stopped it made the first of these.
abbrev pub IsSessionLog : SessionEnd → List ℕ → List ℕ → List Answer → Type 0
IsSessionLog end.Stopped asked replied made = StopsAs asked replied made
IsSessionLog how asked replied made =
    (calls : List Answer) × (bye : Answer) × EndsAs how asked replied calls × (bye.call ≡ call.Bye) × (made ≡ calls ++ bye ∷ [])
