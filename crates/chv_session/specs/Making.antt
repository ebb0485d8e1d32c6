-- What is made of one call of a request: its Settle, where it is answered Holding, and the reply.
use Rattle.std.specs.Prelude.{◌≡◌, ◌⊎◌, ℕ, Bool, true, false, List, [], ◌∷◌, ◌++◌, Option, None, Some, Result, Ok, Err}
use Rattle.chv_defs_api.specs.declared.control.ControlCall.{ControlCall}
use Rattle.chv_defs_api.specs.declared.control.ControlCall.TheVariants as call
use Rattle.chv_defs_api.specs.declared.control.ControlReply.{ControlReply}
use Rattle.chv_defs_api.specs.Desks.{Answer, is_holding}
use Rattle.chv_defs_api.specs.SessionBytes.{Makes, Holds, AnsweredBy}
use Rattle.chv_session.specs.declared.respond.Made.{Made}
use Rattle.chv_session.specs.declared.respond.Response.{Response}
use Rattle.chv_session.specs.declared.respond.Then.TheVariants as then_is
use Rattle.chv_session.specs.Response.{HasMadeAlso, then_after}

-- the call that was answered last: this one, or its Settle
abbrev pub last_call : ControlCall → Bool → ControlCall
last_call c true = call.Settle
last_call c false = c

-- A call that was answered so is settled where that is Holding, by one Settle; and else nothing is done. Where the Settle
-- was answered Stopped, or memory was wanting, it is owed still.
abbrev pub Settles : {S E : Type 0} → ControlReply → Result (Result Made S) E → List Answer → List Answer → Option ControlCall → Option ControlCall → Type 0
Settles reply (Ok (Ok made)) before after refused refused_after =
    (is_holding made.reply ≡ false) × (refused_after ≡ refused)
    × (((is_holding reply ≡ false) × (made.settled ≡ false) × (made.reply ≡ reply) × (after ≡ before))
    ⊎ ((is_holding reply ≡ true) × (made.settled ≡ true)
    × (after ≡ before ++ record { call = call.Settle; reply = made.reply } ∷ [])))
Settles reply (Ok (Err stopped)) before after refused refused_after =
    (is_holding reply ≡ true) × (after ≡ before) × (refused_after ≡ Some call.Settle)
Settles reply (Err error) before after refused refused_after =
    (is_holding reply ≡ true) × (after ≡ before) × (refused_after ≡ refused)

-- The run stopped at a call, or at its Settle.
abbrev pub StopsAt : ControlCall → List Answer → Option ControlCall → Type 0
StopsAt c made refused = ((made ≡ []) × (refused ≡ Some c)) ⊎ (Holds c made × (refused ≡ Some call.Settle))

-- A call was made, and settled where it was answered Holding; or the run stopped, or memory was wanting.
abbrev pub MakesCall : {S E : Type 0} → ControlCall → Result (Result Made S) E → List Answer → List Answer → Option ControlCall → Option ControlCall → Type 0
MakesCall c (Ok (Ok last)) before after refused refused_after =
    HasMadeAlso before after (λ made. Makes c made (record { call = last_call c last.settled; reply = last.reply }))
    × (refused_after ≡ refused)
MakesCall c (Ok (Err stopped)) before after refused refused_after = HasMadeAlso before after (λ made. StopsAt c made refused_after)
MakesCall c (Err error) before after refused refused_after =
    HasMadeAlso before after (λ made. (made ≡ []) ⊎ Holds c made) × (refused_after ≡ refused)

-- A request was answered with these bytes, and the session leaves behind a last reply.
abbrev pub IsAnswer : Response → List ℕ → Bool → Type 0
IsAnswer response bytes last = (response.reply ≡ Some bytes) × (response.then ≡ then_after last)

-- The call of a request was made and the reply to it, which is the last one or not; or the run stopped, or memory was
-- wanting.
abbrev pub ServesCall : {E : Type 0} → ControlCall → Bool → Result Response E → List Answer → List Answer → Option ControlCall → Option ControlCall → Type 0
ServesCall c last (Ok response) before after refused refused_after =
    HasMadeAlso before after (λ made.
    ((bytes : List ℕ) × (response.reply ≡ Some bytes) × (response.then ≡ then_after last) × AnsweredBy (Ok c) last made bytes × (refused_after ≡ refused))
    ⊎ ((response.reply ≡ None) × (response.then ≡ then_is.Stop) × StopsAt c made refused_after))
ServesCall c last (Err error) before after refused refused_after =
    HasMadeAlso before after (λ made. (made ≡ []) ⊎ Holds c made ⊎ ((bytes : List ℕ) × AnsweredBy (Ok c) last made bytes))
    × (refused_after ≡ refused)
