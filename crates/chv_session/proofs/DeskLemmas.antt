-- What a session makes at its desk.
use Rattle.std.proofs.Common.{◌≡◌, ℕ, Bool, true, false, List, [], ◌∷◌, ◌++◌, Option, Some, None, Result, Ok, Err, IfOk, OnErr, refl, sym, ap, subst, ◌∙◌, inl, inr, append_assoc, if◌then◌else◌}
use Rattle.std.specs.Prelude.{MatchResult}
use Rattle.chv_defs_base.specs.declared.rule.Rule.{Rule}
use Rattle.chv_defs_base.specs.declared.rule.Rule.TheVariants.{NoRoute}
use Rattle.chv_defs_api.specs.declared.request.Request.{Request}
use Rattle.chv_defs_api.specs.declared.control.ControlCall.{ControlCall}
use Rattle.chv_defs_api.specs.declared.control.ControlCall.TheVariants as call
use Rattle.chv_defs_api.specs.declared.control.ControlReply.{ControlReply}
use Rattle.chv_defs_api.specs.declared.control.ControlReply.TheVariants as reply
use Rattle.chv_defs_api.specs.declared.session.SessionEnd.{SessionEnd}
use Rattle.chv_defs_api.specs.declared.session.SessionEnd.TheVariants as end
use Rattle.chv_defs_api.specs.Desks.{Answer, is_held, is_holding, is_session_call}
use Rattle.chv_defs_api.specs.JsonBodies.{◌>>=◌}
use Rattle.chv_defs_api.specs.Routes.{call_of_request, call_named, get_call, put_call, reply_to_call, route_name}
use Rattle.chv_defs_api.specs.SessionBytes.{Makes, AnsweredBy}
use Rattle.chv_session.specs.declared.respond.Then.TheVariants as then_is
use Rattle.chv_session.specs.declared.respond.Response.{Response}
use Rattle.chv_session.specs.declared.respond.Made.{Made}
use Rattle.chv_session.specs.declared.state.State.{State}
use Rattle.chv_session.specs.declared.state.State.TheVariants as state
use Rattle.chv_session.specs.Response.{HasMadeAlso, Finishes, Serves, BreaksIn, is_bye}
use Rattle.chv_session.specs.Making.{Settles, IsAnswer, MakesCall, ServesCall, last_call}

-- ---- what is held

pub held_behind : (before : List Answer) (a : Answer) → is_held (before ++ a ∷ []) ≡ is_holding a.reply
held_behind [] a = refl
held_behind (x ∷ []) a = refl
held_behind (x ∷ y ∷ more) a = held_behind (y ∷ more) a

holding_is : (r : ControlReply) → is_holding r ≡ true → r ≡ reply.Holding
holding_is reply.Holding e = refl
holding_is r e = absurd (cc e)

pub held_after : (before after : List Answer) (a : Answer) → after ≡ before ++ a ∷ [] → is_held after ≡ is_holding a.reply
held_after before after a made = ap is_held made ∙ held_behind before a

-- what follows from an answer Holding
pub settles_held : {S E : Type 0} (r : ControlReply) (result : Result (Result Made S) E) (before after : List Answer)
    (refused refused_after : Option ControlCall) → is_holding r ≡ true → Settles reply.Holding result before after refused refused_after
    → Settles r result before after refused refused_after
settles_held r result before after refused refused_after holding settles =
    subst (λ x. Settles x result before after refused refused_after) (sym (holding_is r holding)) settles

-- ---- the Bye of an end

-- where the session stands, by what its Bye was answered
pub leaves_by : {S : Type 0} (how : SessionEnd) (stands : State) (answer : Result ControlReply S) (before after : List Answer)
    (refused refused_after : Option ControlCall) → MatchResult answer (λ _. stands ≡ state.Ended how) (λ _. stands ≡ state.Ended end.Stopped)
    → IfOk answer (λ r. (after ≡ before ++ record { call = call.Bye; reply = r } ∷ []) × (refused_after ≡ refused))
    → OnErr answer ((after ≡ before) × (refused_after ≡ Some call.Bye))
    → Finishes (then_is.End how) stands before after refused refused_after
leaves_by how stands (Ok r) before after refused refused_after is made halted =
    (how, is, inl (record { call = call.Bye; reply = r }, refl, refl, made.0, made.1))
leaves_by how stands (Err stopped) before after refused refused_after is made halted = (end.Stopped, is, inr (refl, halted.0, halted.1))

-- ---- a call and its Settle

two_answers : (before middle after : List Answer) (a b : Answer) → middle ≡ before ++ a ∷ [] → after ≡ middle ++ b ∷ []
    → after ≡ before ++ (a ∷ b ∷ [])
two_answers before middle after a b first second =
    second ∙ ap (λ l. l ++ b ∷ []) first ∙ append_assoc before (a ∷ []) (b ∷ [])

-- the answer of a call, where it is Holding
held_answer : (before middle : List Answer) (c : ControlCall) (r : ControlReply) → is_holding r ≡ true
    → middle ≡ before ++ record { call = c; reply = r } ∷ [] → middle ≡ before ++ record { call = c; reply = reply.Holding } ∷ []
held_answer before middle c r holding first = first ∙ ap (λ x. before ++ record { call = c; reply = x } ∷ []) (holding_is r holding)

-- a call that was answered is settled
pub makes_settled : {S E : Type 0} (before middle after : List Answer) (c : ControlCall) (r : ControlReply)
    (result : Result (Result Made S) E) (refused between refused_after : Option ControlCall)
    → middle ≡ before ++ record { call = c; reply = r } ∷ [] → between ≡ refused
    → Settles r result middle after between refused_after → MakesCall c result before after refused refused_after
makes_settled before middle after c r (Ok (Ok made)) refused between refused_after first same (not_held, goes, inl (own, flag, is, none)) = (
  (record { call = c; reply = r } ∷ [], none ∙ first, (not_held, inl (ap (last_call c) flag, ap (λ x. record { call = c; reply = x } ∷ []) (sym is) ∙ ap (λ b. record { call = last_call c b; reply = made.reply } ∷ []) (sym flag)))),
  goes ∙ same,
)
makes_settled before middle after c r (Ok (Ok made)) refused between refused_after first same (not_held, goes, inr (holding, flag, second)) = (
  (
    record { call = c; reply = reply.Holding } ∷ record { call = call.Settle; reply = made.reply } ∷ [],
    two_answers before middle after _ _ (held_answer before middle c r holding first) second,
    (not_held, inr (ap (last_call c) flag, ap (λ b. record { call = c; reply = reply.Holding } ∷ record { call = last_call c b; reply = made.reply } ∷ []) (sym flag))),
  ),
  goes ∙ same,
)
makes_settled before middle after c r (Ok (Err stopped)) refused between refused_after first same (holding, none, is) =
    (record { call = c; reply = reply.Holding } ∷ [], none ∙ held_answer before middle c r holding first, inr (refl, is))
makes_settled before middle after c r (Err error) refused between refused_after first same (holding, none, goes) =
    ((record { call = c; reply = reply.Holding } ∷ [], none ∙ held_answer before middle c r holding first, inr refl), goes ∙ same)

-- ---- the call of a request

-- the call, where there is one, is one of a session, and not its Bye
Says : Result ControlCall Rule → Type 0
Says (Ok c) = (is_session_call c ≡ true) × (is_bye c ≡ false)
Says (Err rule) = Unit {0}

record IsAsked (r : Result ControlCall Rule) : Type 0 where
  says : Says r

if_asked : (b : Bool) (x y : Result ControlCall Rule) → IsAsked x → IsAsked y → IsAsked (if b then x else y)
if_asked true x y first second = first
if_asked false x y first second = second

then_asked : {A : Type 0} (r : Result A Rule) (f : A → Result ControlCall Rule) → ((a : A) → IsAsked (f a)) → IsAsked (r >>= f)
unfolding Says
then_asked (Ok a) f each = each a
then_asked (Err rule) f each = record { says = tt }

asked : (c : ControlCall) → is_session_call c ≡ true → is_bye c ≡ false → IsAsked (Ok c)
unfolding Says
asked c e f = record { says = (e, f) }

no_call : (rule : Rule) → IsAsked (Err rule)
unfolding Says
no_call rule = record { says = tt }

get_asked : (name : List ℕ) → IsAsked (get_call name)
get_asked name = search (if_asked, asked, no_call) depth 12 fits 400

put_asked : (name body : List ℕ) → IsAsked (put_call name body)
put_asked name body = search (if_asked, then_asked, asked, no_call) depth 40 fits 4000

named_asked : (request : Request) (name : Option (List ℕ)) → IsAsked (call_named request name)
named_asked request None = no_call NoRoute
named_asked request (Some name) = search (if_asked, get_asked, put_asked, no_call)

pub request_asks : (request : Request) (c : ControlCall) (found : Result ControlCall Rule) → found ≡ call_of_request request
    → found ≡ Ok c → is_session_call c ≡ true
unfolding Says call_of_request
request_asks request c found is ok = (subst IsAsked (sym is ∙ ok) (named_asked request (route_name request.target))).says.0

pub request_asks_no_bye : (request : Request) (c : ControlCall) → call_of_request request ≡ Ok c → is_bye c ≡ false
unfolding Says call_of_request
request_asks_no_bye request c is = (subst IsAsked is (named_asked request (route_name request.target))).says.1

-- ---- a request that is served

-- a call that was made, and the reply to it
pub serves_made : {E : Type 0} {refused refused_after : Option ControlCall} (before after : List Answer) (c : ControlCall) (made : Made) (last : Bool)
    (result : Result Response E)
    → HasMadeAlso before after (λ all. Makes c all (record { call = last_call c made.settled; reply = made.reply })) × (refused_after ≡ refused)
    → IfOk result (λ response. IsAnswer response (reply_to_call (last_call c made.settled) made.reply last) last)
    → ServesCall c last result before after refused refused_after
serves_made {E} {refused} {refused_after} before after c made last (Ok response) (makes, goes) (reply_is, then_is) =
    (makes.0, makes.1, inl (_, reply_is, then_is, (record { call = last_call c made.settled; reply = made.reply }, makes.2, refl), goes))
serves_made {E} {refused} {refused_after} before after c made last (Err error) (makes, goes) is =
    ((makes.0, makes.1, inr (inr (_, (record { call = last_call c made.settled; reply = made.reply }, makes.2, refl)))), goes)

pub serves_ok : {E : Type 0} {found : Result ControlCall Rule} {c : ControlCall} (before after : List Answer) (request : Request)
    (result : Result Response E) (refused refused_after : Option ControlCall)
    → found ≡ call_of_request request → found ≡ Ok c → ServesCall c request.last result before after refused refused_after
    → IfOk result (λ response. HasMadeAlso before after (λ made. Serves request response.reply response.then made refused refused_after))
serves_ok {E} {found} {c} before after request (Ok response) refused refused_after is ok (made, all, inl (bytes, reply_is, then_is, by, goes)) =
    (made, all, inl (bytes, reply_is, then_is, subst (λ r. AnsweredBy r request.last made bytes) (sym ok ∙ is) by, goes))
serves_ok {E} {found} {c} before after request (Ok response) refused refused_after is ok (made, all, inr (reply_is, then_is, stops)) =
    (made, all, inr (reply_is, then_is, (c, sym is ∙ ok, stops)))
serves_ok {E} {found} {c} before after request (Err error) refused refused_after is ok serves = tt

pub serves_err : {E : Type 0} {found : Result ControlCall Rule} {c : ControlCall} (before after : List Answer) (request : Request)
    (result : Result Response E) (refused refused_after : Option ControlCall)
    → found ≡ call_of_request request → found ≡ Ok c → ServesCall c request.last result before after refused refused_after
    → OnErr result (HasMadeAlso before after (λ made. BreaksIn request made))
serves_err {E} {found} {c} before after request (Ok response) refused refused_after is ok serves = tt
serves_err {E} {found} {c} before after request (Err error) refused refused_after is ok ((made, all, inl none), goes) = (made, all, inl none)
serves_err {E} {found} {c} before after request (Err error) refused refused_after is ok ((made, all, inr (inl holds)), goes) =
    (made, all, inr (inl (c, sym is ∙ ok, holds)))
serves_err {E} {found} {c} before after request (Err error) refused refused_after is ok ((made, all, inr (inr (bytes, by))), goes) =
    (made, all, inr (inr (bytes, subst (λ r. AnsweredBy r request.last made bytes) (sym ok ∙ is) by)))
