-- One call of `next` takes the first of the turns that a session has ahead of it.
use Rattle.std.proofs.Common.{◌≡◌, ◌≢◌, ◌≤◌, ◌<◌, inl, ℕ, suc, Bool, true, false, ◌&&◌, cond, nat_lt, nat_le, List, [], ◌∷◌, ◌++◌, length, take, None, Some, Result, Err, refl, sym, ap, ◌∙◌, arith, length-append}
use Rattle.std.specs.List.{concat}
use Rattle.std.proofs.lemmas.List.{append_cancel_left}
use Rattle.std.proofs.Math.Seq.{take-nil}
use Rattle.chv_defs_base.specs.declared.rule.Rule.{Rule}
use Rattle.chv_defs_api.specs.declared.request.Request.{Request}
use Rattle.chv_defs_api.specs.declared.request.Took.{Took}
use Rattle.chv_defs_api.specs.declared.request.Took.TheVariants as took
use Rattle.chv_defs_api.specs.declared.control.ControlCall.{ControlCall}
use Rattle.chv_defs_api.specs.declared.session.SessionEnd.{SessionEnd}
use Rattle.chv_defs_api.specs.declared.session.SessionEnd.TheVariants as end
use Rattle.chv_defs_api.specs.Requests.{BeginsWith, Cuts, IsShort}
use Rattle.chv_defs_api.specs.Routes.{call_of_request}
use Rattle.chv_defs_api.specs.SessionBytes.{IsBad, asks_for, session_limit}
use Rattle.chv_defs_api.specs.StreamCut.{cut}
use Rattle.chv_defs.specs.Schedule.{Standing, next_piece, takes_more, is_not_yet, filled, Visit, Answers, Leaves, with_turn, last_turns, end_at, end_behind, visit_at, visit_from}
use Rattle.chv_session.specs.declared.state.State.{State}
use Rattle.chv_session.specs.declared.state.State.TheVariants as state
use Rattle.chv_session.specs.Talk.{Talk}
use Rattle.chv_session.specs.Taking.{Intake, intake, TakesPieces}
use Rattle.chv_session.specs.Step.{state_behind}
use Rattle.chv_play.specs.Ahead.{ahead_in, ahead_from, ahead_of, with_first, standing_of, unanswered}
use Rattle.chv_play.proofs.FilledLemmas.{cut_is, stand, filled_is}
use Rattle.chv_play.proofs.VisitLemmas.{cut_shorter, filled_size, enough}

-- a session at its stream, of which a read gives so much, and which never failed
abbrev pub intake_at : ℕ → Talk → List ℕ → Intake
intake_at most talk left = intake talk.asked talk.rest (Some left) None (Some most) 0

-- An open session took these bytes of its stream, of which a read gives so much.
pub record Fed (most : ℕ) (old new : Talk) (left left_after more : List ℕ) : Type 0 where
  pub many : 4096 ≤ most
  pub opened : old.state ≡ state.Open
  pub takes : TakesPieces (intake_at most old left) (intake_at most new left_after)
  pub grows : new.asked ≡ old.asked ++ more

-- ---- what it took

-- what is at hand
abbrev pub hand_of : Talk → Talk → List ℕ → List ℕ → Standing
hand_of old new left_after more = stand left_after (length new.asked) (old.rest ++ more)

-- the pieces are what it took
more_is : (most : ℕ) (old new : Talk) (left left_after more : List ℕ) (fed : Fed most old new left left_after more)
    → more ≡ concat fed.takes.pieces
more_is most old new left left_after more fed =
    append_cancel_left old.asked more (concat fed.takes.pieces) (sym fed.grows ∙ fed.takes.grows)

pub gives_is : (most : ℕ) (old new : Talk) (left left_after more : List ℕ) → Fed most old new left left_after more → left ≡ more ++ left_after
gives_is most old new left left_after more fed =
    fed.takes.loses ∙ ap (λ (m : List ℕ). m ++ left_after) (sym (more_is most old new left left_after more fed))

-- what was taken of the stream is what is at hand
taken_is : (most : ℕ) (old new : Talk) (left left_after more : List ℕ) → Fed most old new left left_after more
    → takes_more (hand_of old new left_after more) ≡ false
    → filled (length left) (standing_of old left) ≡ hand_of old new left_after more
taken_is most old new left left_after more fed stops =
    filled_is most (length left) left left_after (length old.asked) (length new.asked) old.rest (old.rest ++ more) fed.takes.pieces fed.many (omega arith)
    fed.takes.loses (ap length fed.takes.grows ∙ length-append old.asked (concat fed.takes.pieces))
    (ap (λ (m : List ℕ). old.rest ++ m) (more_is most old new left left_after more fed)) fed.takes.taken fed.takes.given stops

-- what an open session has ahead of it is by what stands at the front of what it took
ahead_is : (most : ℕ) (old new : Talk) (left left_after more : List ℕ) (what : Took) (rest : List ℕ) → Fed most old new left left_after more
    → takes_more (hand_of old new left_after more) ≡ false → Cuts (old.rest ++ more) what rest
    → ahead_of old left ≡ ahead_in (visit_at (visit_from (unanswered (standing_of old left))) (hand_of old new left_after more) what rest)
ahead_is most old new left left_after more what rest fed stops cuts =
    let s = standing_of old left in
    let t = hand_of old new left_after more in
    let is = cut_is t.rest what rest cuts in
    ap (λ (v : State). ahead_from v old left) fed.opened
    ∙ ap (λ (u : Standing). ahead_in (visit_at (visit_from (unanswered s)) u (cut u.rest).0 (cut u.rest).1)) (taken_is most old new left left_after more fed stops)
    ∙ ap (λ (w : Took). ahead_in (visit_at (visit_from (unanswered s)) t w (cut t.rest).1)) (sym is.0)
    ∙ ap (λ (r : List ℕ). ahead_in (visit_at (visit_from (unanswered s)) t what r)) (sym is.1)

-- a request or a refusal at hand stops it
stops_at : (s : Standing) (what : Took) (rest : List ℕ) → Cuts s.rest what rest → is_not_yet what ≡ false → takes_more s ≡ false
stops_at s what rest cuts none =
    ap (λ w. is_not_yet w && nat_lt 0 (length (next_piece s))) (sym (cut_is s.rest what rest cuts).0)
    ∙ ap (λ b. b && nat_lt 0 (length (next_piece s))) none

-- ---- a request

-- what is ahead behind an answer, by whether the reply is the last one
behind_answer : (last : Bool) (by : Result ControlCall Rule) (rest left : List ℕ) (visit : Visit) (talk : Talk)
    → visit ≡ visit_from (suc (unanswered (standing_of talk left))) (standing_of talk left)
    → ahead_in (cond last (last_turns by end.Closed (stand left (length talk.asked) rest)) (with_turn (Answers by false) visit))
    ≡ with_first (Answers by last) (ahead_from (state_behind last) talk left)
behind_answer true by rest left visit talk is = refl
behind_answer false by rest left visit talk is = ap (λ (v : Visit). with_first (Answers by false) (ahead_in v)) is

pub answers_request : (most : ℕ) (old new : Talk) (left left_after more : List ℕ) (request : Request) → Fed most old new left left_after more
    → BeginsWith (old.rest ++ more) request new.rest
    → ahead_of old left ≡ with_first (Answers (call_of_request request) request.last) (ahead_from (state_behind request.last) new left_after)
answers_request most old new left left_after more request fed begins =
    let s = standing_of old left in
    let t = hand_of old new left_after more in
    let stops = stops_at t (took.Request request) new.rest begins refl in
    let is = cut_is t.rest (took.Request request) new.rest begins in
    let size : unanswered t ≡ unanswered s =
    ap unanswered (sym (taken_is most old new left left_after more fed stops)) ∙ filled_size (length s.left) s in
    let shorter = cut_shorter t.rest request is.0 in
    let fewer : unanswered (standing_of new left_after) < unanswered s = omega (arith, shorter, size, ap length is.1) in
    ahead_is most old new left left_after more (took.Request request) new.rest fed stops begins
    ∙ behind_answer request.last (call_of_request request) t.rest left_after (visit_from (unanswered s) (standing_of new left_after)) new
    (enough (unanswered s) (suc (unanswered (standing_of new left_after))) (standing_of new left_after) fewer (omega arith))

-- ---- bytes that a rule refuses

pub answers_bad : (most : ℕ) (old new : Talk) (left left_after more : List ℕ) (rule : Rule) → Fed most old new left left_after more
    → IsBad (old.rest ++ more) rule
    → ahead_of old left ≡ with_first (Answers (Err rule) true) (ahead_from (state.Leaving end.Bad) new left_after)
answers_bad most old new left left_after more rule fed bad =
    let t = hand_of old new left_after more in
    ahead_is most old new left left_after more (took.Bad rule) t.rest fed (stops_at t (took.Bad rule) t.rest bad refl) bad

-- ---- an end that answers nothing

-- nothing that it would take
stops_empty : (t : Standing) → next_piece t ≡ [] → takes_more t ≡ false
stops_empty t none = ap (λ (p : List ℕ). is_not_yet (cut t.rest).0 && nat_lt 0 (length p)) none ∙ never (is_not_yet (cut t.rest).0)
  where
    never : (b : Bool) → b && false ≡ false
    never true = refl
    never false = refl

pub ends_short : (most : ℕ) (old new : Talk) (left left_after more : List ℕ) (how : SessionEnd) → Fed most old new left left_after more
    → IsShort (old.rest ++ more) → next_piece (hand_of old new left_after more) ≡ [] → end_at (hand_of old new left_after more) ≡ how
    → ahead_of old left ≡ with_first (Leaves how) (ahead_from (state.Ended how) new left_after)
ends_short most old new left left_after more how fed short none ends =
    let t = hand_of old new left_after more in
    ahead_is most old new left left_after more took.NotYet t.rest fed (stops_empty t none) (short, refl)
    ∙ ap (λ (h : SessionEnd). with_first (Leaves h) (ahead_from (state.Ended h) new left_after)) ends

-- no bytes are a part of a request
pub nothing_is_short : IsShort []
nothing_is_short = inl (λ n within closes. absurd (omega (arith, closes.1.0)), omega arith)

-- where the stream has ended
pub drained : (t : Standing) → t.left ≡ [] → next_piece t ≡ []
drained t none = ap (take (asks_for t.taken)) none ∙ take-nil (asks_for t.taken)

-- where it has taken as much as it takes
pub at_limit : (t : Standing) → t.taken ≡ session_limit → next_piece t ≡ []
at_limit t is =
    let none : asks_for t.taken ≡ 0 = omega (arith, is) in
    ap (λ n. take n t.left) none

end_below : (t : Standing) → t.taken < session_limit → end_at t ≡ end_behind t.rest
end_below t below = go (nat_le session_limit t.taken) refl
  where
    go : (b : Bool) → nat_le session_limit t.taken ≡ b → cond b end.Limit (end_behind t.rest) ≡ end_behind t.rest
    go true e = absurd (grind (arith, e, below))
    go false e = refl

pub end_limit : (t : Standing) → t.taken ≡ session_limit → end_at t ≡ end.Limit
end_limit t is = go (nat_le session_limit t.taken) refl
  where
    go : (b : Bool) → nat_le session_limit t.taken ≡ b → cond b end.Limit (end_behind t.rest) ≡ end.Limit
    go true e = refl
    go false e = absurd (grind (arith, e, is))

pub end_nothing : (t : Standing) → t.taken < session_limit → t.rest ≡ [] → end_at t ≡ end.Ended
end_nothing t below none = end_below t below ∙ ap end_behind none

pub end_part : (t : Standing) → t.taken < session_limit → t.rest ≢ [] → end_at t ≡ end.Cut
end_part t below some = end_below t below ∙ go t.rest some
  where
    go : (rest : List ℕ) → rest ≢ [] → end_behind rest ≡ end.Cut
    go [] some = absurd (some refl)
    go (b ∷ rest) some = refl
