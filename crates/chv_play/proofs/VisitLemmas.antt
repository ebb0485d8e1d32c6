-- The turns of a session: each call of `next` takes the first of those that are left.
use Rattle.std.proofs.Common.{◌≡◌, ◌<◌, ℕ, zero, suc, ◌+◌, Bool, true, false, cond, List, length, take, refl, sym, ap, subst, ◌∙◌, arith, length-append, length-drop}
use Rattle.std.proofs.lemmas.List.{length-take}
use Rattle.chv_defs_api.specs.declared.request.Request.{Request}
use Rattle.chv_defs_api.specs.declared.request.Took.{Took}
use Rattle.chv_defs_api.specs.declared.request.Took.TheVariants as took
use Rattle.chv_defs_api.specs.declared.session.SessionEnd.TheVariants as end
use Rattle.chv_defs_api.specs.HttpFront.{IsFront}
use Rattle.chv_defs_api.specs.Requests.{BeginsWith, Cuts}
use Rattle.chv_defs_api.specs.Routes.{call_of_request}
use Rattle.chv_defs_api.specs.SessionBytes.{asks_for}
use Rattle.chv_defs_api.specs.StreamCut.{cut}
use Rattle.chv_defs.specs.Schedule.{Standing, with_piece, takes_more, filled, Answers, with_turn, last_turns, visit_at, visit_from}
use Rattle.chv_http.proofs.CutFunctionLemmas.{cut_gives}
use Rattle.chv_play.specs.Ahead.{unanswered}

-- ---- sizes

piece_size : (s : Standing) → unanswered (with_piece s) ≡ unanswered s
piece_size s =
    let a = length-drop (asks_for s.taken) s.left in
    let b = length-take (asks_for s.taken) s.left in
    let c = length-append s.rest (take (asks_for s.taken) s.left) in
    omega (arith, a, b, c)

size_if : (b : Bool) (more s : Standing) (n : ℕ) → unanswered more ≡ n → unanswered s ≡ n → unanswered (cond b more s) ≡ n
size_if true more s n first second = first
size_if false more s n first second = second

pub filled_size : (n : ℕ) (s : Standing) → unanswered (filled n s) ≡ unanswered s
filled_size zero s = refl
filled_size (suc n) s =
    size_if (takes_more s) (filled n (with_piece s)) s (unanswered s) (filled_size n (with_piece s) ∙ piece_size s) refl

-- a request has at least one byte
front_size : (bytes : List ℕ) (n : ℕ) → IsFront bytes n → 0 < n
front_size bytes n front = grind (arith, front.closes.1.1)

begins_shorter : (bytes : List ℕ) (request : Request) (rest : List ℕ) → BeginsWith bytes request rest → length rest < length bytes
begins_shorter bytes request rest begins =
    let a = front_size bytes begins.n begins.announces.begins.front in
    let b = ap length begins.rest_is ∙ length-drop (begins.n + begins.len) bytes in
    omega (arith, a, b, begins.whole)

pub cut_shorter : (bytes : List ℕ) (request : Request) → took.Request request ≡ (cut bytes).0 → length (cut bytes).1 < length bytes
cut_shorter bytes request is =
    begins_shorter bytes request (cut bytes).1 (subst (λ w. Cuts bytes w (cut bytes).1) (sym is) (cut_gives bytes))

-- ---- enough turns

-- by what is in front, where the bound does not matter for what is behind it
by_front : (n m : ℕ) (t : Standing) (what : Took) (rest : List ℕ)
    → ((request : Request) → what ≡ took.Request request → visit_from n (record t { rest = rest }) ≡ visit_from m (record t { rest = rest }))
    → visit_at (visit_from n) t what rest ≡ visit_at (visit_from m) t what rest
by_front n m t took.NotYet rest behind = refl
by_front n m t (took.Bad rule) rest behind = refl
by_front n m t (took.Request request) rest behind =
    ap (λ v. cond request.last (last_turns (call_of_request request) end.Closed t) (with_turn (Answers (call_of_request request) false) v))
    (behind request refl)

-- with more turns than bytes the bound does not matter
pub enough : (n m : ℕ) (s : Standing) → unanswered s < n → unanswered s < m → visit_from n s ≡ visit_from m s
enough zero m s a b = absurd (omega (arith, a))
enough (suc n) zero s a b = absurd (omega (arith, b))
enough (suc n) (suc m) s a b =
    let t = filled (length s.left) s in
    let size : unanswered t ≡ unanswered s = filled_size (length s.left) s in
    by_front n m t (cut t.rest).0 (cut t.rest).1 (λ request is.
    let shorter = cut_shorter t.rest request (sym is) in
    enough n m (record t { rest = (cut t.rest).1 }) (omega (arith, shorter, size, a)) (omega (arith, shorter, size, b)))
