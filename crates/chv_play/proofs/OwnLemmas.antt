-- In a trace that is due each session asked of its own stream.
use Rattle.std.proofs.Common.{◌≡◌, ◌≢◌, ◌≤◌, ◌<◌, ℕ, zero, suc, ◌+◌, Bool, true, false, ◌&&◌, cond, nat_lt, nat_le, List, [], ◌∷◌, length, take, drop, map, Result, Ok, Err, refl, sym, ap, subst, ◌∙◌, arith, length-drop}
use Rattle.std.specs.List.{enumerate_from}
use Rattle.std.proofs.lemmas.List.{length-take, take-append-drop, take_all}
use Rattle.std.proofs.lemmas.Bool.{ltb-false, leb-false}
use Rattle.chv_defs_base.specs.declared.book.Full.{Full}
use Rattle.chv_defs_api.specs.declared.request.Took.{Took}
use Rattle.chv_defs_api.specs.declared.request.Took.TheVariants as took
use Rattle.chv_defs_api.specs.declared.session.SessionEnd.TheVariants as end
use Rattle.chv_defs_api.specs.declared.shelf.OnShelf.{OnShelf}
use Rattle.chv_defs_api.specs.Routes.{call_of_request}
use Rattle.chv_defs_api.specs.SessionBytes.{asks_for, session_limit}
use Rattle.chv_defs_api.specs.StreamCut.{cut}
use Rattle.chv_defs_scene.specs.declared.scene.Asked.{Asked}
use Rattle.chv_defs.specs.declared.trace.Trace.{Trace}
use Rattle.chv_defs.specs.Schedule.{Standing, at_start, next_piece, with_piece, is_not_yet, takes_more, filled, Visit, Answers, end_behind, last_turns, with_turn, visit_at, visit_from, visit_of, end_of, Stage, numbered, all_turns, after_turns, first_stage, log_of, trace_at, trace_of, stream_of, schedule}
use Rattle.chv_play.specs.OwnStream.{is_behind_all, AsksOf, AskTheirOwn}
use Rattle.chv_play.proofs.FilledLemmas.{filled_stops, filled_goes}

-- ---- what is taken and what is left

-- how many bytes a stream has
abbrev in_all : Standing → ℕ
in_all s = s.taken + length s.left

piece_in_all : (s : Standing) → in_all (with_piece s) ≡ in_all s
piece_in_all s =
    let a = length-drop (asks_for s.taken) s.left in
    let b = length-take (asks_for s.taken) s.left in
    omega (arith, a, b)

in_all_if : (b : Bool) (more s : Standing) (n : ℕ) → in_all more ≡ n → in_all s ≡ n → in_all (cond b more s) ≡ n
in_all_if true more s n first second = first
in_all_if false more s n first second = second

filled_in_all : (n : ℕ) (s : Standing) → in_all (filled n s) ≡ in_all s
filled_in_all zero s = refl
filled_in_all (suc n) s =
    in_all_if (takes_more s) (filled n (with_piece s)) s (in_all s) (filled_in_all n (with_piece s) ∙ piece_in_all s) refl

-- a condition of two that holds, and one that does not where its first part does
and_second : (a b : Bool) → a && b ≡ true → b ≡ true
and_second true b is = is
and_second false b is = absurd (cc is)

and_not : (a b : Bool) → a ≡ true → a && b ≡ false → b ≡ false
and_not true b first is = is
and_not false b first is = absurd (cc first)

-- where nothing is left no piece is taken
and_false : (a b : Bool) → b ≡ false → a && b ≡ false
and_false true b is = is
and_false false b is = refl

no_piece : (s : Standing) → length s.left ≤ 0 → takes_more s ≡ false
no_piece s none =
    let size = length-take (asks_for s.taken) s.left in
    let short : length (next_piece s) ≤ 0 = omega (arith, none, size) in
    and_false (is_not_yet (cut s.rest).0) (nat_lt 0 (length (next_piece s))) (lt_not (length (next_piece s)) short)
  where
    lt_not : (n : ℕ) → n ≤ 0 → nat_lt 0 n ≡ false
    lt_not zero h = refl
    lt_not (suc n) h = absurd (omega (arith, h))

-- a piece that is taken has a byte
piece_some : (s : Standing) → takes_more s ≡ true → 0 < length (next_piece s)
piece_some s more = lt_is (length (next_piece s)) (and_second (is_not_yet (cut s.rest).0) (nat_lt 0 (length (next_piece s))) more)
  where
    lt_is : (n : ℕ) → nat_lt 0 n ≡ true → 0 < n
    lt_is zero h = absurd (cc h)
    lt_is (suc n) h = omega arith

-- looking as often as bytes are left, it takes all that it takes
filled_done : (n : ℕ) (s : Standing) → length s.left ≤ n → takes_more (filled n s) ≡ false
filled_done zero s few = no_piece s few
filled_done (suc n) s few = go (takes_more s) refl (filled_done n (with_piece s))
  where
    go : (b : Bool) → takes_more s ≡ b → (length (with_piece s).left ≤ n → takes_more (filled n (with_piece s)) ≡ false)
        → takes_more (filled (suc n) s) ≡ false
    go true more behind_it =
        let some = piece_some s more in
        let size = length-take (asks_for s.taken) s.left in
        let behind = length-drop (asks_for s.taken) s.left in
        subst (λ (t : Standing). takes_more t ≡ false) (sym (filled_goes n s more)) (behind_it (omega (arith, some, size, behind, few)))
    go false none behind_it = subst (λ (t : Standing). takes_more t ≡ false) (sym (filled_stops (suc n) s none)) none

-- below the limit, with neither a request nor a refusal at hand, all bytes were taken
all_taken : (s : Standing) → took.NotYet ≡ (cut s.rest).0 → takes_more s ≡ false → s.taken < session_limit → length s.left ≡ 0
all_taken s short done below =
    let none = and_not (is_not_yet (cut s.rest).0) (nat_lt 0 (length (next_piece s))) (sym (ap is_not_yet short)) done in
    let few : length (next_piece s) ≤ 0 = ltb-false 0 (length (next_piece s)) none in
    let size = length-take (asks_for s.taken) s.left in
    omega (arith, few, size, below)

-- ---- how a visit ends

-- a visit does not end at a fault, and at an end behind the whole stream it has taken as many bytes as there are
record Ends (visit : Visit) (total : ℕ) : Type 0 where
  whole : is_behind_all (end_of visit.turns) ≡ true → total ≤ visit.taken
  no_fault : end_of visit.turns ≢ end.Fault

ends_if : (b : Bool) (one two : Visit) (total : ℕ) → Ends one total → Ends two total → Ends (cond b one two) total
ends_if true one two total first second = first
ends_if false one two total first second = second

-- an end below the limit
behind_rest : (rest : List ℕ) → end_behind rest ≢ end.Fault
behind_rest [] is = absurd (cc is)
behind_rest (b ∷ rest) is = absurd (cc is)

ends_not_yet : (s : Standing) (b : Bool) → nat_le session_limit s.taken ≡ b → took.NotYet ≡ (cut s.rest).0 → takes_more s ≡ false
    → (is_behind_all (cond b end.Limit (end_behind s.rest)) ≡ true → in_all s ≤ s.taken) × (cond b end.Limit (end_behind s.rest) ≢ end.Fault)
ends_not_yet s true at short done = (λ whole. absurd (cc whole), λ is. absurd (cc is))
ends_not_yet s false at short done =
    let none = all_taken s short done (leb-false session_limit s.taken at) in
    (λ whole. omega (arith, none), behind_rest s.rest)

ends_at : (n : ℕ) (s : Standing) (what : Took) (rest : List ℕ) → what ≡ (cut s.rest).0 → takes_more s ≡ false
    → Ends (visit_from n (record s { rest = rest })) (in_all s) → Ends (visit_at (visit_from n) s what rest) (in_all s)
ends_at n s took.NotYet rest is done behind =
    let ends = ends_not_yet s (nat_le session_limit s.taken) refl is done in
    record { whole = ends.0; no_fault = ends.1 }
ends_at n s (took.Bad rule) rest is done behind = record { whole = λ whole. absurd (cc whole); no_fault = λ fault. absurd (cc fault) }
ends_at n s (took.Request request) rest is done behind =
    ends_if request.last (last_turns (call_of_request request) end.Closed s)
    (with_turn (Answers (call_of_request request) false) (visit_from n (record s { rest = rest }))) (in_all s)
    (record { whole = λ whole. absurd (cc whole); no_fault = λ fault. absurd (cc fault) })
    (record { whole = behind.whole; no_fault = behind.no_fault })

ends_from : (n : ℕ) (s : Standing) → Ends (visit_from n s) (in_all s)
ends_from zero s = record { whole = λ whole. absurd (cc whole); no_fault = λ fault. absurd (cc fault) }
ends_from (suc n) s =
    let t = filled (length s.left) s in
    subst (λ (total : ℕ). Ends (visit_at (visit_from n) t (cut t.rest).0 (cut t.rest).1) total) (filled_in_all (length s.left) s)
    (ends_at n t (cut t.rest).0 (cut t.rest).1 refl (filled_done (length s.left) s (omega arith))
    (ends_from n (record t { rest = (cut t.rest).1 })))

-- ---- the logs

log_asks : (s : Stage) (k : ℕ) (stream : List ℕ) → AsksOf stream (log_of s (k, (stream, visit_of stream)))
log_asks s k stream =
    let visit = visit_of stream in
    let ends : Ends visit (0 + length stream) = ends_from (length stream + 1) (at_start stream) in
    record {
      first_part = (drop visit.taken stream, sym (take-append-drop visit.taken stream));
      whole = λ whole. take_all visit.taken stream (omega (arith, ends.whole whole));
      no_fault = ends.no_fault;
    }

logs_ask : (s : Stage) (k : ℕ) (sections : List (List Asked))
    → AskTheirOwn sections (map (log_of s) (enumerate_from k (map (λ (stream : List ℕ). (stream, visit_of stream)) (map stream_of sections))))
logs_ask s k [] = tt
logs_ask s k (requests ∷ sections) = (log_asks s k (stream_of requests), logs_ask s (k + 1) sections)

trace_asks : (sections : List (List Asked)) (r : Result Stage Full) (trace : Trace) → trace_of (map stream_of sections) r ≡ Ok trace
    → AskTheirOwn sections trace.sessions
trace_asks sections (Ok s) trace is =
    let same : trace_at (map stream_of sections) s ≡ trace = cc in
    subst (λ (t : Trace). AskTheirOwn sections t.sessions) same (logs_ask s 1 sections)
trace_asks sections (Err full) trace is = absurd (cc)

-- In the trace of a scenario each session asked of its own stream.
pub scheduled_asks : (shelf : List OnShelf) (sections : List (List Asked)) (trace : Trace) → schedule shelf sections ≡ Ok trace
    → AskTheirOwn sections trace.sessions
unfolding schedule
scheduled_asks shelf sections trace is =
    trace_asks sections (after_turns shelf first_stage (all_turns (numbered (map visit_of (map stream_of sections))))) trace is
