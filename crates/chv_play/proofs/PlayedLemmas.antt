-- A run from its start to its end.
use Rattle.std.proofs.Common.{◌≡◌, ◌≤◌, ◌<◌, ℕ, zero, suc, ◌+◌, ◌-◌, Bool, true, false, List, [], ◌∷◌, ◌++◌, length, map, take, drop, get_or, cond, Ok, Err, refl, sym, ap, subst, ◌∙◌, arith}
use Rattle.std.specs.List.{enumerate_from, range_with_len, flat_map}
use Rattle.std.proofs.lemmas.List.{append-nil, map-append, take_more, drop_all, length-map}
use Rattle.std.proofs.Math.Seq.{take-append_seam, take-length}
use Rattle.chv_defs_control.specs.Machine.{empty_machine}
use Rattle.chv_defs_control.specs.declared.machine.Machine.{Machine}
use Rattle.chv_defs_api.specs.declared.control.ControlEntry.{ControlEntry}
use Rattle.chv_defs_base.specs.declared.book.Full.{Full}
use Rattle.chv_defs_api.specs.declared.shelf.OnShelf.{OnShelf}
use Rattle.chv_defs_scene.specs.declared.scene.Asked.{Asked}
use Rattle.chv_defs.specs.declared.trace.SessionTrace.{SessionTrace}
use Rattle.chv_defs_api.specs.declared.session.SessionEnd.{SessionEnd}
use Rattle.chv_defs.specs.Schedule.{Visit, Stage, first_stage, after_turns, all_turns, numbered, rounds_of, round_of, visit_of, visit_from, at_start, log_of, trace_of, stream_of, replies_to}
use Rattle.chv_defs.specs.Schedule.{Standing, Answers, visit_at, last_turns, with_turn, filled}
use Rattle.chv_defs.specs.Schedule as schedule
use Rattle.chv_defs_api.specs.StreamCut.{cut}
use Rattle.chv_defs_api.specs.Routes.{call_of_request}
use Rattle.chv_defs_api.specs.declared.request.Took.{Took}
use Rattle.chv_defs_api.specs.declared.request.Took.TheVariants as took
use Rattle.chv_defs_api.specs.declared.session.SessionEnd.TheVariants as end
use Rattle.chv_session.specs.declared.state.State.{State}
use Rattle.chv_session.specs.declared.state.State.TheVariants as state
use Rattle.chv_session.specs.Talk.{Talk, new_talk, end_of}
use Rattle.chv_session.specs.Step.{is_over}
use Rattle.chv_play.specs.declared.seat.Seat.{Seat}
use Rattle.chv_play.specs.Ahead.{Ahead, ahead_in, ahead_of, ahead_from, standing_of, unanswered}
use Rattle.chv_play.specs.Playing.{ahead_at, visit_ahead, behind_round, turns_left, EachFrom, ForEach, IsPut, Attends}
use Rattle.chv_play.specs.Order.{IsOrdered, IsOrderedIn}
use Rattle.chv_play.specs.Round.{Stands, stage_at, whole}
use Rattle.chv_guest.specs.LentBanks.{Lent, fresh_zones}
use Rattle.chv_defs.specs.LegalTrace.{AreInOrder}
use Rattle.chv_play.specs.Played.{IsNewSeat, AreNewSeats, AreOver, Gives, log_at, logs_at, trace_with}
use Rattle.chv_play.proofs.SeatLemmas.{begins, behind_begins}
use Rattle.chv_play.proofs.RoundLemmas.{rounds_later}
use Rattle.chv_play.proofs.EachLemmas.{for_each_so, for_each_numbered, for_each_length, for_each_more}
use Rattle.chv_play.proofs.OrderLemmas.{new_ordered}
use Rattle.chv_play.specs.Banks.{PlayedControl, traced}

-- ---- the start

new_ahead : (stream : List ℕ) (seat : Seat) → IsNewSeat stream seat → ahead_at seat ≡ ahead_in (visit_of stream)
new_ahead stream seat new =
    let enough : suc (length stream + 0) ≡ length stream + 1 = omega arith in
    ap (λ (t : Talk). ahead_of t seat.link.left) new.session ∙ ap (ahead_of new_talk) new.left
    ∙ ap (λ n. ahead_in (visit_from n (at_start stream))) enough

new_visits : (streams : List (List ℕ)) (seats : List Seat) → AreNewSeats streams seats → map visit_ahead seats ≡ map visit_of streams
new_visits [] [] new = refl
new_visits [] (seat ∷ seats) new = absurd new
new_visits (stream ∷ streams) [] new = absurd new
new_visits (stream ∷ streams) (seat ∷ seats) new =
    ap (λ (a : Ahead). record { turns = a.turns; taken = a.taken } ∷ map visit_ahead seats) (new_ahead stream seat new.0)
    ∙ ap (λ (vs : List Visit). visit_of stream ∷ vs) (new_visits streams seats new.1)

new_attends : (stream : List ℕ) (seat : Seat) → IsNewSeat stream seat → Attends stream seat
new_attends stream seat new = record {
  split = sym new.left ∙ ap (λ (t : Talk). t.asked ++ seat.link.left) (sym new.session);
  taken = ap (λ (a : Ahead). a.taken) (new_ahead stream seat new);
  how = ap (λ (a : Ahead). a.how) (new_ahead stream seat new);
}

pub new_stands : {D : Type 0} (shelf : List OnShelf) (streams : List (List ℕ)) (control : PlayedControl D) (seats : List Seat)
    → stage_at control [] ≡ first_stage → AreNewSeats streams seats → Stands shelf streams control 0 seats
new_stands {D} shelf streams control seats fresh new = record {
  under_way = record {
    replies = [];
    put = for_each_numbered IsNewSeat (IsPut []) 1 streams seats (λ n stream seat is. sym (ap (λ (t : Talk). t.replied) is.session)) new;
    leads = ap (λ (s : Stage). after_turns shelf s (turns_left 0 seats)) fresh
        ∙ ap (after_turns shelf first_stage) (begins seats ∙ ap (λ (vs : List Visit). all_turns (numbered vs)) (new_visits streams seats new));
  };
  attend = for_each_so IsNewSeat Attends streams seats new_attends new;
  ordered = subst (λ (s : Stage). EachFrom (IsOrderedIn s.history) 1 seats) (sym fresh)
      (for_each_numbered IsNewSeat (IsOrderedIn []) 1 streams seats
      (λ n stream seat is. subst (λ (t : Talk). IsOrdered t []) (sym is.session) new_ordered) new);
}

-- ---- the end

over_turns : (s : State) (talk : Talk) (left : List ℕ) → is_over s ≡ true → (ahead_from s talk left).turns ≡ []
over_turns state.Open talk left over = absurd (cc over)
over_turns (state.Leaving how) talk left over = absurd (cc over)
over_turns (state.Ended how) talk left over = refl
over_turns state.Lost talk left over = refl

over_taken : (s : State) (talk : Talk) (left : List ℕ) → is_over s ≡ true → (ahead_from s talk left).taken ≡ length talk.asked
over_taken state.Open talk left over = absurd (cc over)
over_taken (state.Leaving how) talk left over = absurd (cc over)
over_taken (state.Ended how) talk left over = refl
over_taken state.Lost talk left over = refl

over_how : (s : State) (talk : Talk) (left : List ℕ) → is_over s ≡ true → (ahead_from s talk left).how ≡ end_of s
over_how state.Open talk left over = absurd (cc over)
over_how (state.Leaving how) talk left over = absurd (cc over)
over_how (state.Ended how) talk left over = refl
over_how state.Lost talk left over = refl

over_rounds : (k : ℕ) (seats : List Seat) → AreOver seats → rounds_of (enumerate_from k (map visit_ahead seats)) ≡ 0
over_rounds k [] over = refl
over_rounds k (seat ∷ seats) over =
    let none = ap length (over_turns seat.session.state seat.session seat.link.left over.0) in
    let more = over_rounds (k + 1) seats over.1 in
    omega (arith, none, more)

no_turns_left : (seats : List Seat) → AreOver seats → turns_left 0 seats ≡ []
no_turns_left seats over =
    begins seats ∙ ap (λ n. flat_map (round_of (numbered (map visit_ahead seats))) (range_with_len 0 n)) (over_rounds 1 seats over)

log_is : (k : ℕ) (stage : Stage) (stream : List ℕ) (seat : Seat) → Attends stream seat → replies_to k stage.replies ≡ seat.session.replied
    → is_over seat.session.state ≡ true → log_of stage (k, (stream, visit_of stream)) ≡ log_at k seat
log_is k stage stream seat attends put over =
    let count : (visit_of stream).taken ≡ length seat.session.asked =
    sym attends.taken ∙ over_taken seat.session.state seat.session seat.link.left over in
    let asked : take (visit_of stream).taken stream ≡ seat.session.asked =
    ap (λ n. take n stream) count ∙ ap (take (length seat.session.asked)) attends.split ∙ take-append_seam seat.session.asked seat.link.left in
    let how : schedule.end_of (visit_of stream).turns ≡ end_of seat.session.state =
    sym attends.how ∙ over_how seat.session.state seat.session seat.link.left over in
    ap (λ (b : List ℕ). record { session = k; log = record { asked = b; replied = replies_to k stage.replies; end = schedule.end_of (visit_of stream).turns } }) asked
    ∙ ap (λ (b : List ℕ). record { session = k; log = record { asked = seat.session.asked; replied = b; end = schedule.end_of (visit_of stream).turns } }) put
    ∙ ap (λ (h : SessionEnd). record { session = k; log = record { asked = seat.session.asked; replied = seat.session.replied; end = h } }) how

logs_are : (k : ℕ) (stage : Stage) (streams : List (List ℕ)) (seats : List Seat) → ForEach Attends streams seats
    → EachFrom (IsPut stage.replies) k seats → AreOver seats → map (log_of stage) (enumerate_from k (map (λ (stream : List ℕ). (stream, visit_of stream)) streams)) ≡ logs_at k seats
logs_are k stage [] [] attend put over = refl
logs_are k stage [] (seat ∷ seats) attend put over = absurd attend
logs_are k stage (stream ∷ streams) [] attend put over = absurd attend
logs_are k stage (stream ∷ streams) (seat ∷ seats) attend put over =
    ap (λ (l : SessionTrace). l ∷ map (log_of stage) (enumerate_from (k + 1) (map (λ (stream : List ℕ). (stream, visit_of stream)) streams)))
    (log_is k stage stream seat attend.0 put.0 over.0)
    ∙ ap (λ (ls : List SessionTrace). log_at k seat ∷ ls) (logs_are (k + 1) stage streams seats attend.1 put.1 over.1)

logs_in_order : (k : ℕ) (history : List ControlEntry) (seats : List Seat) → EachFrom (IsOrderedIn history) k seats → AreOver seats
    → AreInOrder history (logs_at k seats)
logs_in_order k history [] ordered over = tt
logs_in_order k history (seat ∷ seats) ordered over = (ordered.0.over over.0, logs_in_order (k + 1) history seats ordered.1 over.1)

trace_is : {D : Type 0} (shelf : List OnShelf) (sessions : List (List Asked)) (control : PlayedControl D) (seats : List Seat)
    → AreOver seats → Stands shelf (map stream_of sessions) control 0 seats
    → schedule.schedule shelf sessions ≡ Ok (trace_with control.history (traced control.zones) (logs_at 1 seats))
unfolding schedule.schedule
trace_is {D} shelf sessions control seats over stands =
    let streams = map stream_of sessions in
    let stage = stage_at control stands.under_way.replies in
    let ends : Ok stage ≡ whole shelf streams =
    sym (ap (after_turns shelf stage) (no_turns_left seats over)) ∙ stands.under_way.leads in
    sym (ap (trace_of streams) ends)
    ∙ ap (λ (ls : List SessionTrace). Ok (trace_with control.history (traced control.zones) ls)) (logs_are 1 stage streams seats stands.attend stands.under_way.put over)

pub run_gives : {D : Type 0} (shelf : List OnShelf) (sessions : List (List Asked)) (control : PlayedControl D) (seats : List Seat)
    → AreOver seats → Stands shelf (map stream_of sessions) control 0 seats
    → Gives (schedule.schedule shelf sessions) control (Ok (logs_at 1 seats))
run_gives {D} shelf sessions control seats over stands =
    (trace_is shelf sessions control seats over stands, logs_in_order 1 control.history seats stands.ordered over)

pub run_full : (shelf : List OnShelf) (sessions : List (List Asked)) (full : Full) → whole shelf (map stream_of sessions) ≡ Err full
    → schedule.schedule shelf sessions ≡ Err full
unfolding schedule.schedule
run_full shelf sessions full is = ap (trace_of (map stream_of sessions)) is

-- ---- a new seat

pub one_more_seat : (sessions : List (List Asked)) (i : ℕ) (requests : List Asked) (seats seats_after : List Seat) (seat : Seat) → i < length sessions
    → requests ≡ get_or sessions i requests → seats_after ≡ seats ++ seat ∷ [] → IsNewSeat (stream_of requests) seat
    → AreNewSeats (map stream_of (take i sessions)) seats → AreNewSeats (map stream_of (take (i + 1) sessions)) seats_after
one_more_seat sessions i requests seats seats_after seat within is grows new are =
    let first : take (i + 1) sessions ≡ take i sessions ++ requests ∷ [] =
    take_more sessions i requests within ∙ ap (λ (r : List Asked). take i sessions ++ r ∷ []) (sym is) in
    subst (λ (ss : List Seat). AreNewSeats (map stream_of (take (i + 1) sessions)) ss) (sym grows)
    (subst (λ (rs : List (List Asked)). AreNewSeats (map stream_of rs) (seats ++ seat ∷ [])) (sym first)
    (subst (λ (bs : List (List ℕ)). AreNewSeats bs (seats ++ seat ∷ [])) (sym (map-append stream_of (take i sessions) (requests ∷ [])))
    (for_each_more IsNewSeat (map stream_of (take i sessions)) seats (stream_of requests) seat are new)))

-- ---- whether all have ended

some_turns_at : (visit : Standing → Visit) (t : Standing) (what : Took) (rest : List ℕ) → 0 < length (visit_at visit t what rest).turns
some_turns_at visit t took.NotYet rest = omega arith
some_turns_at visit t (took.Bad rule) rest = omega arith
some_turns_at visit t (took.Request request) rest = go request.last
  where
    go : (b : Bool) → 0 < length (cond b (last_turns (call_of_request request) end.Closed t) (with_turn (Answers (call_of_request request) false) (visit (record t { rest = rest })))).turns
    go true = omega arith
    go false = omega arith

some_turns : (s : State) (talk : Talk) (left : List ℕ) → is_over s ≡ false → 0 < length (ahead_from s talk left).turns
some_turns state.Open talk left goes =
    let t = filled (length left) (standing_of talk left) in
    some_turns_at (visit_from (unanswered (standing_of talk left))) t (cut t.rest).0 (cut t.rest).1
some_turns (state.Leaving how) talk left goes = omega arith
some_turns (state.Ended how) talk left goes = absurd (cc goes)
some_turns state.Lost talk left goes = absurd (cc goes)

rounds_go : (k i : ℕ) (seats : List Seat) (seat : Seat) → i < length seats → get_or seats i seat ≡ seat → is_over seat.session.state ≡ false
    → 0 < rounds_of (enumerate_from k (map visit_ahead seats))
rounds_go k i [] seat within is goes = absurd (omega (arith, within))
rounds_go k zero (one ∷ seats) seat within is goes =
    let some = subst (λ (s : Seat). 0 < length (ahead_at s).turns) (sym is) (some_turns seat.session.state seat.session seat.link.left goes) in
    omega (arith, some)
rounds_go k (suc i) (one ∷ seats) seat within is goes =
    let more = rounds_go (k + 1) i seats seat (omega (arith, within)) is goes in
    omega (arith, more)

pub still_going : (i : ℕ) (seats : List Seat) (seat : Seat) → i < length seats → get_or seats i seat ≡ seat → seat.is_over ≡ false
    → 0 < rounds_of (numbered (map visit_ahead seats))
still_going i seats seat within is goes = rounds_go 1 i seats seat within is (sym seat.over ∙ goes)

pub over_more : (i : ℕ) (seats : List Seat) (seat : Seat) → i < length seats → get_or seats i seat ≡ seat → seat.is_over ≡ true
    → AreOver (take i seats) → AreOver (take (i + 1) seats)
over_more i [] seat within is over before = absurd (omega (arith, within))
over_more zero (one ∷ seats) seat within is over before = (sym one.over ∙ ap (λ (s : Seat). s.is_over) is ∙ over, tt)
over_more (suc i) (one ∷ seats) seat within is over before =
    let number : suc i + 1 ≡ suc (i + 1) = omega arith in
    subst (λ n. AreOver (take n (one ∷ seats))) (sym number) (before.0, over_more i seats seat (omega (arith, within)) is over before.1)

pub fewer_rounds : (before after : List Seat) → map visit_ahead after ≡ behind_round 0 before → 0 < rounds_of (numbered (map visit_ahead before))
    → rounds_of (numbered (map visit_ahead after)) < rounds_of (numbered (map visit_ahead before))
fewer_rounds before after is some =
    let less : rounds_of (numbered (map visit_ahead after)) ≡ rounds_of (numbered (map visit_ahead before)) - 1 =
    ap (λ (vs : List Visit). rounds_of (numbered vs)) is ∙ ap rounds_of (behind_begins 1 before) ∙ rounds_later (numbered (map visit_ahead before)) in
    omega (arith, less, some)

-- ---- a whole run

pub fresh_stage : {D : Type 0} (control : PlayedControl D) → control.machine ≡ empty_machine → control.history ≡ [] → control.zones ≡ fresh_zones
    → stage_at control [] ≡ first_stage
fresh_stage {D} control machine history zones =
    ap (λ (m : Machine). record { machine = m; history = control.history; banks = traced control.zones; replies = [] }) machine
    ∙ ap (λ (h : List ControlEntry). record { machine = empty_machine; history = h; banks = traced control.zones; replies = [] }) history
    ∙ ap (λ (z : Lent). record { machine = empty_machine; history = []; banks = traced z; replies = [] }) zones

-- what a slice wrote back to the `Vec` that it is of
pub written_back : (n : ℕ) (new old : List Seat) → length new ≡ length old → n ≡ length old → take n (new ++ drop (length new) old) ≡ new
written_back n new old same count =
    let all : length old ≤ length new = omega (arith, same) in
    let size : n ≡ length new = omega (arith, same, count) in
    ap (λ (l : List Seat). take n (new ++ l)) (drop_all (length new) old all) ∙ ap (λ (l : List Seat). take n l) (append-nil new)
    ∙ ap (λ k. take k new) size ∙ take-length new

pub number_of_seats : (sessions : List (List Asked)) (seats : List Seat) → AreNewSeats (map stream_of sessions) seats → length seats ≡ length sessions
number_of_seats sessions seats new = for_each_length IsNewSeat (map stream_of sessions) seats new ∙ length-map sessions stream_of
