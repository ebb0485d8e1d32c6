-- The serial schedule, which is this project's own: from a scenario's sessions, and the disks that stand by, the one trace
-- that `play` gives, with the histories of the control book and of the banks, or the first book that is full.
use Rattle.std.specs.Prelude.{ℕ, zero, suc, ◌+◌, ◌==◌, ◌&&◌, Bool, true, false, nat_lt, nat_le, max, if◌then◌else◌, List, [], ◌∷◌, ◌++◌, length, take, drop, map, filter, flat_map, slice_get, Option, None, Some, Result, Ok, Err}
use Rattle.std.specs.List.{filter_map, range_with_len, enumerate_from}
use Rattle.chv_defs_base.specs.declared.rule.Rule.{Rule}
use Rattle.chv_defs_base.specs.declared.book.Full.{Full}
use Rattle.chv_defs_api.specs.declared.request.Took.{Took}
use Rattle.chv_defs_api.specs.declared.request.Took.TheVariants as took
use Rattle.chv_defs_control.specs.declared.machine.Machine.{Machine}
use Rattle.chv_defs_scene.specs.declared.scene.Asked.{Asked}
use Rattle.chv_defs_api.specs.declared.shelf.OnShelf.{OnShelf}
use Rattle.chv_defs_api.specs.declared.control.ControlCall.{ControlCall}
use Rattle.chv_defs_api.specs.declared.control.ControlCall.TheVariants as call
use Rattle.chv_defs_api.specs.declared.control.ControlEntry.{ControlEntry}
use Rattle.chv_defs_api.specs.declared.session.SessionEnd.{SessionEnd}
use Rattle.chv_defs_api.specs.declared.session.SessionEnd.TheVariants as end
use Rattle.chv_defs.specs.declared.trace.Trace.{Trace}
use Rattle.chv_defs.specs.declared.trace.SessionTrace.{SessionTrace}
use Rattle.chv_defs_control.specs.Machine.{empty_machine}
use Rattle.chv_defs_control.specs.ApiStep.{reply_to, after}
use Rattle.chv_defs_control.specs.FullBooks.{first_full}
use Rattle.chv_defs_control.specs.OwnerCalls.{owner_calls}
use Rattle.chv_defs_memory.specs.BankState.{banks}
use Rattle.chv_defs_memory.specs.MadeCalls.{at_rest, with_calls}
use Rattle.chv_defs_memory.specs.Zones.{most_zones, Known}
use Rattle.chv_defs.specs.LegalTrace.{entries_in}
use Rattle.chv_defs.specs.declared.trace.BankTrace.{BankTrace}
use Rattle.chv_defs_scene.specs.SceneText.{request_bytes}
use Rattle.chv_defs_api.specs.SessionBytes.{asks_for, session_limit}
use Rattle.chv_defs_api.specs.StreamCut.{cut}
use Rattle.chv_defs_api.specs.Routes.{call_of_request, reply_to_call, refusal_bytes}

-- ---- a session at its stream

-- Where a session stands at its stream: the bytes of the stream that are left to take, how many it has taken, and those of
-- them that it has not answered.
pub record Standing : Type 0 where
  pub left : List ℕ
  pub taken : ℕ
  pub rest : List ℕ

-- before it takes any
abbrev pub at_start : List ℕ → Standing
at_start stream = record { left = stream; taken = 0; rest = [] }

-- the next piece: as many bytes as it asks for, as far as bytes are left
abbrev pub next_piece : Standing → List ℕ
next_piece s = take (asks_for s.taken) s.left

-- with the next piece taken
abbrev pub with_piece : Standing → Standing
with_piece s = record { left = drop (asks_for s.taken) s.left; taken = s.taken + length (next_piece s); rest = s.rest ++ next_piece s }

-- whether bytes begin with neither a whole request nor a refusal
abbrev pub is_not_yet : Took → Bool
is_not_yet took.NotYet = true
is_not_yet _ = false

-- whether it takes a piece: neither a request nor a refusal is at hand, and there is something to take
abbrev pub takes_more : Standing → Bool
takes_more s = is_not_yet (cut s.rest).0 && nat_lt 0 (length (next_piece s))

-- With every piece taken that it takes before it answers. It takes at most so many; each has at least one byte, so that as
-- many as bytes are left are enough.
abbrev pub filled : ℕ → Standing → Standing
filled zero s = s
filled (suc n) s = if takes_more s then filled n (with_piece s) else s

-- ---- its turns

-- What a session does in one turn: it answers a request, by the call that the request makes or by the rule that refuses it
-- (and so it answers bytes that a rule refuses), telling whether the reply is its last one; or it leaves with its Bye.
pub data Turn : Type 0 where
  Answers : (by : Result ControlCall Rule) → (last : Bool) → Turn
  Leaves : (how : SessionEnd) → Turn

-- the turns of a session, and how many bytes of its stream it takes in all
pub record Visit : Type 0 where
  pub turns : List Turn
  pub taken : ℕ

-- how a session ends whose stream has ended: at a request's edge, or inside one
abbrev pub end_behind : List ℕ → SessionEnd
end_behind [] = end.Ended
end_behind (b ∷ rest) = end.Cut

-- how a session ends that has nothing to answer: at the limit, or where its stream ends
abbrev pub end_at : Standing → SessionEnd
end_at s = if nat_le session_limit s.taken then end.Limit else end_behind s.rest

-- a last reply, and then the Bye
abbrev pub last_turns : Result ControlCall Rule → SessionEnd → Standing → Visit
last_turns by how s = record { turns = Answers by true ∷ Leaves how ∷ []; taken = s.taken }

-- a turn before those of a visit
abbrev pub with_turn : Turn → Visit → Visit
with_turn turn visit = record visit { turns = turn ∷ visit.turns }

-- What a session does that has taken what it takes, by what stands at the front of its bytes. `visit` is what it does from
-- another standing on.
abbrev pub visit_at : (Standing → Visit) → Standing → Took → List ℕ → Visit
visit_at visit s took.NotYet rest = record { turns = Leaves (end_at s) ∷ []; taken = s.taken }
visit_at visit s (took.Bad rule) rest = last_turns (Err rule) end.Bad s
visit_at visit s (took.Request request) rest =
    if request.last then last_turns (call_of_request request) end.Closed s
    else with_turn (Answers (call_of_request request) false) (visit (record s { rest = rest }))

-- What a session does from a standing on, looking at most so many times at what stands at the front of its bytes.
abbrev pub visit_from : ℕ → Standing → Visit
visit_from zero s = record { turns = []; taken = s.taken }
visit_from (suc n) s = let t = filled (length s.left) s in visit_at (visit_from n) t (cut t.rest).0 (cut t.rest).1

-- What a session does at a stream. Each look but the last finds a request, of at least one byte, so that one look more than
-- the stream has bytes is enough.
abbrev pub visit_of : List ℕ → Visit
visit_of stream = visit_from (length stream + 1) (at_start stream)

-- ---- rounds

-- things of the sessions, each with its session's number, from 1 on
abbrev pub numbered : {A : Type 0} → List A → List (ℕ × A)
numbered items = enumerate_from 1 items

-- a turn, with its session's number
abbrev pub turn_of : ℕ → Option Turn → Option (ℕ × Turn)
turn_of session None = None
turn_of session (Some turn) = Some (session, turn)

-- a session's turn of a round, where it has one; rounds count from 0
abbrev pub turn_in : ℕ → ℕ × Visit → Option (ℕ × Turn)
turn_in round visit = turn_of visit.0 (slice_get visit.1.turns round)

-- a round: one turn of each session that has not ended, in the order of their numbers
abbrev pub round_of : List (ℕ × Visit) → ℕ → List (ℕ × Turn)
round_of visits round = filter_map (turn_in round) visits

-- how many rounds there are: as many as the longest visit has turns
abbrev pub rounds_of : List (ℕ × Visit) → ℕ
rounds_of [] = 0
rounds_of (visit ∷ visits) = max (length visit.1.turns) (rounds_of visits)

-- all turns, round after round
abbrev pub all_turns : List (ℕ × Visit) → List (ℕ × Turn)
all_turns visits = flat_map (round_of visits) (range_with_len 0 (rounds_of visits))

-- ---- what comes of the turns

-- the control state, the history that led to it, all banks with their histories, zones and banks ascending, and the replies so
-- far, each with its session's number
pub record Stage : Type 0 where
  pub machine : Machine
  pub history : List ControlEntry
  pub banks : List BankTrace
  pub replies : List (ℕ × List ℕ)

-- the banks of a zone, to which nothing happened yet
abbrev pub fresh_zone : ℕ → List BankTrace
fresh_zone zone = map (λ bank. record { zone = zone; bank = bank; entries = [] }) (range_with_len 0 banks)

-- all banks, to which nothing happened yet
abbrev pub fresh_banks : List BankTrace
fresh_banks = flat_map fresh_zone (range_with_len 0 most_zones)

-- before the first turn
abbrev pub first_stage : Stage
first_stage = record { machine = empty_machine; history = []; banks = fresh_banks; replies = [] }

-- what the owner knows of a bank among these: all of its history, and that it is at rest
abbrev pub known_in : List BankTrace → ℕ → ℕ → Known
known_in banks zone bank = at_rest (entries_in banks zone bank)

-- with a reply
abbrev pub with_reply : ℕ → List ℕ → Stage → Stage
with_reply session bytes s = record s { replies = s.replies ++ (session, bytes) ∷ [] }

-- the entry of a call that a session makes now
abbrev pub entry_of : List OnShelf → Stage → ℕ → ControlCall → ControlEntry
entry_of shelf s session c = record { caller = session; call = c; reply = reply_to shelf s.machine c }

-- a bank with the entries of the owner's calls that a control entry of this machine stands for
abbrev pub with_owner : Machine → ControlEntry → BankTrace → BankTrace
with_owner m e bank =
    record bank { entries = with_calls bank.bank bank.entries (owner_calls m e.call e.reply bank.zone bank.bank) }

-- with that entry, and the entries of the owner's calls in the banks that it stands for
abbrev pub with_entry : List OnShelf → ℕ → ControlCall → Stage → Stage
with_entry shelf session c s = record s {
  machine = after s.machine session c (reply_to shelf s.machine c);
  history = s.history ++ entry_of shelf s session c ∷ [];
  banks = map (with_owner s.machine (entry_of shelf s session c)) s.banks;
}

-- the first book that is full for that entry, where one is
abbrev pub full_for : List OnShelf → Stage → ℕ → ControlCall → Option Full
full_for shelf s session c = first_full s.machine s.history (known_in s.banks) (entry_of shelf s session c)

-- a refusal, or else a stage
abbrev pub unless_full : Option Full → Stage → Result Stage Full
unless_full None s = Ok s
unless_full (Some full) s = Err full

-- What comes of a turn: the entry of its call, where it makes one and no book is full for it, and its reply. (No call is
-- answered Holding so far, so that none is settled.)
abbrev pub after_turn : List OnShelf → Stage → ℕ → Turn → Result Stage Full
after_turn shelf s session (Answers (Err rule) last) = Ok (with_reply session (refusal_bytes rule last) s)
after_turn shelf s session (Answers (Ok c) last) =
    unless_full (full_for shelf s session c)
    (with_reply session (reply_to_call c (reply_to shelf s.machine c) last) (with_entry shelf session c s))
after_turn shelf s session (Leaves how) =
    unless_full (full_for shelf s session call.Bye) (with_entry shelf session call.Bye s)

-- goes on from a stage, unless a book was full
abbrev pub then_from : Result Stage Full → (Stage → Result Stage Full) → Result Stage Full
then_from (Ok s) next = next s
then_from (Err full) next = Err full

-- what comes of turns, one after another
abbrev pub after_turns : List OnShelf → Stage → List (ℕ × Turn) → Result Stage Full
after_turns shelf s [] = Ok s
after_turns shelf s (turn ∷ turns) = then_from (after_turn shelf s turn.0 turn.1) (λ next. after_turns shelf next turns)

-- ---- the trace

-- the replies to a session, one behind another
abbrev pub replies_to : ℕ → List (ℕ × List ℕ) → List ℕ
replies_to session replies = flat_map (λ reply. reply.1) (filter (λ (reply : ℕ × List ℕ). reply.0 == session) replies)

-- how a visit ends
abbrev pub end_of : List Turn → SessionEnd
end_of [] = end.Stopped
end_of (Answers by last ∷ turns) = end_of turns
end_of (Leaves how ∷ turns) = how

-- what a session asked, what it was replied, and how it ended
abbrev pub log_of : Stage → ℕ × (List ℕ × Visit) → SessionTrace
log_of s visit = record {
  session = visit.0;
  log = record {
    asked = take visit.1.1.taken visit.1.0;
    replied = replies_to visit.0 s.replies;
    end = end_of visit.1.1.turns;
  };
}

-- whether a bank has entries
abbrev pub has_entries : BankTrace → Bool
has_entries bank = nat_lt 0 (length bank.entries)

-- the trace of a run of sessions alone: no disk is made, and no vCPU has a script; its banks are those that have entries
abbrev pub trace_at : List (List ℕ) → Stage → Trace
trace_at streams s = record {
  disks = [];
  vcpus = [];
  control = s.history;
  banks = filter has_entries s.banks;
  sessions = map (log_of s) (numbered (map (λ stream. (stream, visit_of stream)) streams));
}

-- the trace at the last stage, unless a book was full
abbrev pub trace_of : List (List ℕ) → Result Stage Full → Result Trace Full
trace_of streams (Ok s) = Ok (trace_at streams s)
trace_of streams (Err full) = Err full

-- The trace of sessions at these streams, where these disks stand by; or the book that was full first.
abbrev pub trace_of_streams : List OnShelf → List (List ℕ) → Result Trace Full
trace_of_streams shelf streams = trace_of streams (after_turns shelf first_stage (all_turns (numbered (map visit_of streams))))

-- the stream of a session: the bytes of its requests, one behind another
abbrev pub stream_of : List Asked → List ℕ
stream_of requests = flat_map request_bytes requests

-- The trace of a scenario with these sessions, where these disks stand by; or the book that was full first.
unfoldable pub schedule : List OnShelf → List (List Asked) → Result Trace Full
schedule shelf sessions = trace_of_streams shelf (map stream_of sessions)
