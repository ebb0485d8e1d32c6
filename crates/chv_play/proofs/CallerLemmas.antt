-- Whose calls a trace that is due has: those of its sessions, which are numbered from 1 on, and no others.
use Rattle.std.proofs.Common.{◌≡◌, ◌≤◌, ◌<◌, ℕ, zero, suc, ◌+◌, ◌-◌, List, [], ◌∷◌, ◌++◌, drop, get_or, length, map, flat_map, slice_get, Option, None, Some, Result, Ok, Err, refl, sym, ap, subst, ◌∙◌, arith}
use Rattle.std.specs.List.{AllByRecursion, Contains, cons_option, enumerate_from, range_with_len}
use Rattle.std.proofs.lemmas.List.{length-map}
use Rattle.std.proofs.lemmas.List.Elements.{Contains-get_or}
use Rattle.std.proofs.lemmas.List.FromFn.{get_or-range_with_len, length-enumerate_from, length-range_with_len}
use Rattle.chv_defs_base.specs.declared.book.Full.{Full}
use Rattle.chv_defs_api.specs.declared.control.ControlCall.TheVariants as call
use Rattle.chv_defs_api.specs.declared.control.ControlEntry.{ControlEntry}
use Rattle.chv_defs_scene.specs.declared.scene.Asked.{Asked}
use Rattle.chv_defs_api.specs.declared.shelf.OnShelf.{OnShelf}
use Rattle.chv_defs.specs.declared.trace.SessionTrace.{SessionTrace}
use Rattle.chv_defs.specs.declared.trace.Trace.{Trace}
use Rattle.chv_defs_control.specs.ApiStep.{reply_to}
use Rattle.chv_defs_api.specs.Routes.{reply_to_call}
use Rattle.chv_defs.specs.Schedule.{Turn, Answers, Leaves, Visit, Stage, numbered, turn_of, round_of, rounds_of, all_turns, first_stage, entry_of, full_for, with_entry, with_reply, unless_full, after_turn, then_from, after_turns, visit_of, log_of, trace_at, trace_of, stream_of, schedule}
use Rattle.chv_defs.specs.LegalTrace.{numbers_of, AreNumbered, IsLower, AreCallsOf}
use Rattle.chv_play.specs.Played.{AreNumberedFromOne}

-- ---- the turns

-- a thing of one of so many sessions, with its session's number
abbrev IsOfOne : {A : Type 0} → ℕ → ℕ × A → Type 0
IsOfOne sessions item = (1 ≤ item.0) × (item.0 ≤ sessions)

-- what holds of two lists holds of both, one behind the other
all_append : {X : Type 0} (P : X → Type 0) (xs ys : List X) → AllByRecursion P xs → AllByRecursion P ys → AllByRecursion P (xs ++ ys)
all_append P [] ys front back = back
all_append P (x ∷ xs) ys front back = (front.0, all_append P xs ys front.1 back)

-- numbered things are of as many sessions
numbered_of_one : {A : Type 0} (sessions k : ℕ) (items : List A) → 1 ≤ k → k + length items ≤ sessions + 1
    → AllByRecursion (IsOfOne {A = A} sessions) (enumerate_from k items)
numbered_of_one sessions k [] low high = tt
numbered_of_one sessions k (item ∷ items) low high =
    ((low, omega (arith, high)), numbered_of_one sessions (k + 1) items (omega (arith, low)) (omega (arith, high)))

-- a session's turn is its own
turn_of_one : (sessions session : ℕ) (turn : Option Turn) (turns : List (ℕ × Turn)) → (1 ≤ session) × (session ≤ sessions)
    → AllByRecursion (IsOfOne {A = Turn} sessions) turns → AllByRecursion (IsOfOne {A = Turn} sessions) (cons_option (turn_of session turn) turns)
turn_of_one sessions session None turns one rest = rest
turn_of_one sessions session (Some turn) turns one rest = (one, rest)

-- a round has turns of the sessions
round_of_one : (sessions round : ℕ) (visits : List (ℕ × Visit)) → AllByRecursion (IsOfOne {A = Visit} sessions) visits
    → AllByRecursion (IsOfOne {A = Turn} sessions) (round_of visits round)
round_of_one sessions round [] each = tt
round_of_one sessions round (visit ∷ visits) each =
    turn_of_one sessions visit.0 (slice_get visit.1.turns round) (round_of visits round) each.0 (round_of_one sessions round visits each.1)

-- and so have all rounds
rounds_of_one : (sessions : ℕ) (visits : List (ℕ × Visit)) (a n : ℕ) → AllByRecursion (IsOfOne {A = Visit} sessions) visits
    → AllByRecursion (IsOfOne {A = Turn} sessions) (flat_map (round_of visits) (range_with_len a n))
rounds_of_one sessions visits a zero each = tt
rounds_of_one sessions visits a (suc n) each =
    all_append (IsOfOne {A = Turn} sessions) (round_of visits a) (flat_map (round_of visits) (range_with_len (a + 1) n))
    (round_of_one sessions a visits each) (rounds_of_one sessions visits (a + 1) n each)

-- all turns are of the sessions whose visits these are
turns_of_one : (visits : List Visit) → AllByRecursion (IsOfOne {A = Turn} (length visits)) (all_turns (numbered visits))
turns_of_one visits =
    rounds_of_one (length visits) (numbered visits) 0 (rounds_of (numbered visits)) (numbered_of_one (length visits) 1 visits (omega arith) (omega arith))

-- ---- what comes of them

-- an entry is the call of one of so many sessions
abbrev IsCallBelow : ℕ → ControlEntry → Type 0
IsCallBelow sessions entry = (1 ≤ entry.caller) × (entry.caller ≤ sessions)

-- so is each entry of a stage's history
abbrev AreOfOne : ℕ → Stage → Type 0
AreOfOne sessions s = AllByRecursion (IsCallBelow sessions) s.history

-- a stage where no book was full
unless_full_of_one : (sessions : ℕ) (full : Option Full) (s next : Stage) → AreOfOne sessions s → unless_full full s ≡ Ok next → AreOfOne sessions next
unless_full_of_one sessions None s next all is =
    let same : s ≡ next = cc in
    subst (λ (t : Stage). AreOfOne sessions t) same all
unless_full_of_one sessions (Some full) s next all is = absurd (cc)

-- a turn enters no call but its session's
after_turn_of_one : (shelf : List OnShelf) (sessions : ℕ) (s next : Stage) (session : ℕ) (turn : Turn) → (1 ≤ session) × (session ≤ sessions)
    → AreOfOne sessions s → after_turn shelf s session turn ≡ Ok next → AreOfOne sessions next
after_turn_of_one shelf sessions s next session (Answers (Err rule) last) one all is =
    unless_full_of_one sessions None (record s { replies = _ }) next all is
after_turn_of_one shelf sessions s next session (Answers (Ok c) last) one all is =
    unless_full_of_one sessions (full_for shelf s session c)
    (with_reply session (reply_to_call c (reply_to shelf s.machine c) last) (with_entry shelf session c s)) next
    (all_append (IsCallBelow sessions) s.history (entry_of shelf s session c ∷ []) all (one, tt)) is
after_turn_of_one shelf sessions s next session (Leaves how) one all is =
    unless_full_of_one sessions (full_for shelf s session call.Bye) (with_entry shelf session call.Bye s) next
    (all_append (IsCallBelow sessions) s.history (entry_of shelf s session call.Bye ∷ []) all (one, tt)) is

-- what follows a turn, unless a book was full
then_of_one : (sessions : ℕ) (r : Result Stage Full) (after : Stage → Result Stage Full) (last : Stage)
    → ((next : Stage) → r ≡ Ok next → after next ≡ Ok last → AreOfOne sessions last) → then_from r after ≡ Ok last → AreOfOne sessions last
then_of_one sessions (Ok next) after last leads is = leads next refl is
then_of_one sessions (Err full) after last leads is = absurd (cc)

-- turns of the sessions enter no others' calls
after_turns_of_one : (shelf : List OnShelf) (sessions : ℕ) (turns : List (ℕ × Turn)) (s last : Stage) → AllByRecursion (IsOfOne {A = Turn} sessions) turns
    → AreOfOne sessions s → after_turns shelf s turns ≡ Ok last → AreOfOne sessions last
after_turns_of_one shelf sessions [] s last each all is =
    let same : s ≡ last = cc in
    subst (λ (t : Stage). AreOfOne sessions t) same all
after_turns_of_one shelf sessions (turn ∷ turns) s last each all is =
    then_of_one sessions (after_turn shelf s turn.0 turn.1) (λ next. after_turns shelf next turns) last
    (λ next now later. after_turns_of_one shelf sessions turns next last each.1 (after_turn_of_one shelf sessions s next turn.0 turn.1 each.0 all now) later)
    is

-- ---- the trace

-- logs of numbered things have these numbers
logs_numbered : (s : Stage) (k : ℕ) (items : List (List ℕ × Visit))
    → map (λ (session : SessionTrace). session.session) (map (log_of s) (enumerate_from k items))
    ≡ range_with_len k (length (map (log_of s) (enumerate_from k items)))
logs_numbered s k [] = refl
logs_numbered s k (item ∷ items) = ap (λ (numbers : List ℕ). k ∷ numbers) (logs_numbered s (k + 1) items)

-- a trace has one log for each stream
one_log_each : (streams : List (List ℕ)) (s : Stage) → length (trace_at streams s).sessions ≡ length streams
one_log_each streams s =
    let visits = map (λ (stream : List ℕ). (stream, visit_of stream)) streams in
    length-map (numbered visits) (log_of s) ∙ length-enumerate_from 1 visits ∙ length-map streams (λ (stream : List ℕ). (stream, visit_of stream))

-- sessions that are numbered without a gap have higher numbers than those before the first
numbers_above : (low : ℕ) (session : SessionTrace) (sessions : List SessionTrace) → session.session < low
    → numbers_of sessions ≡ range_with_len low (length sessions) → AllByRecursion (IsLower session) sessions
numbers_above low session [] lower is = tt
numbers_above low session (s ∷ ss) lower is =
    let first : s.session ≡ low = ap (λ (ns : List ℕ). get_or ns 0 0) is in
    (omega (arith, lower, first), numbers_above (low + 1) session ss (omega (arith, lower)) (ap (drop 1) is))

-- sessions that are numbered without a gap, up to 16, are numbered as those of a legal trace
numbered_without_gap : (low : ℕ) (sessions : List SessionTrace) → 1 ≤ low → low + length sessions ≤ 17
    → numbers_of sessions ≡ range_with_len low (length sessions) → AreNumbered sessions
numbered_without_gap low [] above few is = tt
numbered_without_gap low (s ∷ ss) above few is =
    let first : s.session ≡ low = ap (λ (ns : List ℕ). get_or ns 0 0) is in
    let rest : numbers_of ss ≡ range_with_len (low + 1) (length ss) = ap (drop 1) is in (
      (omega (arith, above, first), omega (arith, few, first)),
      numbers_above (low + 1) s ss (omega (arith, first)) rest,
      numbered_without_gap (low + 1) ss (omega (arith, above)) (omega (arith, few)) rest,
    )

-- each number from 1 on is among them
number_is_there : (count number : ℕ) → 1 ≤ number → number ≤ count → Contains (range_with_len 1 count) number
number_is_there count number low high =
    let at : number - 1 < length (range_with_len 1 count) = rw (length-range_with_len 1 count) (omega (arith, low, high)) in
    subst (λ n. Contains (range_with_len 1 count) n)
    (get_or-range_with_len 1 count (number - 1) 0 (omega (arith, low, high)) ∙ omega (arith, low))
    (Contains-get_or (range_with_len 1 count) (number - 1) 0 at)

-- so that each of these calls is the call of a session that the trace has
calls_of_one : (sessions : List SessionTrace) (history : List ControlEntry) → AreNumberedFromOne sessions
    → AllByRecursion (IsCallBelow (length sessions)) history → AreCallsOf sessions history
calls_of_one sessions [] is each = tt
calls_of_one sessions (entry ∷ history) is each = (
  subst (λ (ns : List ℕ). Contains ns entry.caller) (sym is)
      (number_is_there (length sessions) entry.caller each.0.0 each.0.1),
  calls_of_one sessions history is each.1,
)

-- What a trace that is due says of its sessions and callers.
pub record IsOfSessions (sessions : ℕ) (trace : Trace) : Type 0 where
  pub numbered : AreNumberedFromOne trace.sessions
  pub callers : AreCallsOf trace.sessions trace.control
  pub one_each : length trace.sessions ≡ sessions

-- Where they are few, they are numbered as those of a legal trace.
pub numbers_of_sessions : (sessions : ℕ) (trace : Trace) → sessions ≤ 16 → IsOfSessions sessions trace → AreNumbered trace.sessions
numbers_of_sessions sessions trace few told =
    numbered_without_gap 1 trace.sessions (omega arith) (omega (arith, few, told.one_each)) told.numbered

-- the trace of a last stage
trace_of_sessions : (shelf : List OnShelf) (streams : List (List ℕ)) (r : Result Stage Full) (trace : Trace)
    → after_turns shelf first_stage (all_turns (numbered (map visit_of streams))) ≡ r → trace_of streams r ≡ Ok trace → IsOfSessions (length streams) trace
trace_of_sessions shelf streams (Ok s) trace leads is =
    let visits = map visit_of streams in
    let count : length visits ≡ length (trace_at streams s).sessions = length-map streams visit_of ∙ sym (one_log_each streams s) in
    let all : AreOfOne (length visits) s = after_turns_of_one shelf (length visits) (all_turns (numbered visits)) first_stage s (turns_of_one visits) tt leads in
    let numbered : AreNumberedFromOne (trace_at streams s).sessions =
    logs_numbered s 1 (map (λ (stream : List ℕ). (stream, visit_of stream)) streams) in
    let same : trace_at streams s ≡ trace = cc in
    subst (λ (t : Trace). IsOfSessions (length streams) t) same (record {
      numbered = numbered;
      callers = calls_of_one (trace_at streams s).sessions s.history numbered (subst (λ n. AreOfOne n s) count all);
      one_each = one_log_each streams s;
    })
trace_of_sessions shelf streams (Err full) trace leads is = absurd (cc)

-- The trace of a scenario has one log for each of its sessions, which are numbered from 1 on, and no entry of another caller.
pub scheduled_of_sessions : (shelf : List OnShelf) (sessions : List (List Asked)) (trace : Trace) → schedule shelf sessions ≡ Ok trace
    → IsOfSessions (length sessions) trace
unfolding schedule
scheduled_of_sessions shelf sessions trace is =
    subst (λ n. IsOfSessions n trace) (length-map sessions stream_of)
    (trace_of_sessions shelf (map stream_of sessions) (after_turns shelf first_stage (all_turns (numbered (map visit_of (map stream_of sessions))))) trace refl is)
