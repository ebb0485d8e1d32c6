-- What is said of a run from what was read and written.
use Rattle.std.proofs.Common.{◌≡◌, ◌≤◌, ◌<◌, ◌+◌, ◌++◌, ◌∷◌, [], ℕ, List, Option, None, Some, IfSome, Result, Ok, Err, IfOk, length, if◌then◌else◌, refl, sym, ◌∙◌, ap, subst, ⊎_elim, inl, inr, arith, length-append}
use Rattle.std.specs.Prelude.{IfErr, MatchResult}
use Rattle.std.proofs.lemmas.List.{append-nil}
use Rattle.std.proofs.lemmas.Bool.{le-ltb, lt-ltb}
use Rattle.chv_defs_base.specs.declared.book.Full.{Full}
use Rattle.chv_defs_api.specs.declared.shelf.OnShelf.{OnShelf}
use Rattle.chv_defs_scene.specs.declared.scene.Scene.{Scene}
use Rattle.chv_defs.specs.declared.trace.Trace.{Trace}
use Rattle.chv_defs_api.specs.declared.context.StopCause.{StopCause}
use Rattle.chv_io.specs.Outside.{GainsPart}
use Rattle.chv_defs.specs.ProgramText.{read_fault_line, scene_fault_line, too_long_line}
use Rattle.chv_defs_scene.specs.ScenarioText.{Fault}
use Rattle.chv_defs.specs.Schedule.{Stage, schedule, trace_at, trace_of}
use Rattle.chv_defs.specs.TraceText.{trace_text}
use Rattle.chv_play.specs.Played.{Comes}
use Rattle.chv_play.proofs.CallerLemmas.{scheduled_of_sessions}
use Rattle.chv_play.proofs.OwnLemmas.{scheduled_asks}
use Rattle.chv_scene.specs.Played.{Sessions, read_played, played_answer, scene_of}
use Rattle.chv_top.specs.Outcome.{IsComplete, IsInput, IsRead, most_input, of_scenario, of_schedule, outcome_of, status_of, text_of, TooLong, Refused}
use Rattle.chv_top.specs.Says.{IsPlain, IsScene, Reports, ReportsTrace, Says, StopsBy, Tells}
use Rattle.chv_control.specs.Shelf as control
use Rattle.chv_scene.specs.declared.scenario.SceneFault.{SceneFault}
use Rattle.chv_top.specs.Given.{as_given, handed_in}
use Rattle.chv_top.specs.Taken.{HasRead}
use Rattle.chv_top.specs.declared.status.Status.{Status}
use Rattle.chv_top.specs.declared.status.Status.TheVariants as status
use Rattle.chv_top.specs.declared.program.Stop.{Stop}
use Rattle.chv_top.specs.declared.program.Stop.TheVariants as stop

-- ---- what was written

-- nothing is a first part of a text
pub none_is_part : (written written_after : Option (List ℕ)) (text : List ℕ) → written_after ≡ written → GainsPart written written_after text
none_is_part None after text same = same
none_is_part (Some before) None text same = absurd (cc)
none_is_part (Some before) (Some after) text same =
    let e : after ≡ before = cc in
    (0, omega arith, e ∙ sym (append-nil before))

-- ---- the trace of sessions alone

trace_plain : (streams : List (List ℕ)) (r : Result Stage Full) (t : Trace) → trace_of streams r ≡ Ok t → IsPlain t
trace_plain streams (Ok s) t e =
    let same : trace_at streams s ≡ t = cc in
    subst (λ (x : Trace). IsPlain x) same (record { disks = refl; vcpus = refl })
trace_plain streams (Err full) t e = absurd (cc)

pub scheduled_plain : (shelf : List OnShelf) (sessions : Sessions) (t : Trace) → schedule shelf sessions ≡ Ok t → IsPlain t
unfolding schedule
scheduled_plain shelf sessions t e = trace_plain _ _ t e

pub comes_plain : (shelf : List OnShelf) (sessions : Sessions) (trace : Option Trace) (cause : Option StopCause) → Comes shelf (schedule shelf sessions) trace cause → IfSome trace (λ (t : Trace). IsPlain t)
comes_plain shelf sessions (Some t) None comes = scheduled_plain shelf sessions t comes.0
comes_plain shelf sessions (Some t) (Some c) comes = absurd (comes)
comes_plain shelf sessions None cause comes = tt

-- ---- what playing reports

-- a status behind a trace that was written, or not whole
pub reports_trace : (shelf : List OnShelf) (given : Result Trace Full) (t : Trace) (w w' : Option (List ℕ)) (f f' : ℕ) (result : Status)
    → Comes shelf given (Some t) None → ReportsTrace t w w' f f' result → Reports shelf given w w' f f' result
reports_trace shelf given t w w' f f' result comes reports =
    let P : Status → Type 0 = λ s. Reports shelf given w w' f f' s in
    let owed : text_of (of_schedule given) ≡ trace_text t = ap (λ g. text_of (of_schedule g)) comes.0 in
    ⊎_elim
    (λ wrote. ⊎_elim
    (λ done. subst P (sym done.0) (t, comes.0, comes.1, done.1))
    (λ failed. subst P (sym failed.0) (failed.1, subst (λ (x : List ℕ). GainsPart w w' x) (sym owed) failed.2))
    wrote)
    (λ lost. subst P (sym lost.0) (subst (λ (x : List ℕ). GainsPart w w' x) (sym owed) lost.1))
    reports

-- ---- what was read

-- what is not too long was read whole
pub read_whole : (left left_after : Option (List ℕ)) (bytes : List ℕ) → HasRead left left_after bytes 16777217 → length bytes ≤ 16777216 → IsRead left left_after bytes
read_whole None left_after bytes read short = record { whole = tt; end = none_left left_after read.moved; short = short }
  where
    none_left : (after : Option (List ℕ)) → after ≡ None → IfSome after (λ rest. rest ≡ [])
    none_left None e = tt
    none_left (Some rest) e = absurd (cc)
read_whole (Some before) None bytes read short = absurd (read.moved)
read_whole (Some before) (Some rest) bytes read short =
    let less : length bytes < 16777217 = omega arith in
    let none : rest ≡ [] = read.end less in
    let moved : before ≡ bytes ++ rest = read.moved in
    record { whole = moved ∙ ap (λ t. bytes ++ t) none ∙ append-nil bytes; end = none; short = short }

-- what is too long is the front of an input that is
pub read_long : (left left_after : Option (List ℕ)) (bytes : List ℕ) → HasRead left left_after bytes 16777217 → 16777216 < length bytes → (text : List ℕ) × IsInput left text × (most_input < length text)
read_long None left_after bytes read long = (bytes, tt, long)
read_long (Some before) None bytes read long = absurd (read.moved)
read_long (Some before) (Some rest) bytes read long =
    let moved : before ≡ bytes ++ rest = read.moved in
    let count : length before ≡ length bytes + length rest = ap length moved ∙ length-append bytes rest in
    (before, refl, omega arith)

-- ---- what an input comes to

of_short : (shelf : List OnShelf) (text : List ℕ) → length text ≤ most_input → outcome_of shelf text ≡ of_scenario shelf (read_played text)
of_short shelf text short = ap (λ b. if b then TooLong else of_scenario shelf (read_played text)) (le-ltb most_input (length text) short)

of_long : (shelf : List OnShelf) (text : List ℕ) → most_input < length text → outcome_of shelf text ≡ TooLong
of_long shelf text long = ap (λ b. if b then TooLong else of_scenario shelf (read_played text)) (lt-ltb most_input (length text) long)

of_sessions : (shelf : List OnShelf) (text : List ℕ) (sessions : Sessions) → length text ≤ most_input → read_played text ≡ Ok sessions → outcome_of shelf text ≡ of_schedule (schedule shelf sessions)
of_sessions shelf text sessions short scenario = of_short shelf text short ∙ ap (of_scenario shelf) scenario

of_fault : (shelf : List OnShelf) (text : List ℕ) (fault : Fault) → length text ≤ most_input → read_played text ≡ Err fault → outcome_of shelf text ≡ Refused fault
of_fault shelf text fault short scenario = of_short shelf text short ∙ ap (of_scenario shelf) scenario

-- ---- what a run says

-- What the outside tells: what the input has left and what was put into the output, each told or not, and the counts of their
-- faults.
pub record Outside : Type 0 where
  pub left : Option (List ℕ)
  pub reads : ℕ
  pub put : Option (List ℕ)
  pub writes : ℕ

-- these together
abbrev pub outside : Option (List ℕ) → ℕ → Option (List ℕ) → ℕ → Outside
outside left reads put writes = record { left = left; reads = reads; put = put; writes = writes }

-- what a status says of a run between these
abbrev SaysBetween : List OnShelf → Outside → Outside → Status → Type 0
SaysBetween shelf before after result =
    Says shelf before.left after.left before.reads after.reads before.put after.put before.writes after.writes result

-- a run that met why there is no scenario
pub says_stop : (shelf : List OnShelf) (before after : Outside) (why : Stop) (result : Status)
    → StopsBy before.left after.left before.reads after.reads why → Tells before.put after.put before.writes after.writes why result
    → SaysBetween shelf before after result
says_stop shelf before after stop.Memory result by tells =
    subst (λ (s : Status). SaysBetween shelf before after s) (sym tells.0) (inl tells.1)
says_stop shelf before after stop.ReadFault result by tells =
    let P : Status → Type 0 = λ s. SaysBetween shelf before after s in
    ⊎_elim
    (λ done. subst P (sym done.0) (by, done.1))
    (λ failed. subst P (sym failed.0) (failed.1, (read_fault_line, inr (by, refl), failed.2)))
    tells
says_stop shelf before after stop.TooLong result by tells =
    let P : Status → Type 0 = λ s. SaysBetween shelf before after s in
    ⊎_elim
    (λ done. subst P (sym done.0) (refl, record { long = long_of before.left by.0 by.1 by.2; output = done.1 }))
    (λ failed. subst P (sym failed.0) (failed.1, (too_long_line, inl (by.0, by.1, sym (ap text_of (of_long shelf by.0 by.2))), failed.2)))
    tells
  where
    long_of : (o : Option (List ℕ)) (text : List ℕ) → IsInput o text → most_input < length text → IfSome o (λ input. most_input < length input)
    long_of None text is long = tt
    long_of (Some input) text is long = subst (λ (t : List ℕ). most_input < length t) (sym is) long
says_stop shelf before after (stop.Scene fault) result by tells =
    let P : Status → Type 0 = λ s. SaysBetween shelf before after s in
    let fault_is : Fault = record { line = fault.line; reason = fault.reason } in
    ⊎_elim
    (λ wrote. ⊎_elim
    (λ done. subst P (sym done.0) (record { text = by.0; read = by.1; fault = by.2; output = done.1 }))
    (λ failed. subst P (sym failed.0) (failed.1, (scene_fault_line fault.line fault.reason, inl (by.0, by.1.whole, sym (ap text_of (of_fault shelf by.0 fault_is by.1.short by.2))), failed.2)))
    wrote)
    (λ lost. subst P (sym lost.0) (inl lost.1))
    tells

-- a run that played its scenario
pub says_scene : (shelf : List OnShelf) (before after : Outside) (scene : Scene) (result : Status)
    → IsScene before.left after.left scene
    → Reports shelf (schedule shelf scene.sessions) before.put after.put before.writes after.writes result
    → SaysBetween shelf before after result
says_scene shelf before after scene status.Done is reports =
    record {
      text = is.text;
      sessions = scene.sessions;
      trace = reports.0;
      read = is.read;
      scenario = is.scenario;
      scheduled = reports.1;
      one_each = (scheduled_of_sessions shelf scene.sessions reports.0 reports.1).one_each;
      numbered = (scheduled_of_sessions shelf scene.sessions reports.0 reports.1).numbered;
      own_streams = scheduled_asks shelf scene.sessions reports.0 reports.1;
      legal = reports.2;
      output = reports.3;
    }
says_scene shelf before after scene (status.Full book entries bytes) is reports =
    record { text = is.text; sessions = scene.sessions; read = is.read; scenario = is.scenario; fills = reports.0; output = reports.1 }
says_scene shelf before after scene status.WriteFault is reports =
    (reports.0, (text_of (of_schedule (schedule shelf scene.sessions)), inl (is.text, is.read.whole, sym (ap text_of (of_sessions shelf is.text scene.sessions is.read.short is.scenario))), reports.1))
says_scene shelf before after scene status.Memory is reports =
    inr (text_of (of_schedule (schedule shelf scene.sessions)), inl (is.text, is.read.whole, sym (ap text_of (of_sessions shelf is.text scene.sessions is.read.short is.scenario))), reports)
says_scene shelf before after scene status.Usage is reports = absurd (reports)
says_scene shelf before after scene (status.Scene line reason) is reports = absurd (reports)
says_scene shelf before after scene status.ReadFault is reports = absurd (reports)
says_scene shelf before after scene (status.TooLong bytes) is reports = absurd (reports)

complete_of : (shelf : List OnShelf) (left left_after : Option (List ℕ)) (reads reads_after : ℕ) (w w' : Option (List ℕ)) (f f' : ℕ) (result : Status)
    → Says shelf left left_after reads reads_after w w' f f' result → IsComplete shelf left reads reads_after f f' result
complete_of shelf None left_after reads reads_after w w' f f' result says = tt
complete_of shelf (Some input) left_after reads reads_after w w' f f' status.Done says = λ no_read no_write.
    let same : input ≡ says.text = says.read.whole in
    inl (sym (ap (λ t. status_of (outcome_of shelf t)) same ∙ ap status_of (of_sessions shelf says.text says.sessions says.read.short says.scenario ∙ ap of_schedule says.scheduled)))
complete_of shelf (Some input) left_after reads reads_after w w' f f' (status.Full book entries bytes) says = λ no_read no_write.
    let same : input ≡ says.text = says.read.whole in
    inl (sym (ap (λ t. status_of (outcome_of shelf t)) same ∙ ap status_of (of_sessions shelf says.text says.sessions says.read.short says.scenario ∙ ap of_schedule says.fills)))
complete_of shelf (Some input) left_after reads reads_after w w' f f' (status.Scene line reason) says = λ no_read no_write.
    let same : input ≡ says.text = says.read.whole in
    inl (sym (ap (λ t. status_of (outcome_of shelf t)) same ∙ ap status_of (of_fault shelf says.text (record { line = line; reason = reason }) says.read.short says.fault)))
complete_of shelf (Some input) left_after reads reads_after w w' f f' (status.TooLong bytes) says = λ no_read no_write.
    inl (ap (λ b. status.TooLong b) says.0 ∙ sym (ap status_of (of_long shelf input says.1.long)))
complete_of shelf (Some input) left_after reads reads_after w w' f f' status.Memory says = λ no_read no_write. inr refl
complete_of shelf (Some input) left_after reads reads_after w w' f f' status.Usage says = absurd (says)
complete_of shelf (Some input) left_after reads reads_after w w' f f' status.ReadFault says = λ no_read no_write. absurd (no_read says.0)
complete_of shelf (Some input) left_after reads reads_after w w' f f' status.WriteFault says = λ no_read no_write. absurd (no_write says.0)

-- a run says what its input comes to, unless a count rose or there was no memory
pub complete : (shelf : List OnShelf) (before after : Outside) (result : Status) → SaysBetween shelf before after result
    → IsComplete shelf before.left before.reads after.reads before.writes after.writes result
complete shelf before after result says =
    complete_of shelf before.left after.left before.reads after.reads before.put after.put before.writes after.writes result says

-- ---- disks

-- disks that were handed in, and taken back, are these disks
pub handed_given : {D : Type 0} (disks : List (List ℕ × D)) → handed_in (as_given disks) ≡ disks
handed_given [] = refl
handed_given (disk ∷ disks) = ap (λ rest. disk ∷ rest) (handed_given disks)

-- they stand by as these disks do
pub shelf_given : {D : Type 0} (count : D → ℕ) (disks : List (List ℕ × D)) → control.shelf_of (control.sectors_of count) (as_given disks) ≡ control.shelf_of count disks
shelf_given count [] = refl
shelf_given count (disk ∷ disks) = ap (λ rest. record { name = disk.0; sectors = count disk.1 } ∷ rest) (shelf_given count disks)

-- ---- what the reader answers

-- a scenario that was read
pub scene_is : (r : Result Sessions Fault) (scene : Scene) → Ok scene ≡ played_answer r → r ≡ Ok scene.sessions
scene_is (Ok sessions) scene e =
    let same : scene ≡ scene_of sessions = cc in
    ap (λ (s : Scene). ok_sessions s.sessions) (sym same)
  where
    ok_sessions : Sessions → Result Sessions Fault
    ok_sessions sessions = Ok sessions
scene_is (Err fault) scene e = absurd (cc)

-- a fault that was read
pub fault_is : (r : Result Sessions Fault) (fault : SceneFault) → Err fault ≡ played_answer r → r ≡ Err (record { line = fault.line; reason = fault.reason })
fault_is (Ok sessions) fault e = absurd (cc)
fault_is (Err f) fault e =
    let same : fault ≡ record { line = f.line; reason = f.reason } = cc in
    ap (λ (x : SceneFault). err_fault x) (sym same)
  where
    err_fault : SceneFault → Result Sessions Fault
    err_fault x = Err (record { line = x.line; reason = x.reason })

-- what a scenario that was read whole comes to
pub scene_read : {E : Type 0} (read : Result (Result Scene SceneFault) E) (result : Result Scene Stop) (left left_after : Option (List ℕ)) (text slice : List ℕ)
    → slice ≡ text → IsRead left left_after text → IfOk read (λ answer. answer ≡ played_answer (read_played slice))
    → IfOk read (λ answer. IfOk answer (λ scene. length scene.sessions ≤ 16))
    → MatchResult read (λ answer. MatchResult answer (λ scene. result ≡ Ok scene) (λ fault. result ≡ Err (stop.Scene fault))) (λ _. result ≡ Err stop.Memory)
    → IfOk result (λ scene. IsScene left left_after scene)
scene_read (Ok (Ok scene)) result left left_after text slice same whole answers few is =
    subst (λ r. IfOk r (λ scene. IsScene left left_after scene)) (sym is) (record {
      text = text;
      read = whole;
      scenario = scene_is (read_played text) scene (answers ∙ ap (λ t. played_answer (read_played t)) same);
      few = few;
    })
scene_read (Ok (Err fault)) result left left_after text slice same whole answers few is =
    subst (λ r. IfOk r (λ scene. IsScene left left_after scene)) (sym is) tt
scene_read (Err error) result left left_after text slice same whole answers few is =
    subst (λ r. IfOk r (λ scene. IsScene left left_after scene)) (sym is) tt

-- why there is none in a text that was read whole
pub scene_stops : {E : Type 0} (read : Result (Result Scene SceneFault) E) (result : Result Scene Stop) (left left_after : Option (List ℕ)) (reads reads_after : ℕ)
    (text slice : List ℕ) → slice ≡ text → IsRead left left_after text → IfOk read (λ answer. answer ≡ played_answer (read_played slice))
    → MatchResult read (λ answer. MatchResult answer (λ scene. result ≡ Ok scene) (λ fault. result ≡ Err (stop.Scene fault))) (λ _. result ≡ Err stop.Memory)
    → IfErr result (λ why. StopsBy left left_after reads reads_after why)
scene_stops (Ok (Ok scene)) result left left_after reads reads_after text slice same whole answers is =
    subst (λ r. IfErr r (λ why. StopsBy left left_after reads reads_after why)) (sym is) tt
scene_stops (Ok (Err fault)) result left left_after reads reads_after text slice same whole answers is =
    subst (λ r. IfErr r (λ why. StopsBy left left_after reads reads_after why)) (sym is)
    (text, whole, fault_is (read_played text) fault (answers ∙ ap (λ t. played_answer (read_played t)) same))
scene_stops (Err error) result left left_after reads reads_after text slice same whole answers is =
    subst (λ r. IfErr r (λ why. StopsBy left left_after reads reads_after why)) (sym is) tt
