-- Some scenario begins with the lines before the one that fails.
use Rattle.std.proofs.Common.{◌≡◌, ℕ, ◌+◌, ◌≤◌, not, nat_lt, Bool, true, false, cond, List, [], ◌∷◌, ◌++◌, length, take, codes, Option, None, Some, Result, Ok, Err, refl, sym, ◌∙◌, ap, ap₂, subst, append_assoc, length-append, arith}
use Rattle.std.specs.List.{list_all, list_any}
use Rattle.std.specs.Str.{bytes_eq}
use Rattle.std.proofs.lemmas.Bool.{and_parts, and_from, or_from}
use Rattle.std.proofs.lemmas.List.{take_at}
use Rattle.std.proofs.lemmas.Slice.Eq.{bytes_eq-Decides}
use Rattle.chv_defs_base.specs.declared.rule.Reason.{Reason}
use Rattle.chv_defs_base.specs.declared.rule.Reason.TheVariants.{UnknownWord}
use Rattle.chv_defs_scene.specs.declared.scene.Line.{Line as Instruction}
use Rattle.chv_defs_scene.specs.declared.scene.Scene.{Scene}
use Rattle.chv_defs_scene.specs.ScenarioLines.{Line, lines_of, at_space, Part, Has, Ends, most_lines, is_end, script_lines, script_line, Before, nothing_before, Opening, OpensVcpu, OpensSession, OpensOrder, session_opening, vcpu_opening, order_opening, disk_reason, top_word, top_line}
use Rattle.chv_defs_scene.specs.ScenarioText.{Fault, Place, Outside, InScript, InSession, InOrder, read_lines, read_scenario, empty_scene, with_session, with_order}
use Rattle.chv_defs_scene.specs.ScriptReading.{labels_of, has_label, target, is_missing, line_between}
use Rattle.chv_script.proofs.GrammarLemmas.{read_line}
use Rattle.chv_scene.specs.Refusals.{HasRoom, BeginsScenario}
use Rattle.chv_scene.proofs.SpellingLemmas.{by_test, lines_text}
use Rattle.chv_scene.proofs.RequestLemmas.{no_feed, feedless, lines_feedless}
use Rattle.chv_scene.proofs.ReadBackLemmas.{first_line}
use Rattle.chv_scene.proofs.OpeningLemmas.{session_by, in_order_is}
use Rattle.chv_scene.proofs.ScriptLemmas.{no_end, line_instructed, script_ended, lines_on}
use Rattle.chv_scene.proofs.GrammarLemmas.{read_is_scenario}
use Rattle.chv_scene.proofs.WholeLemmas.{instruction_read}
use Rattle.chv_scene.proofs.NextLemmas.{Spot, went, opened, next, lines_fail, lines_go}
use Rattle.chv_scene.proofs.LabelsLeft.{is_whole, rest_lines, rest_whole, rest_read, rest_keeps}
use Rattle.chv_scene.proofs.LowestLemmas.{ends_too, not_not, no_line}

-- ---- labels that are kept

-- a script that stands behind these lines, and goes on with those others, has all labels of these
abbrev pub KeepsLabels : List (List ℕ) → List Line → List Line → Type 0
KeepsLabels before lines others = (name : List ℕ) → has_label (labels_of (before ++ script_lines lines)) name ≡ true → has_label (labels_of (before ++ script_lines others)) name ≡ true

-- the same where a script is open
abbrev pub Keeps : Place → List Line → List Line → Type 0
Keeps (InScript before) lines others = KeepsLabels before lines others
Keeps place lines others = Unit {0}

none_missing : (these those : List (List ℕ)) (to : Option (List ℕ)) → ((name : List ℕ) → has_label these name ≡ true → has_label those name ≡ true) → is_missing these to ≡ false → is_missing those to ≡ false
none_missing these those None keeps h = refl
none_missing these those (Some name) keeps h = ap not (keeps name (not_not (has_label these name) h))

-- the lines behind a line, by the labels up to it
keeps_on : (before : List (List ℕ)) (text : List ℕ) (lines others : List Line) → KeepsLabels (before ++ text ∷ []) lines others → (name : List ℕ) → has_label (labels_of (before ++ text ∷ script_lines lines)) name ≡ true → has_label (labels_of (before ++ text ∷ script_lines others)) name ≡ true
keeps_on before text lines others keeps name h =
    ap (λ ls. has_label (labels_of ls) name) (sym (append_assoc before (text ∷ []) (script_lines others)))
    ∙ keeps name (ap (λ ls. has_label (labels_of ls) name) (append_assoc before (text ∷ []) (script_lines lines)) ∙ h)

-- an instruction is read before others too
instruction_kept : (before : List (List ℕ)) (text : List ℕ) (lines others : List Line) (l : Instruction) → script_line before (record { text = text; is_ended = true }) lines ≡ Ok (Has l) → KeepsLabels (before ++ text ∷ []) lines others → script_line before (record { text = text; is_ended = true }) others ≡ Ok (Has l)
instruction_kept before text lines others l e keeps =
    let is = line_instructed before text true lines l e in
    let read = is.is in
    let known = none_missing (labels_of (before ++ text ∷ script_lines lines)) (labels_of (before ++ text ∷ script_lines others)) (target l) (keeps_on before text lines others keeps) read.known in
    let between = read_line before text (script_lines others) l (record { spelled = read.spelled; fine = read.fine; own = read.own; once = read.once; known = known }) in
    subst (λ t. script_line before (record { text = t; is_ended = true }) others ≡ Ok (Has l)) (sym read.spelled)
    (instruction_read before l others read.fine is.room (subst (λ t. line_between before t (script_lines others) ≡ Ok l) read.spelled between))

-- what is kept of a line that is read
record IsKept (place : Place) (b : Before) (line : Line) (lines others : List Line) (spot : Spot) : Type 0 where
  ended : line.is_ended ≡ true
  goes : next place b line others ≡ Ok spot
  keeps : Keeps place (line ∷ lines) (line ∷ others)

script_kept : (before : List (List ℕ)) (b : Before) (text : List ℕ) (lines others : List Line) (spot : Spot) (means : Result (Part Instruction) Reason) → script_line before (record { text = text; is_ended = true }) lines ≡ means → went (InScript (before ++ text ∷ [])) b means ≡ Ok spot → Keeps spot.0 lines others → IsKept (InScript before) b (record { text = text; is_ended = true }) lines others spot
script_kept before b text lines others spot (Err reason) m e keeps = absurd (cc)
script_kept before b text lines others spot (Ok Ends) m e keeps =
    let line : Line = record { text = text; is_ended = true } in
    let too = ends_too before text lines others m in
    let here = (script_ended before text true lines m).1 in
    let there = (script_ended before text true others too).1 in
    record {
      ended = refl;
      goes = ap (went (InScript (before ++ text ∷ [])) b) too ∙ e;
      keeps = λ name h. ap (λ ls. has_label (labels_of (before ++ ls)) name) there ∙ (ap (λ ls. has_label (labels_of (before ++ ls)) name) (sym here) ∙ h);
    }
script_kept before b text lines others spot (Ok (Has l)) m e keeps =
    let line : Line = record { text = text; is_ended = true } in
    let inside : Spot = (InScript (before ++ text ∷ []), b) in
    let is : inside ≡ spot = cc in
    let still : KeepsLabels (before ++ text ∷ []) lines others = subst (λ (p : Spot). Keeps p.0 lines others) (sym is) keeps in
    let word = (line_instructed before text true lines l m).word in
    record {
      ended = refl;
      goes = ap (went (InScript (before ++ text ∷ [])) b) (instruction_kept before text lines others l m still) ∙ e;
      keeps = λ name h.
          ap (λ ls. has_label (labels_of (before ++ ls)) name) (lines_on line others word)
          ∙ keeps_on before text lines others still name (ap (λ ls. has_label (labels_of (before ++ ls)) name) (sym (lines_on line lines word)) ∙ h);
    }

not_ended : (place : Place) (b : Before) (text : List ℕ) (lines : List Line) (spot : Spot) (G : Type 0) → next place b (record { text = text; is_ended = false }) lines ≡ Ok spot → G
not_ended Outside b text lines spot G e = absurd (cc)
not_ended InSession b text lines spot G e = absurd (cc)
not_ended (InOrder k) b text lines spot G e = absurd (cc)
not_ended (InScript before) b text lines spot G e = absurd (cc)

-- a line that is read before lines is read before others that keep the labels
next_kept : (place : Place) (b : Before) (line : Line) (lines others : List Line) (spot : Spot) → next place b line lines ≡ Ok spot → Keeps spot.0 lines others → IsKept place b line lines others spot
next_kept place b line lines others spot e keeps = by_end line.is_ended e
  where
    whole : (place : Place) → next place b (record { text = line.text; is_ended = true }) lines ≡ Ok spot → IsKept place b (record { text = line.text; is_ended = true }) lines others spot
    whole Outside e = record { ended = refl; goes = e; keeps = tt }
    whole InSession e = record { ended = refl; goes = e; keeps = tt }
    whole (InOrder k) e = record { ended = refl; goes = e; keeps = tt }
    whole (InScript before) e = script_kept before b line.text lines others spot _ refl e keeps

    by_end : (v : Bool) → next place b (record { text = line.text; is_ended = v }) lines ≡ Ok spot → IsKept place b (record { text = line.text; is_ended = v }) lines others spot
    by_end true e = whole place e
    by_end false e = not_ended place b line.text lines spot _ e

-- ---- room for labels

-- in the script that is open behind these lines, where it is the one that is open before them
abbrev pub FitsLabels : Place → List Line → List Line → Type 0
FitsLabels (InScript before) front rest = list_any is_end front ≡ false → length before + length front + length (labels_of (script_lines rest)) ≤ most_lines
FitsLabels place front rest = Unit {0}

same_word : (word other : List ℕ) → bytes_eq word other ≡ true → word ≡ other
same_word word other test = (bytes_eq-Decides word other).0 test

no_session : (b : Before) (fields : Option (List ℕ)) (vcpu fuel : ℕ) (G : Type 0) → session_opening b fields ≡ Ok (OpensVcpu vcpu fuel) → G
no_session b (Some fields) vcpu fuel G e = absurd (cc)
no_session b None vcpu fuel G e = let is = (session_by b.has_order (nat_lt b.sessions 16) (OpensVcpu vcpu fuel) e).2 in absurd (cc)

no_order : (b : Before) (fields : Option (List ℕ)) (vcpu fuel : ℕ) (G : Type 0) → order_opening b fields ≡ Ok (OpensVcpu vcpu fuel) → G
no_order b (Some fields) vcpu fuel G e = absurd (cc)
no_order b None vcpu fuel G e = let is = (in_order_is (not b.has_order) OpensOrder (OpensVcpu vcpu fuel) e).1 in absurd (cc)

no_disk : (v : Bool) (x y : Reason) (o : Opening) (G : Type 0) → cond v (Err x) (Err y) ≡ Ok o → G
no_disk true x y o G e = absurd (cc)
no_disk false x y o G e = absurd (cc)

-- the word of a line that opens a vCPU's section
vcpu_word : (b : Before) (word : List ℕ) (fields : Option (List ℕ)) (vcpu fuel : ℕ) → top_word b word fields ≡ Ok (OpensVcpu vcpu fuel) → word ≡ codes "vcpu"
vcpu_word b word fields vcpu fuel =
    by_test (bytes_eq word (codes "session")) (session_opening b fields) _ (Ok (OpensVcpu vcpu fuel)) _ (λ test e. no_session b fields vcpu fuel _ e) (
    by_test (bytes_eq word (codes "vcpu")) (vcpu_opening b fields) _ (Ok (OpensVcpu vcpu fuel)) _ (λ test e. same_word word (codes "vcpu") test) (
    by_test (bytes_eq word (codes "order")) (order_opening b fields) _ (Ok (OpensVcpu vcpu fuel)) _ (λ test e. no_order b fields vcpu fuel _ e) (
    no_disk (bytes_eq word (codes "disk")) (disk_reason b fields) UnknownWord (OpensVcpu vcpu fuel) _)))

top_fits : (b : Before) (front rest : List Line) (spot : Spot) (opens : Result Opening Reason) → ((vcpu fuel : ℕ) → opens ≡ Ok (OpensVcpu vcpu fuel) → FitsLabels (InScript []) front rest) → opened b opens ≡ Ok spot → FitsLabels spot.0 front rest
top_fits b front rest spot (Err reason) fit e = absurd (cc)
top_fits b front rest spot (Ok (OpensVcpu vcpu fuel)) fit e =
    let there : Spot = (InScript [], record b { next_vcpu = vcpu + 1 }) in
    let is : there ≡ spot = cc in
    subst (λ (p : Spot). FitsLabels p.0 front rest) is (fit vcpu fuel refl)
top_fits b front rest spot (Ok OpensSession) fit e = let there : Spot = (InSession, record b { sessions = b.sessions + 1 }) in let is : there ≡ spot = cc in subst (λ (p : Spot). FitsLabels p.0 front rest) is tt
top_fits b front rest spot (Ok OpensOrder) fit e = let there : Spot = (InOrder 0, record b { has_order = true }) in let is : there ≡ spot = cc in subst (λ (p : Spot). FitsLabels p.0 front rest) is tt

part_fits : {A : Type 0} (inside : Place) (b : Before) (front rest : List Line) (spot : Spot) (means : Result (Part A) Reason) → ((thing : A) → means ≡ Ok (Has thing) → FitsLabels inside front rest) → went inside b means ≡ Ok spot → FitsLabels spot.0 front rest
part_fits inside b front rest spot (Err reason) fit e = absurd (cc)
part_fits inside b front rest spot (Ok Ends) fit e = let there : Spot = (Outside, b) in let is : there ≡ spot = cc in subst (λ (p : Spot). FitsLabels p.0 front rest) is tt
part_fits inside b front rest spot (Ok (Has thing)) fit e = let there : Spot = (inside, b) in let is : there ≡ spot = cc in subst (λ (p : Spot). FitsLabels p.0 front rest) is (fit thing refl)

-- the same behind the first of the lines
next_fits : (place : Place) (b : Before) (line : Line) (front rest : List Line) (spot : Spot) → HasRoom (line ∷ front) rest → FitsLabels place (line ∷ front) rest → line.is_ended ≡ true → next place b line (front ++ rest) ≡ Ok spot → FitsLabels spot.0 front rest
next_fits Outside b line front rest spot room fit whole e =
    top_fits b front rest spot (top_line b line)
    (λ vcpu fuel is none.
    let few = room [] line front refl (vcpu_word b (at_space line.text).0 (at_space line.text).1 vcpu fuel (ap (λ v. top_line b (record { text = line.text; is_ended = v })) (sym whole) ∙ is)) none in
    omega (arith, few)) e
next_fits InSession b line front rest spot room fit whole e = part_fits InSession b front rest spot _ (λ thing is. tt) e
next_fits (InOrder k) b line front rest spot room fit whole e = part_fits (InOrder (k + 1)) b front rest spot _ (λ thing is. tt) e
next_fits (InScript before) b line front rest spot room fit whole e =
    part_fits (InScript (before ++ line.text ∷ [])) b front rest spot (script_line before line (front ++ rest))
    (λ l is none.
    let word = (line_instructed before line.text line.is_ended (front ++ rest) l is).word in
    let few = fit (or_from _ _ (no_end line.text word) none) in
    let on : length (before ++ line.text ∷ []) ≡ length before + 1 = length-append before (line.text ∷ []) in
    omega (arith, few, on)) e

less_room : (line : Line) (front rest : List Line) → HasRoom (line ∷ front) rest → HasRoom front rest
less_room line front rest room earlier opens script is word none = room (line ∷ earlier) opens script (ap (λ ls. line ∷ ls) is) word none

-- ---- lines that complete a scenario

-- lines behind some that make a scenario with them
pub record Completes (place : Place) (b : Before) (n : ℕ) (front rest : List Line) : Type 0 where
  pub more : List Line
  pub scene : Scene
  pub read : read_lines place b n (front ++ more) ≡ Ok scene
  pub whole : list_all is_whole (front ++ more) ≡ true
  pub keeps : Keeps place (front ++ rest) (front ++ more)

-- the line that ends a section
abbrev end : Line
end = record { text = codes "end"; is_ended = true }

complete_here : (place : Place) (b : Before) (n : ℕ) (rest : List Line) → FitsLabels place [] rest → Completes place b n [] rest
complete_here Outside b n rest fit = record { more = []; scene = empty_scene; read = refl; whole = refl; keeps = tt }
complete_here InSession b n rest fit = record { more = end ∷ []; scene = with_session empty_scene; read = refl; whole = refl; keeps = tt }
complete_here (InOrder k) b n rest fit = record { more = end ∷ []; scene = with_order empty_scene; read = refl; whole = refl; keeps = tt }
complete_here (InScript before) b n rest fit = let few = fit refl in record { more = rest_lines before rest; scene = _; read = rest_read before b n rest (omega (arith, few)); whole = rest_whole before rest; keeps = rest_keeps before rest }

completes : (front : List Line) (place : Place) (b : Before) (n : ℕ) (rest : List Line) (fault : Fault) → HasRoom front rest → FitsLabels place front rest → feedless (front ++ rest) ≡ true → read_lines place b n (front ++ rest) ≡ Err fault → fault.line ≡ n + length front → Completes place b n front rest
completes [] place b n rest fault room fit h e at = complete_here place b n rest fit
completes (x ∷ front) place b n rest fault room fit h e at =
    let parts = and_parts (no_feed x.text) (feedless (front ++ rest)) h in
    lines_fail place b n x (front ++ rest) fault e _
    (λ fails is. no_line fault.line n front x _ is at)
    (λ spot goes fails.
    let whole = ended_line place b x (front ++ rest) spot goes in
    let then = completes front spot.0 spot.1 (n + 1) rest fault (less_room x front rest room) (next_fits place b x front rest spot room fit whole goes) parts.1 fails (omega (arith, at)) in
    let kept = next_kept place b x (front ++ rest) (front ++ then.more) spot goes then.keeps in
    let read = lines_go place b n x (front ++ then.more) spot then.scene kept.goes then.read in
    record { more = then.more; scene = read.0; read = read.1; whole = and_from _ _ (and_from _ _ whole parts.0) then.whole; keeps = kept.keeps })
  where
    ended_line : (place : Place) (b : Before) (line : Line) (lines : List Line) (spot : Spot) → next place b line lines ≡ Ok spot → line.is_ended ≡ true
    ended_line place b line lines spot e = by_end line.is_ended e
      where
        by_end : (v : Bool) → next place b (record { text = line.text; is_ended = v }) lines ≡ Ok spot → v ≡ true
        by_end true e = refl
        by_end false e = not_ended place b line.text lines spot _ e

-- ---- the scenario

-- whole lines are those of their text
lines_again : (lines : List Line) → list_all is_whole lines ≡ true → lines_of (lines_text lines) ≡ lines
lines_again [] h = refl
lines_again (line ∷ lines) h =
    let parts = and_parts (is_whole line) (list_all is_whole lines) h in
    let both = and_parts line.is_ended (no_feed line.text) parts.0 in
    ap (λ v. lines_of ((line.text ++ cond v (codes "\n") []) ++ lines_text lines)) both.0
    ∙ (ap lines_of (append_assoc line.text (codes "\n") (lines_text lines))
    ∙ (first_line line.text (lines_text lines) both.1
    ∙ ap₂ (λ v (ls : List Line). record { text = line.text; is_ended = v } ∷ ls) (sym both.0) (lines_again lines parts.1)))

-- some scenario begins with the lines before the one that fails
pub begins : (text : List ℕ) (front rest : List Line) (fault : Fault) → lines_of text ≡ front ++ rest → read_scenario text ≡ Err fault → fault.line ≡ 1 + length front → HasRoom front rest → BeginsScenario front
begins text front rest fault is e at room =
    let found = completes front Outside nothing_before 1 rest fault room tt (ap feedless (sym is) ∙ lines_feedless text) (ap (read_lines Outside nothing_before 1) (sym is) ∙ e) at in
    let lines = front ++ found.more in
    let again : lines_of (lines_text lines) ≡ lines = lines_again lines found.whole in
    record {
      text = lines_text lines;
      scene = found.scene;
      is = read_is_scenario (lines_text lines) found.scene (ap (read_lines Outside nothing_before 1) again ∙ found.read);
      begins = ap (take (length front)) again ∙ take_at front found.more (length front) refl;
    }
