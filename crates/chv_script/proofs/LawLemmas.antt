-- The laws of scripts.
use Rattle.std.proofs.Common.{◌≡◌, ℕ, ◌+◌, ◌≤◌, List, [], ◌∷◌, ◌++◌, length, take, drop, map, flat_map, codes, Result, Ok, Err, IfOk, IfErr, refl, sym, ◌∙◌, ap, subst, append_assoc, length-append, arith}
use Rattle.std.proofs.lemmas.List.{take-append-drop, take_at, append-nil}
use Rattle.chv_defs_base.specs.declared.rule.Reason.{Reason}
use Rattle.chv_defs_scene.specs.declared.scene.Line.{Line}
use Rattle.chv_defs_scene.specs.declared.scene.Script.{Script}
use Rattle.chv_defs_scene.specs.ScriptText.{line_text}
use Rattle.chv_defs_scene.specs.ScriptReading.{◌>>=◌, labels_of, unless, line_of, line_between, Fault, at_line, read_behind, read_script}
use Rattle.chv_script.specs.Labels.{SameLabels}
use Rattle.chv_script.specs.Reads.{answer_of}
use Rattle.chv_script.specs.declared.reading.ScriptFault.{ScriptFault}
use Rattle.chv_script.specs.Laws.{text_of, IsReadBack, OneSpelling, IsFirstFault, NamesFirstFault, NoScriptBegins}
use Rattle.chv_script.proofs.LabelLemmas.{fault_same}
use Rattle.chv_script.proofs.StepLemmas.{next_same}
use Rattle.chv_script.proofs.GrammarLemmas.{first_read, read_line, read_is_script, script_is_read}

-- ---- one spelling

texts_are : (script : List Line) → flat_map (λ l. line_text l ++ codes "\n") script ≡ text_of (map line_text script)
texts_are [] = refl
texts_are (l ∷ script) = ap (λ rest. (line_text l ++ codes "\n") ++ rest) (texts_are script)

pub read_back : (script : Script) → IsReadBack script
read_back script lines e =
    let is = read_is_script lines script.lines e in
    (texts_are script.lines ∙ ap text_of (sym is.spelled), ap read_script (sym is.spelled) ∙ e)

pub one_spelling : OneSpelling
one_spelling lines others script e f = (read_is_script lines script e).spelled ∙ sym (read_is_script others script f).spelled

-- ---- the first line that fails

-- what failed of two steps
bind_err : {A B E : Type 0} (r : Result A E) (f : A → Result B E) (e : E) → (r >>= f) ≡ Err e → (G : Type 0) → (r ≡ Err e → G) → ((x : A) → r ≡ Ok x → f x ≡ Err e → G) → G
bind_err (Ok x) f e h G first next = next x refl h
bind_err (Err d) f e h G first next = let same : d ≡ e = cc in first (ap Err same)

at_line_err : {A : Type 0} (n : ℕ) (r : Result A Reason) (fault : Fault) → at_line n r ≡ Err fault → (fault.line ≡ n) × (r ≡ Err fault.reason)
at_line_err n (Ok x) fault e = absurd (cc)
at_line_err n (Err reason) fault e = let is : record { line = n; reason = reason } ≡ fault = cc in (sym (ap (λ (f : Fault). f.line) is), ap (λ (f : Fault). Err f.reason) is)

at_line_ok : {A : Type 0} (n : ℕ) (r : Result A Reason) (x : A) → at_line n r ≡ Ok x → r ≡ Ok x
at_line_ok n (Ok y) x e = let is : y ≡ x = cc in ap Ok is
at_line_ok n (Err reason) x e = absurd (cc)

-- the same behind lines that were passed
record FailsBehind (before lines : List (List ℕ)) (fault : Fault) : Type 0 where
  pub front : List (List ℕ)
  pub text : List ℕ
  pub behind : List (List ℕ)
  pub whole : lines ≡ front ++ text ∷ behind
  pub line : fault.line ≡ length before + length front + 1
  pub fails : line_between (before ++ front) text behind ≡ Err fault.reason
  pub lower : (earlier : List (List ℕ)) (passed : List ℕ) (later : List (List ℕ)) → front ≡ earlier ++ passed ∷ later → (l : Line) × (line_between (before ++ earlier) passed (later ++ text ∷ behind) ≡ Ok l)

-- the first of the lines fails
fails_here : (before : List (List ℕ)) (text : List ℕ) (lines : List (List ℕ)) (fault : Fault) → fault.line ≡ length before + 1 → line_between before text lines ≡ Err fault.reason → FailsBehind before (text ∷ lines) fault
fails_here before text lines fault n e = record {
  front = [];
  text = text;
  behind = lines;
  whole = refl;
  line = omega (arith, n);
  fails = ap (λ b. line_between b text lines) (append-nil before) ∙ e;
  lower = λ earlier passed later is. absurd (no_line earlier passed later is);
}
  where
    no_line : (earlier : List (List ℕ)) (passed : List ℕ) (later : List (List ℕ)) → [] ≡ earlier ++ passed ∷ later → ⊥
    no_line [] passed later is = cc
    no_line (x ∷ earlier) passed later is = cc

-- one of the others does
fails_later : (before : List (List ℕ)) (text : List ℕ) (lines : List (List ℕ)) (fault : Fault) (l : Line) → line_between before text lines ≡ Ok l → FailsBehind (before ++ text ∷ []) lines fault → FailsBehind before (text ∷ lines) fault
fails_later before text lines fault l is rest = record {
  front = text ∷ rest.front;
  text = rest.text;
  behind = rest.behind;
  whole = ap (λ ls. text ∷ ls) rest.whole;
  line = omega (arith, rest.line, length-append before (text ∷ []));
  fails = ap (λ b. line_between b rest.text rest.behind) (sym (append_assoc before (text ∷ []) rest.front)) ∙ rest.fails;
  lower = lower;
}
  where
    lower : (earlier : List (List ℕ)) (passed : List ℕ) (later : List (List ℕ)) → text ∷ rest.front ≡ earlier ++ passed ∷ later → (m : Line) × (line_between (before ++ earlier) passed (later ++ rest.text ∷ rest.behind) ≡ Ok m)
    lower [] passed later same =
        let this : text ≡ passed = cc in
        let those : rest.front ≡ later = cc in
        (l, ap (λ b. line_between b passed (later ++ rest.text ∷ rest.behind)) (append-nil before) ∙ (ap (λ t. line_between before t (later ++ rest.text ∷ rest.behind)) (sym this) ∙ (ap (line_between before text) (ap (λ ls. ls ++ rest.text ∷ rest.behind) (sym those) ∙ sym rest.whole) ∙ is)))
    lower (x ∷ earlier) passed later same =
        let this : text ≡ x = cc in
        let those : rest.front ≡ earlier ++ passed ∷ later = cc in
        let found = rest.lower earlier passed later those in
        (found.0, ap (λ b. line_between b passed (later ++ rest.text ∷ rest.behind)) (ap (λ t. before ++ t ∷ earlier) (sym this) ∙ sym (append_assoc before (text ∷ []) earlier)) ∙ found.1)

fails_behind : (before lines : List (List ℕ)) (fault : Fault) → read_behind before lines ≡ Err fault → FailsBehind before lines fault
unfolding read_behind
fails_behind before [] fault e = absurd (cc)
fails_behind before (text ∷ lines) fault e =
    bind_err (at_line (length before + 1) (line_between before text lines)) (λ l. read_behind (before ++ text ∷ []) lines >>= λ rest. Ok (l ∷ rest)) fault e (FailsBehind before (text ∷ lines) fault)
    (λ h. let found = at_line_err (length before + 1) (line_between before text lines) fault h in fails_here before text lines fault found.0 found.1)
    (λ l h g. bind_err (read_behind (before ++ text ∷ []) lines) (λ rest. Ok (l ∷ rest)) fault g (FailsBehind before (text ∷ lines) fault)
    (λ k. fails_later before text lines fault l (at_line_ok (length before + 1) (line_between before text lines) l h) (fails_behind (before ++ text ∷ []) lines fault k))
    (λ rest k j. absurd (cc)))

pub names_first : NamesFirstFault
names_first lines fault e =
    let found = fails_behind [] lines fault e in
    record {
      front = found.front;
      text = found.text;
      behind = found.behind;
      whole = found.whole;
      line = omega (arith, found.line);
      fails = found.fails;
      lower = found.lower;
    }

-- ---- no script begins so

-- each line of lines that are read is an instruction
each_read : (before front : List (List ℕ)) (text : List ℕ) (behind : List (List ℕ)) (script : List Line) → read_behind before (front ++ text ∷ behind) ≡ Ok script → (l : Line) × (line_between (before ++ front) text behind ≡ Ok l)
each_read before [] text behind script e =
    let found = first_read before text behind script e in
    (found.first, ap (λ b. line_between b text behind) (append-nil before) ∙ read_line before text behind found.first found.is)
each_read before (x ∷ front) text behind script e =
    let found = first_read before x (front ++ text ∷ behind) script e in
    let rest = each_read (before ++ x ∷ []) front text behind found.rest found.others in
    (rest.0, ap (λ b. line_between b text behind) (sym (append_assoc before (x ∷ []) front)) ∙ rest.1)

-- a line means the same where the labels are the same
between_same : (front : List (List ℕ)) (text : List ℕ) (behind others : List (List ℕ)) → SameLabels (labels_of (front ++ text ∷ behind)) (labels_of (front ++ text ∷ others)) → line_between front text behind ≡ line_between front text others
between_same front text behind others same =
    next_same (line_of text) _ _ (λ l. ap (λ fault. unless fault l) (fault_same (labels_of front) (labels_of front) (labels_of (front ++ text ∷ behind)) (labels_of (front ++ text ∷ others)) (λ name. refl) same l))

pub no_script : NoScriptBegins
no_script lines fault e others script is same begins =
    let first = names_first lines fault e in
    let front = first.front in
    let rest = drop fault.line others in
    let counted : length (front ++ first.text ∷ []) ≡ fault.line = omega (arith, first.line, length-append front (first.text ∷ [])) in
    let regrouped : (front ++ first.text ∷ []) ++ first.behind ≡ lines = append_assoc front (first.text ∷ []) first.behind ∙ sym first.whole in
    let beginning : take fault.line lines ≡ front ++ first.text ∷ [] = ap (take fault.line) (sym regrouped) ∙ take_at (front ++ first.text ∷ []) first.behind fault.line counted in
    let whole : others ≡ front ++ first.text ∷ rest = sym (take-append-drop fault.line others) ∙ (ap (λ ls. ls ++ rest) (begins ∙ beginning) ∙ append_assoc front (first.text ∷ []) rest) in
    let found = each_read [] front first.text rest script (ap read_script (sym whole) ∙ script_is_read others script is) in
    let labels : SameLabels (labels_of (front ++ first.text ∷ rest)) (labels_of (front ++ first.text ∷ first.behind)) = subst (λ ls. SameLabels (labels_of ls) (labels_of (front ++ first.text ∷ first.behind))) whole (subst (λ ls. SameLabels (labels_of others) (labels_of ls)) first.whole same) in
    let both : Ok found.0 ≡ Err fault.reason = sym found.1 ∙ (between_same front first.text rest first.behind labels ∙ first.fails) in
    cc

-- ---- the line of an answer

-- a refusal names one of the lines
line_there : (lines : List (List ℕ)) (fault : Fault) → IsFirstFault lines fault → (1 ≤ fault.line) × (fault.line ≤ length lines)
line_there lines fault is =
    let counted : length lines ≡ length is.front + length (is.text ∷ is.behind) = ap length is.whole ∙ length-append is.front (is.text ∷ is.behind) in
    (omega (arith, is.line), omega (arith, is.line, counted))

line_of_answer : (lines : List (List ℕ)) (read : Result (List Line) Fault) → read_script lines ≡ read → IfErr (answer_of read) (λ fault. (1 ≤ fault.line) × (fault.line ≤ length lines))
line_of_answer lines (Ok script) e = tt
line_of_answer lines (Err fault) e = line_there lines fault (names_first lines fault e)

answer_line : (lines : List (List ℕ)) (answer : Result Script ScriptFault) → answer ≡ answer_of (read_script lines) → IfErr answer (λ fault. (1 ≤ fault.line) × (fault.line ≤ length lines))
answer_line lines answer e = subst (λ a. IfErr a (λ fault. (1 ≤ fault.line) × (fault.line ≤ length lines))) (sym e) (line_of_answer lines (read_script lines) refl)

-- the same of a call that may want memory
pub call_line : {E : Type 0} (lines : List (List ℕ)) (call : Result (Result Script ScriptFault) E) → IfOk call (λ answer. answer ≡ answer_of (read_script lines)) → IfOk call (λ answer. IfErr answer (λ fault. (1 ≤ fault.line) × (fault.line ≤ length lines)))
call_line lines (Ok answer) e = answer_line lines answer e
call_line lines (Err x) e = tt
