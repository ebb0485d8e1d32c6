-- The line that a refusal names is the lowest with which no scenario goes on.
use Rattle.std.proofs.Common.{◌≡◌, ℕ, zero, suc, ◌+◌, ◌<◌, ◌||◌, not, nat_lt, Bool, true, false, cond, List, [], ◌∷◌, ◌++◌, length, take, drop, codes, Option, None, Some, Result, Ok, Err, refl, sym, ◌∙◌, ap, ap₂, subst, append_assoc, arith}
use Rattle.std.specs.Str.{bytes_eq}
use Rattle.std.proofs.lemmas.Bool.{cond-true, cond-false, lt-ltb}
use Rattle.std.proofs.lemmas.List.{drop_at}
use Rattle.std.proofs.lemmas.List.Elements.{filter_map-append}
use Rattle.chv_defs_base.specs.declared.rule.Reason.{Reason}
use Rattle.chv_defs_base.specs.declared.rule.Reason.TheVariants.{LabelTwice, UnknownLabel, TooMany}
use Rattle.chv_defs_scene.specs.declared.scene.Line.{Line as Instruction}
use Rattle.chv_defs_scene.specs.declared.scene.Scene.{Scene}
use Rattle.chv_defs_scene.specs.ScenarioLines.{Line, lines_of, at_space, Part, Has, Ends, end_line, at_most, most_lines, instructed, script_lines, script_word, script_line, Before, nothing_before}
use Rattle.chv_defs_scene.specs.ScenarioText.{Fault, Place, Outside, InScript, InSession, InOrder, read_lines, read_scenario, IsScenario}
use Rattle.chv_defs_scene.specs.ScriptReading.{fields_of, label_in, labels_of, has_label, target, own_label, is_there, is_missing, label_fault, unless, line_of, line_between}
use Rattle.chv_script.proofs.FieldLemmas.{not_is}
use Rattle.chv_script.proofs.ShapeLemmas.{bind_goes}
use Rattle.chv_script.proofs.InstructionLemmas.{line_again}
use Rattle.chv_scene.specs.Refusals.{LacksLabel, OnlyLacksLabel}
use Rattle.chv_scene.proofs.ScriptLemmas.{at_most_is, chosen_end, IsInstructed, line_instructed}
use Rattle.chv_scene.proofs.WholeLemmas.{scenario_is_read}
use Rattle.chv_scene.proofs.NextLemmas.{Spot, went, next, read_at, lines_fail, lines_read_on, lines_split}
use Rattle.chv_scene.proofs.LabelsLeft.{labels_among}

-- ---- what a line of a script means before other lines

-- a line that ends the section ends it before any lines
pub ends_too : (before : List (List ℕ)) (text : List ℕ) (lines others : List Line) → script_line before (record { text = text; is_ended = true }) lines ≡ Ok Ends → script_line before (record { text = text; is_ended = true }) others ≡ Ok Ends
ends_too before text lines others e =
    let found = at_most_is most_lines (length before) (script_word before text (script_lines lines) (at_space text).0 (at_space text).1) Ends e in
    let is = chosen_end (bytes_eq (at_space text).0 (codes "end")) (at_space text).1 (line_between before text (script_lines lines)) found.0 in
    ap (at_most most_lines (length before)) (cond-true (bytes_eq (at_space text).0 (codes "end")) (end_line (at_space text).1) (instructed (line_between before text (script_lines others))) is.0 ∙ ap end_line is.1)

-- where the line behind it stands, by its word
script_spot : (before : List (List ℕ)) (b : Before) (text : List ℕ) (lines : List Line) (spot : Spot) (means : Result (Part Instruction) Reason) → script_line before (record { text = text; is_ended = true }) lines ≡ means → went (InScript (before ++ text ∷ [])) b means ≡ Ok spot → (let out : Spot = (Outside, b) in let inside : Spot = (InScript (before ++ text ∷ []), b) in cond (bytes_eq (at_space text).0 (codes "end")) out inside) ≡ spot
script_spot before b text lines spot (Err reason) m e = absurd (cc)
script_spot before b text lines spot (Ok Ends) m e =
    let out : Spot = (Outside, b) in
    let inside : Spot = (InScript (before ++ text ∷ []), b) in
    let is : out ≡ spot = cc in
    let found = at_most_is most_lines (length before) (script_word before text (script_lines lines) (at_space text).0 (at_space text).1) Ends m in
    let ended = chosen_end (bytes_eq (at_space text).0 (codes "end")) (at_space text).1 (line_between before text (script_lines lines)) found.0 in
    cond-true (bytes_eq (at_space text).0 (codes "end")) out inside ended.0 ∙ is
script_spot before b text lines spot (Ok (Has l)) m e =
    let out : Spot = (Outside, b) in
    let inside : Spot = (InScript (before ++ text ∷ []), b) in
    let is : inside ≡ spot = cc in
    cond-false (bytes_eq (at_space text).0 (codes "end")) out inside (line_instructed before text true lines l m).word ∙ is

-- a line that has no line feed fails
pub unended : (before : List (List ℕ)) (b : Before) (text : List ℕ) (lines : List Line) (spot : Spot) (G : Type 0) → next (InScript before) b (record { text = text; is_ended = false }) lines ≡ Ok spot → G
unended before b text lines spot G e = absurd (cc)

-- where a line is read before lines and before others, the line behind it stands at one place
next_same : (place : Place) (b : Before) (line : Line) (lines others : List Line) (spot other : Spot) → next place b line lines ≡ Ok spot → next place b line others ≡ Ok other → spot ≡ other
next_same Outside b line lines others spot other e h = cc
next_same InSession b line lines others spot other e h = cc
next_same (InOrder k) b line lines others spot other e h = cc
next_same (InScript before) b line lines others spot other e h = by_end line.is_ended e h
  where
    by_end : (v : Bool) → next (InScript before) b (record { text = line.text; is_ended = v }) lines ≡ Ok spot → next (InScript before) b (record { text = line.text; is_ended = v }) others ≡ Ok other → spot ≡ other
    by_end true e h = sym (script_spot before b line.text lines spot _ refl e) ∙ script_spot before b line.text others other _ refl h
    by_end false e h = unended before b line.text lines spot _ e

-- ---- a jump that lacks its label

labels_behind : (before : List (List ℕ)) (text : List ℕ) (behind : List (List ℕ)) (name : List ℕ) → has_label (labels_of (before ++ text ∷ behind)) name ≡ (has_label (labels_of (before ++ text ∷ [])) name || has_label (labels_of behind) name)
labels_behind before text behind name =
    ap (λ ls. has_label (labels_of ls) name) (sym (append_assoc before (text ∷ []) behind))
    ∙ (ap (λ labels. has_label labels name) (filter_map-append (λ t. label_in (fields_of t)) (before ++ text ∷ []) behind)
    ∙ labels_among (labels_of (before ++ text ∷ [])) (labels_of behind) name)

neither : (v w : Bool) → (v || w) ≡ false → (v ≡ false) × (w ≡ false)
neither true w e = absurd (cc)
neither false w e = (refl, e)

the_other : (v w : Bool) → v ≡ false → (v || w) ≡ true → w ≡ true
the_other true w h e = absurd (cc)
the_other false w h e = e

pub not_not : (v : Bool) → not v ≡ false → v ≡ true
not_not true h = refl
not_not false h = absurd (cc)

missing_is : (labels others : List (List ℕ)) (to : Option (List ℕ)) → is_missing labels to ≡ true → is_missing others to ≡ false → (name : List ℕ) × (to ≡ Some name) × (has_label labels name ≡ false) × (has_label others name ≡ true)
missing_is labels others None m h = absurd (cc)
missing_is labels others (Some name) m h = (name, refl, not_is _ m, not_not _ h)

unknown_is : (v w : Bool) (l : Instruction) (reason : Reason) → v ≡ false → unless (cond v (Some LabelTwice) (cond w (Some UnknownLabel) None)) l ≡ Err reason → (w ≡ true) × (reason ≡ UnknownLabel)
unknown_is true w l reason h e = absurd (cc)
unknown_is false true l reason h e = (refl, (cc))
unknown_is false false l reason h e = absurd (cc)

has_room : {A : Type 0} (most before : ℕ) (means : Result (Part A) Reason) (reason : Reason) → before < most → at_most most before means ≡ Err reason → means ≡ Err reason
has_room most before (Err reason') reason less e = e
has_room most before (Ok Ends) reason less e = absurd (cc)
has_room most before (Ok (Has thing)) reason less e = let both : Ok (Has thing) ≡ Err reason = sym (cond-true (nat_lt before most) (Ok (Has thing)) (Err TooMany) (lt-ltb before most less)) ∙ e in absurd (cc)

instructed_fails : (found : Result Instruction Reason) (reason : Reason) → instructed found ≡ Err reason → found ≡ Err reason
instructed_fails (Ok l) reason e = absurd (cc)
instructed_fails (Err other) reason e = let is : other ≡ reason = cc in ap Err is

-- an instruction before some lines that fails before others lacks its label there
lacks_label : (before : List (List ℕ)) (text : List ℕ) (lines others : List Line) (reason : Reason) (l : Instruction) → IsInstructed before (record { text = text; is_ended = true }) others l → script_line before (record { text = text; is_ended = true }) lines ≡ Err reason → (reason ≡ UnknownLabel) × LacksLabel (record { text = text; is_ended = true }) lines others
lacks_label before text lines others reason l is e =
    let read = is.is in
    let all = labels_of (before ++ text ∷ script_lines lines) in
    let word = has_room most_lines (length before) (script_word before text (script_lines lines) (at_space text).0 (at_space text).1) reason is.room e in
    let fails = instructed_fails (line_between before text (script_lines lines)) reason (sym (cond-false (bytes_eq (at_space text).0 (codes "end")) (end_line (at_space text).1) (instructed (line_between before text (script_lines lines))) is.word) ∙ word) in
    let labels = sym (bind_goes (line_of text) (λ m. unless (label_fault (labels_of before) all m) m) l (ap line_of read.spelled ∙ line_again l read.fine)) ∙ fails in
    let unknown = unknown_is (is_there (labels_of before) (own_label l)) (is_missing all (target l)) l reason read.once labels in
    let found = missing_is all (labels_of (before ++ text ∷ script_lines others)) (target l) unknown.0 read.known in
    let name = found.0 in
    let none = neither (has_label (labels_of (before ++ text ∷ [])) name) (has_label (labels_of (script_lines lines)) name) (sym (labels_behind before text (script_lines lines) name) ∙ found.2) in (
      unknown.1,
      record {
        jump = l;
        name = name;
        spelled = ap (λ t. record { text = t; is_ended = true }) read.spelled;
        goes = found.1;
        missing = none.1;
        there = the_other (has_label (labels_of (before ++ text ∷ [])) name) (has_label (labels_of (script_lines others)) name) none.0 (sym (labels_behind before text (script_lines others) name) ∙ found.3);
      },
    )

went_fails : {A : Type 0} (place : Place) (b : Before) (means : Result (Part A) Reason) (reason : Reason) → went place b means ≡ Err reason → means ≡ Err reason
went_fails place b (Err other) reason e = let is : other ≡ reason = cc in ap Err is
went_fails place b (Ok Ends) reason e = absurd (cc)
went_fails place b (Ok (Has thing)) reason e = absurd (cc)

-- the same at any place
next_differs : (place : Place) (b : Before) (line : Line) (lines others : List Line) (reason : Reason) (spot : Spot) → next place b line lines ≡ Err reason → next place b line others ≡ Ok spot → (reason ≡ UnknownLabel) × LacksLabel line lines others
next_differs Outside b line lines others reason spot e h = let both : Err reason ≡ Ok spot = sym e ∙ h in absurd (cc)
next_differs InSession b line lines others reason spot e h = let both : Err reason ≡ Ok spot = sym e ∙ h in absurd (cc)
next_differs (InOrder k) b line lines others reason spot e h = let both : Err reason ≡ Ok spot = sym e ∙ h in absurd (cc)
next_differs (InScript before) b line lines others reason spot e h = by_end line.is_ended e h
  where
    by_means : (means : Result (Part Instruction) Reason) → script_line before (record { text = line.text; is_ended = true }) others ≡ means → went (InScript (before ++ line.text ∷ [])) b means ≡ Ok spot → script_line before (record { text = line.text; is_ended = true }) lines ≡ Err reason → (reason ≡ UnknownLabel) × LacksLabel (record { text = line.text; is_ended = true }) lines others
    by_means (Err other) m h e = absurd (cc)
    by_means (Ok Ends) m h e = let both : Err reason ≡ Ok Ends = sym e ∙ ends_too before line.text others lines m in absurd (cc)
    by_means (Ok (Has l)) m h e = lacks_label before line.text lines others reason l (line_instructed before line.text true others l m) e

    by_end : (v : Bool) → next (InScript before) b (record { text = line.text; is_ended = v }) lines ≡ Err reason → next (InScript before) b (record { text = line.text; is_ended = v }) others ≡ Ok spot → (reason ≡ UnknownLabel) × LacksLabel (record { text = line.text; is_ended = v }) lines others
    by_end true e h = by_means _ refl h (went_fails (InScript (before ++ line.text ∷ [])) b (script_line before (record { text = line.text; is_ended = true }) lines) reason e)
    by_end false e h = unended before b line.text others spot _ h

-- ---- no scenario goes on with the line

-- the line that fails, which is read before other lines
pub record Differs (reason : Reason) (rest others : List Line) : Type 0 where
  pub line : Line
  pub behind : List Line
  pub other : List Line
  pub rest_is : rest ≡ line ∷ behind
  pub others_are : others ≡ line ∷ other
  pub reason_is : reason ≡ UnknownLabel
  pub lacks : LacksLabel line behind other

pub no_line : (n m : ℕ) (front : List Line) (line : Line) (G : Type 0) → n ≡ m → n ≡ m + length (line ∷ front) → G
no_line n m front line G e h = absurd (omega (arith, e, h))

heads : (x y : Line) (xs ys : List Line) → x ∷ xs ≡ y ∷ ys → x ≡ y
heads x y xs ys e = cc

differs_here : (place : Place) (b : Before) (n : ℕ) (rest others : List Line) (fault : Fault) (s : Scene) → read_lines place b n rest ≡ Err fault → fault.line ≡ n → read_lines place b n others ≡ Ok s → take 1 others ≡ take 1 rest → Differs fault.reason rest others
differs_here place b n [] [] fault s e at h begins = let both : Err fault ≡ Ok s = sym e ∙ h in absurd (cc)
differs_here place b n [] (y ∷ others) fault s e at h begins = absurd (cc)
differs_here place b n (x ∷ rest) [] fault s e at h begins = absurd (cc)
differs_here place b n (x ∷ rest) (y ∷ others) fault s e at h begins =
    let same : y ≡ x = heads y x [] [] begins in
    let on = lines_read_on place b n x others s (ap (λ l. read_lines place b n (l ∷ others)) (sym same) ∙ h) in
    lines_fail place b n x rest fault e _
    (λ fails is.
    let found = next_differs place b x rest others fault.reason on.0 fails on.2 in
    record { line = x; behind = rest; other = others; rest_is = refl; others_are = ap (λ l. l ∷ others) same; reason_is = found.0; lacks = found.1 })
    (λ spot goes fails. let later = lines_split spot.0 spot.1 (n + 1) rest fault fails in absurd (omega (arith, at, later.3)))

pub differs : (front : List Line) (place : Place) (b : Before) (n : ℕ) (rest others : List Line) (fault : Fault) (s : Scene) → read_lines place b n (front ++ rest) ≡ Err fault → fault.line ≡ n + length front → read_lines place b n (front ++ others) ≡ Ok s → take 1 others ≡ take 1 rest → Differs fault.reason rest others
differs [] place b n rest others fault s e at h begins = differs_here place b n rest others fault s e (omega (arith, at)) h begins
differs (x ∷ front) place b n rest others fault s e at h begins =
    let on = lines_read_on place b n x (front ++ others) s h in
    lines_fail place b n x (front ++ rest) fault e _
    (λ fails is. no_line fault.line n front x _ is at)
    (λ spot goes fails.
    let same = next_same place b x (front ++ rest) (front ++ others) spot on.0 goes on.2 in
    differs front spot.0 spot.1 (n + 1) rest others fault on.1 fails (omega (arith, at)) (ap (read_at (n + 1) (front ++ others)) same ∙ on.3) begins)

-- lines that share their first lines with others, one more than these
shared : (front rest others : List Line) (n : ℕ) → n ≡ length front + 1 → take n others ≡ take n (front ++ rest) → (behind : List Line) × (others ≡ front ++ behind) × (take 1 behind ≡ take 1 rest)
shared [] rest others n at e = let one : n ≡ 1 = omega (arith, at) in (others, refl, subst (λ k. take k others ≡ take k rest) one e)
shared (x ∷ front) rest others zero at e = absurd (omega (arith, at))
shared (x ∷ front) rest [] (suc n) at e = absurd (cc)
shared (x ∷ front) rest (y ∷ others) (suc n) at e =
    let found = shared front rest others n (omega (arith, at)) (tails y x (take n others) (take n (front ++ rest)) e) in
    (found.0, ap₂ (λ l (ls : List Line). l ∷ ls) (heads y x (take n others) (take n (front ++ rest)) e) found.1, found.2)
  where
    tails : (x y : Line) (xs ys : List Line) → x ∷ xs ≡ y ∷ ys → xs ≡ ys
    tails x y xs ys e = cc

-- no scenario has the lines up to the one that fails, unless a jump lacks its label
pub none_goes_on : (text : List ℕ) (front rest : List Line) (fault : Fault) → lines_of text ≡ front ++ rest → read_scenario text ≡ Err fault → fault.line ≡ 1 + length front → (other : List ℕ) (scene : Scene) → IsScenario other scene → take fault.line (lines_of other) ≡ take fault.line (lines_of text) → OnlyLacksLabel fault.reason (length front) (lines_of text) (lines_of other)
none_goes_on text front rest fault is e at other scene taken begins =
    let same = shared front rest (lines_of other) fault.line (omega (arith, at)) (begins ∙ ap (take fault.line) is) in
    let found = differs front Outside nothing_before 1 rest same.0 fault scene (ap (read_lines Outside nothing_before 1) (sym is) ∙ e) at (ap (read_lines Outside nothing_before 1) (sym same.1) ∙ scenario_is_read other scene taken) same.2 in
    record {
      reason_is = found.reason_is;
      line = found.line;
      behind = found.behind;
      others = found.other;
      refused = ap (drop (length front)) is ∙ (drop_at front rest (length front) refl ∙ found.rest_is);
      taken = ap (drop (length front)) same.1 ∙ (drop_at front same.0 (length front) refl ∙ found.others_are);
      lacks = found.lacks;
    }
