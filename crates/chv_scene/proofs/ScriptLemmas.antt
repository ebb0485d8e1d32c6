-- The lines of a vCPU's section.
use Rattle.std.proofs.Common.{◌≡◌, ℕ, ◌<◌, ◌==◌, nat_lt, Bool, true, false, cond, List, [], ◌∷◌, ◌++◌, length, map, codes, Option, None, Some, Result, Ok, Err, refl, sym, ◌∙◌, ap, ap₂, subst, append_assoc}
use Rattle.std.specs.List.{onto_first}
use Rattle.std.specs.Str.{bytes_eq}
use Rattle.std.proofs.lemmas.Bool.{cond-true, cond-false, ltb-true}
use Rattle.std.proofs.lemmas.List.{length-map}
use Rattle.std.proofs.lemmas.Slice.Eq.{bytes_eq-Decides}
use Rattle.chv_defs_base.specs.declared.rule.Reason.{Reason}
use Rattle.chv_defs_base.specs.declared.rule.Reason.TheVariants.{TooMany, UnknownWord}
use Rattle.chv_defs_scene.specs.declared.scene.Line.{Line as Instruction}
use Rattle.chv_defs_scene.specs.ScenarioLines.{Line, at_space, Part, Has, Ends, end_line, at_most, most_lines, is_end, script_lines, instructed, script_word, script_line}
use Rattle.chv_defs_scene.specs.ScriptReading.{fields_of, line_of, by_fields, line_between, labels_of}
use Rattle.chv_defs_scene.specs.ScriptText.{line_text}
use Rattle.chv_script.specs.Fields.{fields_behind}
use Rattle.chv_script.specs.Labels.{SameLabels}
use Rattle.chv_script.specs.Steps.{checked}
use Rattle.chv_script.proofs.StepLemmas.{between}
use Rattle.chv_script.proofs.LabelLemmas.{same_next}
use Rattle.chv_script.proofs.GrammarLemmas.{IsRead, line_read}
use Rattle.chv_scene.specs.declared.script.OpenScript.{OpenScript}
use Rattle.chv_scene.proofs.SpellingLemmas.{joined, with_feed, at_space_joined}
use Rattle.chv_scene.specs.Scripts.{checked_word, script_part, spelled, FitsScript}

-- ---- a word that ends a section

-- of a line that is one word, the first field is that word
pub end_has_word : (text : List ℕ) → bytes_eq text (codes "end") ≡ true → bytes_eq (at_space text).0 (codes "end") ≡ true
end_has_word text h = subst (λ t. bytes_eq (at_space t).0 (codes "end") ≡ true) (sym ((bytes_eq-Decides text (codes "end")).0 h)) refl

not_true : (v w : Bool) → v ≡ false → (w ≡ true → v ≡ true) → w ≡ false
not_true v false h g = refl
not_true v true h g = let both : true ≡ false = sym (g refl) ∙ h in absurd (cc)

-- a line whose word does not end a section does not end it
pub no_end : (text : List ℕ) → bytes_eq (at_space text).0 (codes "end") ≡ false → bytes_eq text (codes "end") ≡ false
no_end text h = not_true (bytes_eq (at_space text).0 (codes "end")) (bytes_eq text (codes "end")) h (end_has_word text)

fields_byte : (v : Bool) (b : ℕ) (bytes : List ℕ) (parts : List ℕ × Option (List ℕ)) → fields_of bytes ≡ parts.0 ∷ fields_behind parts.1 → let more : List ℕ × Option (List ℕ) = cond v ([], Some bytes) (b ∷ parts.0, parts.1) in cond v ([] ∷ fields_of bytes) (onto_first b (fields_of bytes)) ≡ more.0 ∷ fields_behind more.1
fields_byte true b bytes parts h = refl
fields_byte false b bytes parts h = ap (onto_first b) h

-- the first field of a line is what stands before its first space
pub first_of_fields : (text : List ℕ) → fields_of text ≡ (at_space text).0 ∷ fields_behind (at_space text).1
first_of_fields [] = refl
first_of_fields (b ∷ bytes) = fields_byte (b == 32) b bytes (at_space bytes) (first_of_fields bytes)

end_refused : (fields : List (List ℕ)) → by_fields (codes "end" ∷ fields) ≡ Err UnknownWord
end_refused fields = refl

word_refused : (text : List ℕ) → bytes_eq (at_space text).0 (codes "end") ≡ true → line_of text ≡ Err UnknownWord
word_refused text h =
    ap by_fields (first_of_fields text)
    ∙ (ap (λ word. by_fields (word ∷ fields_behind (at_space text).1)) ((bytes_eq-Decides (at_space text).0 (codes "end")).0 h)
    ∙ end_refused (fields_behind (at_space text).1))

by_cases : (v : Bool) → (v ≡ true → ⊥) → v ≡ false
by_cases true h = absurd (h refl)
by_cases false h = refl

-- an instruction's word does not end a section
pub instruction_no_end : (text : List ℕ) (l : Instruction) → line_of text ≡ Ok l → bytes_eq (at_space text).0 (codes "end") ≡ false
instruction_no_end text l e =
    by_cases (bytes_eq (at_space text).0 (codes "end")) (λ h. let both : Ok l ≡ Err UnknownWord = sym e ∙ word_refused text h in cc)

-- ---- so many lines

-- whether a line may stand behind so many others
abbrev pub Room : {A : Type 0} → ℕ → ℕ → Part A → Type 0
Room most before (Has thing) = before < most
Room most before Ends = Unit {0}

has_room : {A : Type 0} (v : Bool) (most before : ℕ) (thing : A) (p : Part A) → (v ≡ true → before < most) → cond v (Ok (Has thing)) (Err TooMany) ≡ Ok p → (Has thing ≡ p) × Room most before p
has_room true most before thing p less e = let is : Has thing ≡ p = cc in (is, subst (Room most before) is (less refl))
has_room false most before thing p less e = absurd (cc)

pub at_most_is : {A : Type 0} (most before : ℕ) (means : Result (Part A) Reason) (p : Part A) → at_most most before means ≡ Ok p → (means ≡ Ok p) × Room most before p
at_most_is most before (Ok (Has thing)) p e =
    let found = has_room (nat_lt before most) most before thing p (ltb-true before most) e in
    (ap Ok found.0, found.1)
at_most_is most before (Ok Ends) p e = let is : Ends ≡ p = cc in (ap Ok is, subst (Room most before) is tt)
at_most_is most before (Err reason) p e = absurd (cc)

-- ---- an instruction in a section

instructed_is : (found : Result Instruction Reason) (l : Instruction) → instructed found ≡ Ok (Has l) → found ≡ Ok l
instructed_is (Ok m) l e = let is : m ≡ l = cc in ap Ok is
instructed_is (Err reason) l e = absurd (cc)

instructed_ends : (found : Result Instruction Reason) (G : Type 0) → instructed found ≡ Ok Ends → G
instructed_ends (Ok m) G e = absurd (cc)
instructed_ends (Err reason) G e = absurd (cc)

end_no_thing : {A : Type 0} (fields : Option (List ℕ)) (thing : A) (G : Type 0) → end_line fields ≡ Ok (Has thing) → G
end_no_thing None thing G e = absurd (cc)
end_no_thing (Some fields) thing G e = absurd (cc)

chosen_word : (v : Bool) (fields : Option (List ℕ)) (found : Result Instruction Reason) (l : Instruction) → cond v (end_line fields) (instructed found) ≡ Ok (Has l) → (v ≡ false) × (found ≡ Ok l)
chosen_word true fields found l e = end_no_thing fields l _ e
chosen_word false fields found l e = (refl, instructed_is found l e)

-- what is known of a line of a section that is an instruction
pub record IsInstructed (before : List (List ℕ)) (line : Line) (lines : List Line) (l : Instruction) : Type 0 where
  pub fed : with_feed line ≡ line.text ++ codes "\n"
  pub word : bytes_eq (at_space line.text).0 (codes "end") ≡ false
  pub between : line_between before line.text (script_lines lines) ≡ Ok l
  pub is : IsRead before line.text (script_lines lines) l
  pub room : length before < most_lines

pub line_instructed : (before : List (List ℕ)) (text : List ℕ) (v : Bool) (lines : List Line) (l : Instruction) → script_line before (record { text = text; is_ended = v }) lines ≡ Ok (Has l) → IsInstructed before (record { text = text; is_ended = v }) lines l
line_instructed before text true lines l e =
    let found = at_most_is most_lines (length before) (script_word before text (script_lines lines) (at_space text).0 (at_space text).1) (Has l) e in
    let is = chosen_word (bytes_eq (at_space text).0 (codes "end")) (at_space text).1 (line_between before text (script_lines lines)) l found.0 in
    record { fed = refl; word = is.0; between = is.1; is = line_read before text (script_lines lines) l is.1; room = found.1 }
line_instructed before text false lines l e = absurd (cc)

pub chosen_end : (v : Bool) (fields : Option (List ℕ)) (found : Result Instruction Reason) → cond v (end_line fields) (instructed found) ≡ Ok Ends → (v ≡ true) × (fields ≡ None)
chosen_end true None found e = (refl, refl)
chosen_end true (Some fields) found e = absurd (cc)
chosen_end false fields found e = instructed_ends found _ e

-- a line of one word is that word
only_word : (text : List ℕ) → bytes_eq (at_space text).0 (codes "end") ≡ true → (at_space text).1 ≡ None → text ≡ codes "end"
only_word text word alone = sym (at_space_joined text) ∙ (ap (joined (at_space text).0) alone ∙ (bytes_eq-Decides (at_space text).0 (codes "end")).0 word)

-- the line that ends a section, behind which no line of the script stands
pub script_ended : (before : List (List ℕ)) (text : List ℕ) (v : Bool) (lines : List Line) → script_line before (record { text = text; is_ended = v }) lines ≡ Ok Ends → (with_feed (record { text = text; is_ended = v }) ≡ codes "end\n") × (script_lines (record { text = text; is_ended = v } ∷ lines) ≡ [])
script_ended before text true lines e =
    let found = at_most_is most_lines (length before) (script_word before text (script_lines lines) (at_space text).0 (at_space text).1) Ends e in
    let is = chosen_end (bytes_eq (at_space text).0 (codes "end")) (at_space text).1 (line_between before text (script_lines lines)) found.0 in
    let whole = only_word text is.0 is.1 in
    (ap (λ t. t ++ codes "\n") whole, ap (λ t. script_lines (record { text = t; is_ended = true } ∷ lines)) whole)
script_ended before text false lines e = absurd (cc)

-- its text
pub ended_text : (before : List (List ℕ)) (text : List ℕ) (lines : List Line) → script_line before (record { text = text; is_ended = true }) lines ≡ Ok Ends → text ≡ codes "end"
ended_text before text lines e =
    let found = at_most_is most_lines (length before) (script_word before text (script_lines lines) (at_space text).0 (at_space text).1) Ends e in
    let is = chosen_end (bytes_eq (at_space text).0 (codes "end")) (at_space text).1 (line_between before text (script_lines lines)) found.0 in
    only_word text is.0 is.1

-- the lines of a script that begins with such a line
pub lines_on : (line : Line) (lines : List Line) → bytes_eq (at_space line.text).0 (codes "end") ≡ false → script_lines (line ∷ lines) ≡ line.text ∷ script_lines lines
lines_on line lines h = cond-false (is_end line) [] (line.text ∷ script_lines lines) (no_end line.text h)

-- ---- the labels that are kept

word_part : (s : OpenScript) (text : List ℕ) (lines : List Line) → FitsScript s (record { text = text; is_ended = true } ∷ lines) → (v : Bool) → bytes_eq (at_space text).0 (codes "end") ≡ v → script_word (spelled s) text (script_lines lines) (at_space text).0 (at_space text).1 ≡ checked_word s.passed.keys s.all.keys text (at_space text).0 (at_space text).1
word_part s text lines fits true e =
    cond-true (bytes_eq (at_space text).0 (codes "end")) (end_line (at_space text).1) (instructed (line_between (spelled s) text (script_lines lines))) e
    ∙ sym (cond-true (bytes_eq (at_space text).0 (codes "end")) (end_line (at_space text).1) (instructed (checked s.passed.keys s.all.keys text)) e)
word_part s text lines fits false e =
    let all = subst (λ (ls : List (List ℕ)). SameLabels s.all.keys (labels_of (spelled s ++ ls))) (lines_on (record { text = text; is_ended = true }) lines e) fits.all in
    cond-false (bytes_eq (at_space text).0 (codes "end")) (end_line (at_space text).1) (instructed (line_between (spelled s) text (script_lines lines))) e
    ∙ (ap instructed (sym (between s.passed.keys s.all.keys (spelled s) text (script_lines lines) fits.passed all))
    ∙ sym (cond-false (bytes_eq (at_space text).0 (codes "end")) (end_line (at_space text).1) (instructed (checked s.passed.keys s.all.keys text)) e))

-- what a line means by the labels that are kept is what it means in its section
pub part_is : (s : OpenScript) (text : List ℕ) (lines : List Line) → FitsScript s (record { text = text; is_ended = true } ∷ lines) → script_line (spelled s) (record { text = text; is_ended = true }) lines ≡ script_part s text
part_is s text lines fits =
    ap₂ (at_most most_lines) (length-map s.lines line_text) (word_part s text lines fits (bytes_eq (at_space text).0 (codes "end")) refl)

-- the script with a line more, as it is spelled
pub spelled_on : (s new : OpenScript) (l : Instruction) (text : List ℕ) → new.lines ≡ s.lines ++ l ∷ [] → text ≡ line_text l → spelled new ≡ spelled s ++ text ∷ []
spelled_on s new l text put is = ap (map line_text) put ∙ (map_on s.lines l ∙ ap (λ t. spelled s ++ t ∷ []) (sym is))
  where
    map_on : (lines : List Instruction) (l : Instruction) → map line_text (lines ++ l ∷ []) ≡ map line_text lines ++ line_text l ∷ []
    map_on [] l = refl
    map_on (m ∷ lines) l = ap (λ ts. line_text m ∷ ts) (map_on lines l)

-- the labels still fit behind an instruction
pub still_fits : (s new : OpenScript) (text : List ℕ) (lines : List Line) (l : Instruction) → FitsScript s (record { text = text; is_ended = true } ∷ lines) → IsInstructed (spelled s) (record { text = text; is_ended = true }) lines l → new.lines ≡ s.lines ++ l ∷ [] → new.all ≡ s.all → SameLabels new.passed.keys (s.passed.keys ++ labels_of (text ∷ [])) → FitsScript new lines
still_fits s new text lines l fits is put all labels =
    let on = spelled_on s new l text put is.is.spelled in
    record {
      passed = subst (λ ts. SameLabels new.passed.keys (labels_of ts)) (sym on) (same_next s.passed.keys new.passed.keys (spelled s) text fits.passed labels);
      all = subst (λ ts. SameLabels new.all.keys (labels_of ts)) (ap (λ ts. spelled s ++ ts) (lines_on (record { text = text; is_ended = true }) lines is.word) ∙ (sym (append_assoc (spelled s) (text ∷ []) (script_lines lines)) ∙ ap (λ ts. ts ++ script_lines lines) (sym on)))
          (subst (λ (a : List (List ℕ)). SameLabels a (labels_of (spelled s ++ script_lines (record { text = text; is_ended = true } ∷ lines)))) (ap (λ m. m.keys) (sym all)) fits.all);
    }
