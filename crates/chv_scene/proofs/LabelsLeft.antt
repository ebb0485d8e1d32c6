-- The labels that a script still needs: lines that have them, and the line that ends it.
use Rattle.std.proofs.Common.{◌≡◌, ℕ, ◌+◌, ◌≤◌, ◌&&◌, ◌||◌, Bool, true, false, cond, List, [], ◌∷◌, ◌++◌, length, map, codes, None, Some, Ok, refl, sym, ◌∙◌, ap, subst, append_assoc, arith}
use Rattle.std.specs.List.{list_all, cons_option}
use Rattle.std.specs.Str.{bytes_eq}
use Rattle.std.proofs.lemmas.Bool.{and_parts, and_from}
use Rattle.std.proofs.lemmas.List.{length-map}
use Rattle.std.proofs.lemmas.List.Folds.{list_any-append}
use Rattle.std.proofs.lemmas.List.Elements.{filter_map-append}
use Rattle.std.proofs.lemmas.Slice.Eq.{bytes_eq-Decides}
use Rattle.chv_defs_base.specs.Id.{is_id}
use Rattle.chv_defs_scene.specs.declared.scene.Line.{Line as Instruction}
use Rattle.chv_defs_scene.specs.declared.scene.Line.TheVariants as instruction
use Rattle.chv_defs_scene.specs.ScenarioLines.{Line, lines_of, script_lines, most_lines, Before}
use Rattle.chv_defs_scene.specs.ScenarioText.{InScript, read_lines, empty_scene, section}
use Rattle.chv_defs_scene.specs.ScriptReading.{fields_of, label_in, labels_of, has_label, is_instruction, read_behind}
use Rattle.chv_defs_scene.specs.ScriptText.{line_text}
use Rattle.chv_script.proofs.GrammarLemmas.{own_labels, labels_on, texts_labels, read_line}
use Rattle.chv_script.proofs.InstructionLemmas.{text_label, text_no_feed}
use Rattle.chv_scene.proofs.RequestLemmas.{no_feed}
use Rattle.chv_scene.proofs.GrammarLemmas.{read_on, read_none}
use Rattle.chv_scene.proofs.WholeLemmas.{behind_vcpu, instruction_lines, lines_read, vcpu_read}

-- ---- labels that are not there yet

-- those of these labels that are not there yet, each once
abbrev pub fresh : List (List ℕ) → List (List ℕ) → List (List ℕ)
fresh there [] = []
fresh there (name ∷ labels) = cond (has_label there name) (fresh there labels) (name ∷ fresh (there ++ name ∷ []) labels)

pub labels_among : (these those : List (List ℕ)) (name : List ℕ) → has_label (these ++ those) name ≡ (has_label these name || has_label those name)
labels_among these those name = list_any-append (bytes_eq name) these those

or_left : (v w : Bool) → v ≡ true → (v || w) ≡ true
or_left true w h = refl
or_left false w h = absurd (cc)

or_right : (v w : Bool) → w ≡ true → (v || w) ≡ true
or_right true w h = refl
or_right false w h = h

or_skip : (v x w : Bool) → (x ≡ true → v ≡ true) → (v || (x || w)) ≡ true → (v || w) ≡ true
or_skip true x w h e = refl
or_skip false true w h e = let no : false ≡ true = h refl in absurd (cc)
or_skip false false w h e = e

fresh_step : (v : Bool) (there labels : List (List ℕ)) (x name : List ℕ) → has_label there x ≡ v → has_label (there ++ x ∷ labels) name ≡ true → (has_label (there ++ labels) name ≡ true → has_label (there ++ fresh there labels) name ≡ true) → (has_label ((there ++ x ∷ []) ++ labels) name ≡ true → has_label ((there ++ x ∷ []) ++ fresh (there ++ x ∷ []) labels) name ≡ true) → has_label (there ++ cond v (fresh there labels) (x ∷ fresh (there ++ x ∷ []) labels)) name ≡ true
fresh_step true there labels x name is h old new =
    old (labels_among there labels name
    ∙ or_skip (has_label there name) (bytes_eq name x) (has_label labels name) (λ e. ap (has_label there) ((bytes_eq-Decides name x).0 e) ∙ is) (sym (labels_among there (x ∷ labels) name) ∙ h))
fresh_step false there labels x name is h old new =
    ap (λ ls. has_label ls name) (sym (append_assoc there (x ∷ []) (fresh (there ++ x ∷ []) labels)))
    ∙ new (ap (λ ls. has_label ls name) (append_assoc there (x ∷ []) labels) ∙ h)

-- with them all labels are there
pub fresh_keeps : (there labels : List (List ℕ)) (name : List ℕ) → has_label (there ++ labels) name ≡ true → has_label (there ++ fresh there labels) name ≡ true
fresh_keeps there [] name h = h
fresh_keeps there (x ∷ labels) name h =
    fresh_step (has_label there x) there labels x name refl h (fresh_keeps there labels name) (fresh_keeps (there ++ x ∷ []) labels name)

few_step : (v : Bool) (x : List ℕ) (skipped more labels : List (List ℕ)) → length skipped ≤ length labels → length more ≤ length labels → length (cond v skipped (x ∷ more)) ≤ length (x ∷ labels)
few_step true x skipped more labels h g = omega (arith, h)
few_step false x skipped more labels h g = omega (arith, g)

fresh_few : (there labels : List (List ℕ)) → length (fresh there labels) ≤ length labels
fresh_few there [] = omega arith
fresh_few there (x ∷ labels) = few_step (has_label there x) x (fresh there labels) (fresh (there ++ x ∷ []) labels) labels (fresh_few there labels) (fresh_few (there ++ x ∷ []) labels)

ids_step : (v : Bool) (x : List ℕ) (skipped more : List (List ℕ)) → is_id x ≡ true → list_all is_id skipped ≡ true → list_all is_id more ≡ true → list_all is_id (cond v skipped (x ∷ more)) ≡ true
ids_step true x skipped more is h g = h
ids_step false x skipped more is h g = and_from _ _ is g

fresh_ids : (there labels : List (List ℕ)) → list_all is_id labels ≡ true → list_all is_id (fresh there labels) ≡ true
fresh_ids there [] h = refl
fresh_ids there (x ∷ labels) h =
    let parts = and_parts (is_id x) (list_all is_id labels) h in
    ids_step (has_label there x) x (fresh there labels) (fresh (there ++ x ∷ []) labels) parts.0 (fresh_ids there labels parts.1) (fresh_ids (there ++ x ∷ []) labels parts.1)

-- ---- the labels of lines

chosen_id : (v : Bool) (name : List ℕ) (labels : List (List ℕ)) → (v ≡ true → is_id name ≡ true) → list_all is_id labels ≡ true → list_all is_id (cons_option (cond v (Some name) None) labels) ≡ true
chosen_id true name labels is h = and_from _ _ (is refl) h
chosen_id false name labels is h = h

label_id : (fields labels : List (List ℕ)) → list_all is_id labels ≡ true → list_all is_id (cons_option (label_in fields) labels) ≡ true
label_id [] labels h = h
label_id (word ∷ []) labels h = h
label_id (word ∷ name ∷ []) labels h = chosen_id (bytes_eq word (codes "at") && is_id name) name labels (λ e. (and_parts (bytes_eq word (codes "at")) (is_id name) e).1) h
label_id (word ∷ name ∷ more ∷ fields) labels h = h

labels_ids : (lines : List (List ℕ)) → list_all is_id (labels_of lines) ≡ true
labels_ids [] = refl
labels_ids (text ∷ lines) = label_id (fields_of text) (labels_of lines) (labels_ids lines)

-- ---- lines of labels

-- labels as instructions
abbrev pub labels_here : List (List ℕ) → List Instruction
labels_here names = map instruction.At names

here_instructions : (names : List (List ℕ)) → list_all is_id names ≡ true → list_all is_instruction (labels_here names) ≡ true
here_instructions [] h = refl
here_instructions (name ∷ names) h = let parts = and_parts (is_id name) (list_all is_id names) h in and_from _ _ parts.0 (here_instructions names parts.1)

here_own : (names : List (List ℕ)) → own_labels (labels_here names) ≡ names
here_own [] = refl
here_own (name ∷ names) = ap (λ ns. name ∷ ns) (here_own names)

abbrev ReadFresh : List (List ℕ) → List (List ℕ) → Type 0
ReadFresh before names = read_behind before (map line_text (labels_here names)) ≡ Ok (labels_here names)

-- a label more, and those behind it
read_label : (before : List (List ℕ)) (name : List ℕ) (names : List (List ℕ)) → is_id name ≡ true → has_label (labels_of before) name ≡ false → ReadFresh (before ++ line_text (instruction.At name) ∷ []) names → ReadFresh before (name ∷ names)
read_label before name names is new rest =
    let l = instruction.At name in
    let behind = map line_text (labels_here names) in
    read_on before (line_text l) behind l (labels_here names)
    (read_line before (line_text l) behind l (record { spelled = refl; fine = is; own = text_label l is; once = new; known = refl })) rest

labels_with : (before : List (List ℕ)) (name : List ℕ) → is_id name ≡ true → labels_of (before ++ line_text (instruction.At name) ∷ []) ≡ labels_of before ++ name ∷ []
labels_with before name is = labels_on before (line_text (instruction.At name)) ∙ ap (λ own. labels_of before ++ cons_option own []) (text_label (instruction.At name) is)

read_step : (v : Bool) (before : List (List ℕ)) (x : List ℕ) (skipped more : List (List ℕ)) → has_label (labels_of before) x ≡ v → is_id x ≡ true → ReadFresh before skipped → ReadFresh (before ++ line_text (instruction.At x) ∷ []) more → ReadFresh before (cond v skipped (x ∷ more))
read_step true before x skipped more new is old on = old
read_step false before x skipped more new is old on = read_label before x more is new on

fresh_read : (before labels : List (List ℕ)) → list_all is_id labels ≡ true → ReadFresh before (fresh (labels_of before) labels)
fresh_read before [] h = read_none before
fresh_read before (x ∷ labels) h =
    let parts = and_parts (is_id x) (list_all is_id labels) h in
    read_step (has_label (labels_of before) x) before x (fresh (labels_of before) labels) (fresh (labels_of before ++ x ∷ []) labels) refl parts.0 (fresh_read before labels parts.1)
    (subst (λ there. ReadFresh (before ++ line_text (instruction.At x) ∷ []) (fresh there labels)) (labels_with before x parts.0) (fresh_read (before ++ line_text (instruction.At x) ∷ []) labels parts.1))

-- ---- the end of a script

-- whether a line ends with its only line feed
abbrev pub is_whole : Line → Bool
is_whole line = line.is_ended && no_feed line.text

-- the instructions that are wanting behind these lines, where those lines followed
abbrev pub wanting : List (List ℕ) → List Line → List Instruction
wanting before lines = labels_here (fresh (labels_of before) (labels_of (script_lines lines)))

-- the lines of those, and the end of the section
abbrev pub rest_lines : List (List ℕ) → List Line → List Line
rest_lines before lines = lines_of (behind_vcpu (wanting before lines) [])

wanting_fine : (before : List (List ℕ)) (lines : List Line) → list_all is_instruction (wanting before lines) ≡ true
wanting_fine before lines = here_instructions (fresh (labels_of before) (labels_of (script_lines lines))) (fresh_ids (labels_of before) (labels_of (script_lines lines)) (labels_ids (script_lines lines)))

whole_script : (script : List Instruction) → list_all is_instruction script ≡ true → list_all is_whole (lines_of (behind_vcpu script [])) ≡ true
whole_script [] h = refl
whole_script (l ∷ script) h =
    let parts = and_parts (is_instruction l) (list_all is_instruction script) h in
    ap (list_all is_whole) (instruction_lines l script [] parts.0) ∙ and_from _ _ (text_no_feed l parts.0) (whole_script script parts.1)

pub rest_whole : (before : List (List ℕ)) (lines : List Line) → list_all is_whole (rest_lines before lines) ≡ true
rest_whole before lines = whole_script (wanting before lines) (wanting_fine before lines)

-- a script that ends so is read
pub rest_read : (before : List (List ℕ)) (b : Before) (n : ℕ) (lines : List Line) → length before + length (labels_of (script_lines lines)) ≤ most_lines → read_lines (InScript before) b n (rest_lines before lines) ≡ Ok (record empty_scene { vcpus = section 0 0 (wanting before lines) ∷ [] })
rest_read before b n lines room =
    let labels = labels_of (script_lines lines) in
    let few = fresh_few (labels_of before) labels in
    let counted : length (wanting before lines) ≡ length (fresh (labels_of before) labels) = length-map (fresh (labels_of before) labels) instruction.At in
    let short : length before + length (wanting before lines) ≤ most_lines = omega (arith, room, few, counted) in
    vcpu_read b before (wanting before lines) [] empty_scene short (wanting_fine before lines) (fresh_read before labels (labels_ids (script_lines lines))) (λ m. refl) n

-- and has all labels
pub rest_keeps : (before : List (List ℕ)) (lines : List Line) (name : List ℕ) → has_label (labels_of (before ++ script_lines lines)) name ≡ true → has_label (labels_of (before ++ script_lines (rest_lines before lines))) name ≡ true
rest_keeps before lines name h =
    let labels = labels_of (script_lines lines) in
    let names = fresh (labels_of before) labels in
    let found : labels_of (script_lines (rest_lines before lines)) ≡ names = ap labels_of (lines_read (wanting before lines) [] (wanting_fine before lines)) ∙ (texts_labels (wanting before lines) (wanting_fine before lines) ∙ here_own names) in
    ap (λ ls. has_label ls name) (filter_map-append (λ t. label_in (fields_of t)) before (script_lines (rest_lines before lines)) ∙ ap (λ ls. labels_of before ++ ls) found)
    ∙ fresh_keeps (labels_of before) labels name (ap (λ ls. has_label ls name) (sym (filter_map-append (λ t. label_in (fields_of t)) before (script_lines lines))) ∙ h)
