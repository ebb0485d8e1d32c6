-- What is read is a script, and each script is read.
use Rattle.std.proofs.Common.{◌≡◌, ℕ, ◌+◌, ◌||◌, Bool, true, false, cond, List, [], ◌∷◌, ◌++◌, length, map, Option, None, Some, Result, Ok, Err, refl, sym, ◌∙◌, ap, ap₂, subst, append_assoc, append-nil}
use Rattle.std.specs.List.{list_all, list_any, filter_map, cons_option}
use Rattle.std.specs.Str.{bytes_eq}
use Rattle.std.proofs.lemmas.Bool.{and_parts, and_from}
use Rattle.std.proofs.lemmas.List.Folds.{list_any-append}
use Rattle.std.proofs.lemmas.List.Elements.{filter_map-append}
use Rattle.chv_defs_base.specs.declared.rule.Reason.{Reason}
use Rattle.chv_defs_base.specs.declared.rule.Reason.TheVariants.{LabelTwice, UnknownLabel}
use Rattle.chv_defs_scene.specs.declared.scene.Line.{Line}
use Rattle.chv_defs_scene.specs.ScriptText.{line_text}
use Rattle.chv_defs_scene.specs.ScriptReading.{◌>>=◌, fields_of, label_in, labels_of, has_label, target, own_label, is_there, is_missing, label_fault, unless, line_of, line_between, Fault, at_line, read_behind, read_script, is_instruction, has_label_twice, IsScript}
use Rattle.chv_script.proofs.LabelLemmas.{bytes_eq_comm}
use Rattle.chv_script.proofs.ShapeLemmas.{bind_ok, bind_goes, made_is}
use Rattle.chv_script.proofs.InstructionLemmas.{line_spelled, line_again, text_label}

-- the labels of instructions
abbrev pub own_labels : List Line → List (List ℕ)
own_labels script = filter_map own_label script

-- whether a jump of these goes to none of the labels
abbrev pub jumps_away : List (List ℕ) → List Line → Bool
jumps_away labels script = list_any (λ l. is_missing labels (target l)) script

-- ---- labels that stand twice

or_none : (a b : Bool) → (a || b) ≡ false → (a ≡ false) × (b ≡ false)
or_none true b h = absurd (cc)
or_none false b h = (refl, h)

both_none : (a b : Bool) → a ≡ false → b ≡ false → (a || b) ≡ false
both_none true b h g = absurd (cc)
both_none false b h g = g

-- a label that is none of some labels with one more among them
none_among : (labels : List (List ℕ)) (name : List ℕ) (more : List (List ℕ)) (x : List ℕ) → has_label (labels ++ name ∷ more) x ≡ false → (has_label labels x ≡ false) × (bytes_eq x name ≡ false)
none_among labels name more x h =
    let parts = or_none (has_label labels x) (has_label (name ∷ more) x) (sym (list_any-append (bytes_eq x) labels (name ∷ more)) ∙ h) in
    (parts.0, (or_none (bytes_eq x name) (has_label more x) parts.1).0)

-- where none stands twice, a label is none of those before it
once_among : (labels : List (List ℕ)) (name : List ℕ) (more : List (List ℕ)) → has_label_twice (labels ++ name ∷ more) ≡ false → has_label labels name ≡ false
once_among [] name more h = refl
once_among (x ∷ labels) name more h =
    let parts = or_none (has_label (labels ++ name ∷ more) x) (has_label_twice (labels ++ name ∷ more)) h in
    both_none _ _ (bytes_eq_comm name x ∙ (none_among labels name more x parts.0).1) (once_among labels name more parts.1)

first_time : (labels : List (List ℕ)) (own : Option (List ℕ)) (more : List (List ℕ)) → has_label_twice (labels ++ cons_option own more) ≡ false → is_there labels own ≡ false
first_time labels None more h = refl
first_time labels (Some name) more h = once_among labels name more h

-- a label more that was not there
one_more : (labels : List (List ℕ)) (name : List ℕ) → has_label_twice labels ≡ false → has_label labels name ≡ false → has_label_twice (labels ++ name ∷ []) ≡ false
one_more [] name h g = refl
one_more (x ∷ labels) name h g =
    let parts = or_none (has_label labels x) (has_label_twice labels) h in
    let new = or_none (bytes_eq name x) (has_label labels name) g in
    both_none _ _
    (list_any-append (bytes_eq x) labels (name ∷ []) ∙ both_none _ _ parts.0 (both_none _ _ (bytes_eq_comm x name ∙ new.0) refl))
    (one_more labels name parts.1 new.1)

once-next : (labels : List (List ℕ)) (own : Option (List ℕ)) → has_label_twice labels ≡ false → is_there labels own ≡ false → has_label_twice (labels ++ cons_option own []) ≡ false
once-next labels None h g = ap has_label_twice (append-nil labels) ∙ h
once-next labels (Some name) h g = one_more labels name h g

-- ---- what is wrong with labels

fault_none : (v w : Bool) → cond v (Some LabelTwice) (cond w (Some UnknownLabel) None) ≡ None → (v ≡ false) × (w ≡ false)
fault_none true w e = absurd (cc)
fault_none false true e = absurd (cc)
fault_none false false e = (refl, refl)

none_fault : (v w : Bool) → v ≡ false → w ≡ false → cond v (Some LabelTwice) (cond w (Some UnknownLabel) None) ≡ None
none_fault v w a b = ap₂ (λ x y. cond x (Some LabelTwice) (cond y (Some UnknownLabel) None)) a b

unless_ok : (fault : Option Reason) (l m : Line) → unless fault l ≡ Ok m → (fault ≡ None) × (l ≡ m)
unless_ok None l m e = (refl, made_is l m Reason e)
unless_ok (Some reason) l m e = absurd (cc)

-- what is known of a line that is read behind some lines and before others
pub record IsRead (before : List (List ℕ)) (text : List ℕ) (behind : List (List ℕ)) (l : Line) : Type 0 where
  pub spelled : text ≡ line_text l
  pub fine : is_instruction l ≡ true
  pub own : label_in (fields_of text) ≡ own_label l
  pub once : is_there (labels_of before) (own_label l) ≡ false
  pub known : is_missing (labels_of (before ++ text ∷ behind)) (target l) ≡ false

pub line_read : (before : List (List ℕ)) (text : List ℕ) (behind : List (List ℕ)) (l : Line) → line_between before text behind ≡ Ok l → IsRead before text behind l
line_read before text behind l e =
    let found = bind_ok (line_of text) (λ m. unless (label_fault (labels_of before) (labels_of (before ++ text ∷ behind)) m) m) l e in
    let labels = unless_ok (label_fault (labels_of before) (labels_of (before ++ text ∷ behind)) found.0) found.0 l found.2 in
    let tests = fault_none (is_there (labels_of before) (own_label found.0)) (is_missing (labels_of (before ++ text ∷ behind)) (target found.0)) labels.0 in
    let is = line_spelled text found.0 found.1 in
    subst (IsRead before text behind) labels.1 (record {
      spelled = is.0;
      fine = is.1;
      own = ap (λ t. label_in (fields_of t)) is.0 ∙ text_label found.0 is.1;
      once = tests.0;
      known = tests.1;
    })

pub read_line : (before : List (List ℕ)) (text : List ℕ) (behind : List (List ℕ)) (l : Line) → IsRead before text behind l → line_between before text behind ≡ Ok l
read_line before text behind l is =
    bind_goes (line_of text) (λ m. unless (label_fault (labels_of before) (labels_of (before ++ text ∷ behind)) m) m) l (ap line_of is.spelled ∙ line_again l is.fine)
    ∙ ap (λ fault. unless fault l) (none_fault _ _ is.once is.known)

-- ---- lines behind others

at_line_ok : {A : Type 0} (n : ℕ) (r : Result A Reason) (x : A) → at_line n r ≡ Ok x → r ≡ Ok x
at_line_ok n (Ok y) x e = let is : y ≡ x = made_is y x Fault e in ap Ok is
at_line_ok n (Err reason) x e = absurd (cc)

-- a first line and the rest
pub record IsFirst (before : List (List ℕ)) (text : List ℕ) (lines : List (List ℕ)) (script : List Line) : Type 0 where
  pub first : Line
  pub rest : List Line
  pub all : first ∷ rest ≡ script
  pub is : IsRead before text lines first
  pub others : read_behind (before ++ text ∷ []) lines ≡ Ok rest

pub first_read : (before : List (List ℕ)) (text : List ℕ) (lines : List (List ℕ)) (script : List Line) → read_behind before (text ∷ lines) ≡ Ok script → IsFirst before text lines script
unfolding read_behind
first_read before text lines script e =
    let found = bind_ok (at_line (length before + 1) (line_between before text lines)) (λ l. read_behind (before ++ text ∷ []) lines >>= λ rest. Ok (l ∷ rest)) script e in
    let others = bind_ok (read_behind (before ++ text ∷ []) lines) (λ rest. Ok (found.0 ∷ rest)) script found.2 in
    record {
      first = found.0;
      rest = others.0;
      all = made_is (found.0 ∷ others.0) script Fault others.2;
      is = line_read before text lines found.0 (at_line_ok (length before + 1) (line_between before text lines) found.0 found.1);
      others = others.1;
    }

none_read : (before : List (List ℕ)) (script : List Line) → read_behind before [] ≡ Ok script → [] ≡ script
unfolding read_behind
none_read before script e = let none : List Line = [] in made_is none script Fault e

-- the lines before, and those that follow
one_on : (before : List (List ℕ)) (text : List ℕ) (lines : List (List ℕ)) → (before ++ text ∷ []) ++ lines ≡ before ++ text ∷ lines
one_on before text lines = append_assoc before (text ∷ []) lines

pub labels_on : (before : List (List ℕ)) (text : List ℕ) → labels_of (before ++ text ∷ []) ≡ labels_of before ++ cons_option (label_in (fields_of text)) []
labels_on before text = filter_map-append (λ t. label_in (fields_of t)) before (text ∷ [])

-- what is known of lines that are read behind others
record AreRead (before lines : List (List ℕ)) (script : List Line) : Type 0 where
  pub spelled : lines ≡ map line_text script
  pub fine : list_all is_instruction script ≡ true
  pub own : labels_of lines ≡ own_labels script
  pub once : has_label_twice (labels_of (before ++ lines)) ≡ false
  pub known : jumps_away (labels_of (before ++ lines)) script ≡ false

-- a line before lines that are read
with_first : (before : List (List ℕ)) (text : List ℕ) (lines : List (List ℕ)) (l : Line) (rest : List Line) → IsRead before text lines l → AreRead (before ++ text ∷ []) lines rest → AreRead before (text ∷ lines) (l ∷ rest)
with_first before text lines l rest is are = record {
  spelled = ap₂ (λ t ts. t ∷ ts) is.spelled are.spelled;
  fine = and_from _ _ is.fine are.fine;
  own = ap₂ (λ o ls. cons_option o ls) is.own are.own;
  once = ap (λ ls. has_label_twice (labels_of ls)) (sym (one_on before text lines)) ∙ are.once;
  known = both_none _ _ is.known (ap (λ ls. jumps_away (labels_of ls) rest) (sym (one_on before text lines)) ∙ are.known);
}

are_read : (before lines : List (List ℕ)) (script : List Line) → has_label_twice (labels_of before) ≡ false → read_behind before lines ≡ Ok script → AreRead before lines script
are_read before [] script once e =
    subst (AreRead before []) (none_read before script e) (record {
      spelled = refl;
      fine = refl;
      own = refl;
      once = ap (λ ls. has_label_twice (labels_of ls)) (append-nil before) ∙ once;
      known = refl;
    })
are_read before (text ∷ lines) script once e =
    let found = first_read before text lines script e in
    let labels = ap (λ own. labels_of before ++ cons_option own []) found.is.own in
    let still = ap has_label_twice (labels_on before text ∙ labels) ∙ once-next (labels_of before) (own_label found.first) once found.is.once in
    subst (AreRead before (text ∷ lines)) found.all (with_first before text lines found.first found.rest found.is (are_read (before ++ text ∷ []) lines found.rest still found.others))

-- lines that are read are a script
pub read_is_script : (lines : List (List ℕ)) (script : List Line) → read_script lines ≡ Ok script → IsScript lines script
read_is_script lines script e =
    let are = are_read [] lines script refl e in
    record {
      spelled = are.spelled;
      instructions = are.fine;
      once = ap has_label_twice (sym are.own) ∙ are.once;
      known = ap (λ labels. jumps_away labels script) (sym are.own) ∙ are.known;
    }

-- ---- each script is read

pub texts_labels : (script : List Line) → list_all is_instruction script ≡ true → labels_of (map line_text script) ≡ own_labels script
texts_labels [] h = refl
texts_labels (l ∷ script) h =
    let parts = and_parts (is_instruction l) (list_all is_instruction script) h in
    ap₂ (λ o ls. cons_option o ls) (text_label l parts.0) (texts_labels script parts.1)

-- the next of the lines of a script
next_read : (before : List (List ℕ)) (l : Line) (script : List Line) → list_all is_instruction (l ∷ script) ≡ true → has_label_twice (labels_of (before ++ map line_text (l ∷ script))) ≡ false → is_missing (labels_of (before ++ map line_text (l ∷ script))) (target l) ≡ false → IsRead before (line_text l) (map line_text script) l
next_read before l script h once known =
    let parts = and_parts (is_instruction l) (list_all is_instruction script) h in
    let own = text_label l parts.0 in
    let labels : labels_of (before ++ map line_text (l ∷ script)) ≡ labels_of before ++ cons_option (own_label l) (labels_of (map line_text script)) =
    filter_map-append (λ t. label_in (fields_of t)) before (map line_text (l ∷ script)) ∙ ap (λ o. labels_of before ++ cons_option o (labels_of (map line_text script))) own in
    record {
      spelled = refl;
      fine = parts.0;
      own = own;
      once = first_time (labels_of before) (own_label l) (labels_of (map line_text script)) (ap has_label_twice (sym labels) ∙ once);
      known = known;
    }

texts_read : (before : List (List ℕ)) (script : List Line) → list_all is_instruction script ≡ true → has_label_twice (labels_of (before ++ map line_text script)) ≡ false → jumps_away (labels_of (before ++ map line_text script)) script ≡ false → read_behind before (map line_text script) ≡ Ok script
unfolding read_behind
texts_read before [] h once known = refl
texts_read before (l ∷ script) h once known =
    let parts = and_parts (is_instruction l) (list_all is_instruction script) h in
    let jumps = or_none (is_missing (labels_of (before ++ map line_text (l ∷ script))) (target l)) (jumps_away (labels_of (before ++ map line_text (l ∷ script))) script) known in
    let on = one_on before (line_text l) (map line_text script) in
    let is = next_read before l script h once jumps.0 in
    let others = texts_read (before ++ line_text l ∷ []) script parts.1 (ap (λ ls. has_label_twice (labels_of ls)) on ∙ once) (ap (λ ls. jumps_away (labels_of ls) script) on ∙ jumps.1) in
    bind_goes (at_line (length before + 1) (line_between before (line_text l) (map line_text script))) (λ m. read_behind (before ++ line_text l ∷ []) (map line_text script) >>= λ rest. Ok (m ∷ rest)) l (ap (at_line (length before + 1)) (read_line before (line_text l) (map line_text script) l is))
    ∙ bind_goes (read_behind (before ++ line_text l ∷ []) (map line_text script)) (λ rest. Ok (l ∷ rest)) script others

-- a script is read as its instructions
pub script_is_read : (lines : List (List ℕ)) (script : List Line) → IsScript lines script → read_script lines ≡ Ok script
script_is_read lines script is =
    let own = texts_labels script is.instructions in
    ap read_script is.spelled
    ∙ texts_read [] script is.instructions (ap has_label_twice own ∙ is.once) (ap (λ labels. jumps_away labels script) own ∙ is.known)
