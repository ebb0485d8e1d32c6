-- Labels of lines, and labels among labels.
use Rattle.std.proofs.Common.{◌≡◌, ℕ, ◌+◌, ◌<◌, ◌||◌, Bool, true, false, cond, List, [], ◌∷◌, ◌++◌, length, take, get_or, not, Option, None, Some, option_map, is_some, refl, sym, ◌∙◌, ap, ap₂, subst, arith}
use Rattle.std.specs.List.{cons_option}
use Rattle.std.specs.Str.{bytes_eq}
use Rattle.std.specs.Cmp.{partial_equiv_from_equiv}
use Rattle.std.specs.Cmp.Lexicographic.{nat_list_eq_equiv}
use Rattle.std.proofs.lemmas.Grind.{take_at_read}
use Rattle.std.proofs.lemmas.List.Folds.{list_any-append}
use Rattle.std.proofs.lemmas.List.Elements.{filter_map-append}
use Rattle.chv_defs_base.specs.declared.rule.Reason.TheVariants.{LabelTwice, UnknownLabel}
use Rattle.chv_defs_scene.specs.declared.scene.Line.{Line}
use Rattle.chv_defs_scene.specs.ScriptReading.{fields_of, label_in, labels_of, has_label, target, own_label, is_there, is_missing, label_fault}
use Rattle.chv_script.specs.Fields.{fields_behind}
use Rattle.chv_script.proofs.FieldLemmas.{field_there}
use Rattle.chv_script.specs.Labels.{SameLabels}

-- ---- labels among labels

pub bytes_eq_comm : (a b : List ℕ) → bytes_eq a b ≡ bytes_eq b a
bytes_eq_comm a b = (partial_equiv_from_equiv nat_list_eq_equiv).symm a b

member : (b a : Bool) → cond b true a ≡ (a || (b || false))
member true true = refl
member true false = refl
member false true = refl
member false false = refl

-- one label more
pub put_same : (old new : List (List ℕ)) (key : List ℕ) → ((q : List ℕ) → has_label new q ≡ cond (bytes_eq key q) true (has_label old q)) → SameLabels new (old ++ key ∷ [])
put_same old new key step q =
    rw (list_any-append (bytes_eq q) old (key ∷ []), step q, bytes_eq_comm q key)
    (member (bytes_eq key q) (has_label old q))

-- those of a line that is this label
pub put_label : (old new : List (List ℕ)) (key : List ℕ) (found : Option (List ℕ)) → found ≡ Some key → ((q : List ℕ) → has_label new q ≡ cond (bytes_eq key q) true (has_label old q)) → SameLabels new (old ++ cons_option found [])
put_label old new key found is step = subst (λ f. SameLabels new (old ++ cons_option f [])) (sym is) (put_same old new key step)

-- the labels of lines, and those of one line more
pub same_next : (old new : List (List ℕ)) (lines : List (List ℕ)) (text : List ℕ) → SameLabels old (labels_of lines) → SameLabels new (old ++ labels_of (text ∷ [])) → SameLabels new (labels_of (lines ++ text ∷ []))
same_next old new lines text before step q =
    step q ∙ (list_any-append (bytes_eq q) old (labels_of (text ∷ []))
    ∙ (ap (λ b. b || has_label (labels_of (text ∷ [])) q) (before q)
    ∙ (sym (list_any-append (bytes_eq q) (labels_of lines) (labels_of (text ∷ [])))
    ∙ ap (λ labels. has_label labels q) (sym (filter_map-append (λ t. label_in (fields_of t)) lines (text ∷ []))))))

-- the same for the lines up to the next one
pub same_take : (old new : List (List ℕ)) (lines : List (List ℕ)) (i : ℕ) (text d : List ℕ) → i < length lines → text ≡ get_or lines i d → SameLabels old (labels_of (take i lines)) → SameLabels new (old ++ labels_of (text ∷ [])) → SameLabels new (labels_of (take (i + 1) lines))
same_take old new lines i text d h is before step =
    subst (λ ls. SameLabels new (labels_of ls)) (ap (λ t. take i lines ++ t ∷ []) is ∙ sym (take_at_read lines i d h).1) (same_next old new (take i lines) text before step)

-- ---- the label of a line

pub no_label : (word name : List ℕ) (rest : List (List ℕ)) → 0 < length rest → label_in (word ∷ name ∷ rest) ≡ None
no_label word name [] h = absurd (omega arith)
no_label word name (more ∷ rest) h = refl

-- more than one field stands behind the word
pub many_fields : {T : Type 0} (view : T → List ℕ) (text word : List ℕ) (fields : Option (List ℕ)) (rest name : List ℕ) (more : Option T) → fields_of text ≡ word ∷ fields_behind fields → fields ≡ Some rest → fields_of rest ≡ name ∷ fields_behind (option_map view more) → (none : Bool) → is_some more ≡ not none → none ≡ false → None ≡ label_in (fields_of text)
many_fields view text word fields rest name None all behind two none is h = absurd (cc)
many_fields view text word fields rest name (Some t) all behind two none is h =
    sym (ap label_in (all ∙ ap (λ f. word ∷ fields_behind f) behind ∙ ap (λ fs. word ∷ fs) two) ∙ no_label word name (fields_of (view t)) (field_there (view t)))

-- ---- what is wrong with labels

there_same : (these those : List (List ℕ)) (name : Option (List ℕ)) → SameLabels these those → is_there these name ≡ is_there those name
there_same these those None same = refl
there_same these those (Some name) same = same name

missing_same : (these those : List (List ℕ)) (name : Option (List ℕ)) → SameLabels these those → is_missing these name ≡ is_missing those name
missing_same these those None same = refl
missing_same these those (Some name) same = ap not (same name)

pub fault_same : (before earlier all whole : List (List ℕ)) → SameLabels before earlier → SameLabels all whole → (l : Line) → label_fault before all l ≡ label_fault earlier whole l
fault_same before earlier all whole b w l =
    ap₂ (λ twice unknown. cond twice (Some LabelTwice) (cond unknown (Some UnknownLabel) None)) (there_same before earlier (own_label l) b) (missing_same all whole (target l) w)
