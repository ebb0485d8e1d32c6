-- How a reading goes on by a line.
use Rattle.std.proofs.Common.{◌≡◌, ℕ, ◌+◌, ◌<◌, ◌≤◌, List, [], ◌∷◌, ◌++◌, length, take, drop, get_or, Option, None, Some, IsNone, is_some, Result, Ok, Err, refl, sym, ◌∙◌, ap, subst, append_assoc, arith}
use Rattle.std.proofs.lemmas.Grind.{take_at_read}
use Rattle.std.proofs.lemmas.List.{take-append-drop, drop_more, length-take, length-drop, nil_from_length, append-nil}
use Rattle.chv_defs_base.specs.declared.rule.Reason.{Reason}
use Rattle.chv_defs_scene.specs.declared.scene.Line.{Line}
use Rattle.chv_defs_scene.specs.ScriptReading.{◌>>=◌, labels_of, line_of, unless, Fault, at_line, line_between, read_behind, read_script}
use Rattle.chv_script.specs.Labels.{SameLabels}
use Rattle.chv_script.specs.Steps.{checked, with_front, resumed, after_line}
use Rattle.chv_script.proofs.LabelLemmas.{fault_same}

-- what comes next is the same
pub next_same : {A B : Type 0} (r : Result A Reason) (f g : A → Result B Reason) → ((x : A) → f x ≡ g x) → (r >>= f) ≡ (r >>= g)
next_same (Ok x) f g h = h x
next_same (Err e) f g h = refl

pub between : (before all : List (List ℕ)) (passed : List (List ℕ)) (text : List ℕ) (behind : List (List ℕ)) → SameLabels before (labels_of passed) → SameLabels all (labels_of (passed ++ text ∷ behind)) → checked before all text ≡ line_between passed text behind
between before all passed text behind b w =
    next_same (line_of text) _ _ (λ l. ap (λ fault. unless fault l) (fault_same before (labels_of passed) all (labels_of (passed ++ text ∷ behind)) b w l))

-- an instruction before those that are read
onto_front : (front : List Line) (l : Line) (read : Result (List Line) Fault) → with_front front (read >>= λ rest. Ok (l ∷ rest)) ≡ with_front (front ++ l ∷ []) read
onto_front front l (Ok rest) = ap Ok (sym (append_assoc front (l ∷ []) rest))
onto_front front l (Err fault) = refl

-- what is read of lines by what the first of them is
by_first : List Line → List (List ℕ) → List ℕ → List (List ℕ) → Result Line Reason → Result (List Line) Fault
by_first front passed text behind found = with_front front (at_line (length passed + 1) found >>= λ l. read_behind (passed ++ text ∷ []) behind >>= λ rest. Ok (l ∷ rest))

first_is : (front : List Line) (passed : List (List ℕ)) (text : List ℕ) (behind : List (List ℕ)) → resumed front passed (text ∷ behind) ≡ by_first front passed text behind (line_between passed text behind)
unfolding by_first read_behind
first_is front passed text behind = refl

-- a line that is an instruction
pub step_ok : (front new_front : List Line) (before all : List (List ℕ)) (text : List ℕ) (l : Line) → checked before all text ≡ Ok l → new_front ≡ front ++ l ∷ [] → (passed behind : List (List ℕ)) → SameLabels before (labels_of passed) → SameLabels all (labels_of (passed ++ text ∷ behind)) → resumed front passed (text ∷ behind) ≡ resumed new_front (passed ++ text ∷ []) behind
unfolding by_first
step_ok front new_front before all text l is put passed behind b w =
    first_is front passed text behind
    ∙ (ap (by_first front passed text behind) (sym (between before all passed text behind b w) ∙ is)
    ∙ (onto_front front l (read_behind (passed ++ text ∷ []) behind)
    ∙ ap (λ f. resumed f (passed ++ text ∷ []) behind) (sym put)))

-- a line that fails
pub step_err : (front : List Line) (before all : List (List ℕ)) (text : List ℕ) (reason : Reason) → checked before all text ≡ Err reason → (passed behind : List (List ℕ)) → SameLabels before (labels_of passed) → SameLabels all (labels_of (passed ++ text ∷ behind)) → resumed front passed (text ∷ behind) ≡ Err (record { line = length passed + 1; reason = reason })
unfolding by_first
step_err front before all text reason is passed behind b w =
    first_is front passed text behind ∙ ap (by_first front passed text behind) (sym (between before all passed text behind b w) ∙ is)

-- what a step of a reading keeps
abbrev pub Goes : List Line → List Line → List (List ℕ) → List (List ℕ) → List ℕ → Option Reason → Type 0
Goes front new_front before all text fault = (passed behind : List (List ℕ)) → SameLabels before (labels_of passed) → SameLabels all (labels_of (passed ++ text ∷ behind)) → resumed front passed (text ∷ behind) ≡ after_line (length passed + 1) fault (resumed new_front (passed ++ text ∷ []) behind)

-- the next of all lines
pub next_line : (front new_front : List Line) (before all : List (List ℕ)) (lines : List (List ℕ)) (i : ℕ) (text d : List ℕ) (fault : Option Reason) → i < length lines → text ≡ get_or lines i d → Goes front new_front before all text fault → SameLabels before (labels_of (take i lines)) → SameLabels all (labels_of lines) → resumed front (take i lines) (drop i lines) ≡ read_script lines → after_line (i + 1) fault (resumed new_front (take (i + 1) lines) (drop (i + 1) lines)) ≡ read_script lines
next_line front new_front before all lines i text d fault h is goes b w so_far =
    let rest : drop i lines ≡ text ∷ drop (i + 1) lines = drop_more lines i d h ∙ ap (λ t. t ∷ drop (i + 1) lines) (sym is) in
    let parts : take i lines ++ text ∷ drop (i + 1) lines ≡ lines = ap (λ ls. take i lines ++ ls) (sym rest) ∙ take-append-drop i lines in
    let more : take i lines ++ text ∷ [] ≡ take (i + 1) lines = ap (λ t. take i lines ++ t ∷ []) is ∙ sym (take_at_read lines i d h).1 in
    let counted : length (take i lines) ≡ i = omega (arith, length-take i lines) in
    let step = goes (take i lines) (drop (i + 1) lines) b (subst (λ ls. SameLabels all (labels_of ls)) (sym parts) w) in
    sym (ap (λ passed. after_line (i + 1) fault (resumed new_front passed (drop (i + 1) lines))) more)
    ∙ (ap (λ n. after_line (n + 1) fault (resumed new_front (take i lines ++ text ∷ []) (drop (i + 1) lines))) (sym counted)
    ∙ (sym step ∙ (ap (resumed front (take i lines)) (sym rest) ∙ so_far)))

-- no line was passed
pub begun : (front : List Line) (lines : List (List ℕ)) → front ≡ [] → resumed front (take 0 lines) (drop 0 lines) ≡ read_script lines
begun front lines none = ap (λ f. resumed f (take 0 lines) (drop 0 lines)) none ∙ no_front (read_script lines)
  where
    no_front : (read : Result (List Line) Fault) → with_front [] read ≡ read
    no_front (Ok rest) = refl
    no_front (Err fault) = refl

-- all lines were passed
pub ended : (front : List Line) (lines : List (List ℕ)) (i : ℕ) → length lines ≤ i → resumed front (take i lines) (drop i lines) ≡ read_script lines → Ok front ≡ read_script lines
unfolding read_behind
ended front lines i h so_far =
    let none : drop i lines ≡ [] = nil_from_length (drop i lines) (omega (arith, length-drop i lines)) in
    sym (ap (resumed front (take i lines)) none ∙ ap Ok (append-nil front)) ∙ so_far

-- the next line fails
pub it_fails : (front : List Line) (lines : List (List ℕ)) (i : ℕ) (fault : Option Reason) (reason : Reason) → fault ≡ Some reason → after_line (i + 1) fault (resumed front (take (i + 1) lines) (drop (i + 1) lines)) ≡ read_script lines → Err (record { line = i + 1; reason = reason }) ≡ read_script lines
it_fails front lines i fault reason is next = sym (ap (λ f. after_line (i + 1) f (resumed front (take (i + 1) lines) (drop (i + 1) lines))) is) ∙ next

-- the next line is an instruction
pub it_goes : (front : List Line) (lines : List (List ℕ)) (i : ℕ) (fault : Option Reason) → fault ≡ None → after_line (i + 1) fault (resumed front (take (i + 1) lines) (drop (i + 1) lines)) ≡ read_script lines → resumed front (take (i + 1) lines) (drop (i + 1) lines) ≡ read_script lines
it_goes front lines i fault is next = sym (ap (λ f. after_line (i + 1) f (resumed front (take (i + 1) lines) (drop (i + 1) lines))) is) ∙ next

pub none_is : (fault : Option Reason) → fault ≡ None → IsNone fault
none_is fault is = ap is_some is
