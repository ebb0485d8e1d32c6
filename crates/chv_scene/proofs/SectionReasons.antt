-- A line of a section fails for the first reason that holds of it.
use Rattle.std.proofs.Common.{◌≡◌, ◌≢◌, ◌⊎◌, inl, inr, ℕ, ◌-◌, ◌^◌, ◌<◌, not, nat_lt, Bool, true, false, cond, List, [], ◌∷◌, ◌++◌, length, codes, Option, None, Some, Result, Ok, Err, refl, sym, ◌∙◌, ap, subst, arith}
use Rattle.std.specs.Str.{bytes_eq}
use Rattle.std.proofs.lemmas.Bool.{cond-true, cond-false, ltb-false}
use Rattle.std.proofs.lemmas.Slice.Eq.{bytes_eq-Decides}
use Rattle.chv_defs_base.specs.declared.rule.Reason.{Reason}
use Rattle.chv_defs_base.specs.declared.rule.Reason.TheVariants.{UnknownWord, FieldCount, BadName, TooMany}
use Rattle.chv_defs_scene.specs.declared.scene.Asked.{Asked}
use Rattle.chv_defs_scene.specs.declared.scene.Asked.TheVariants as asked
use Rattle.chv_defs_scene.specs.declared.scene.OrderStep.{OrderStep}
use Rattle.chv_defs_scene.specs.declared.scene.OrderStep.TheVariants as step
use Rattle.chv_defs_scene.specs.declared.scene.Line.{Line as Instruction}
use Rattle.chv_defs_scene.specs.declared.scene.Line.TheVariants as instruction
use Rattle.chv_defs_scene.specs.LineShapes.{Kind, RouteName, Pairs, Number, kinds_of, FieldsFail, FieldsFit, session_shapes, order_shapes}
use Rattle.chv_defs_scene.specs.ScenarioLines.{at_space, is_route_name, Part, Has, Ends, end_line, at_most, get_line, put_name, put_line, raw_line, session_word, number_line, queue_line, order_word, most_steps, most_lines, instructed, script_word}
use Rattle.chv_defs_scene.specs.ScriptReading.{fields_of, line_of, line_between, labels_of, has_label, own_label, target, is_there, is_missing}
use Rattle.chv_script.specs.Fields.{fields_behind}
use Rattle.chv_script.specs.Reasons.{LooksLike, LooksWrong, IsLabelTwice, JumpsNowhere}
use Rattle.chv_script.proofs.FieldLemmas.{field_there}
use Rattle.chv_script.proofs.GrammarLemmas.{IsRead, line_read}
use Rattle.chv_script.proofs.InstructionLemmas.{line_again}
use Rattle.chv_script.proofs.ReasonLemmas.{Judges, by_word, no_word, line_looks, instruction_fails}
use Rattle.chv_scene.specs.Reasons.{PutFails, RequestFails, StepFails, ScriptLineFails}
use Rattle.chv_scene.proofs.ScriptLemmas.{first_of_fields}
use Rattle.chv_scene.proofs.FieldReasons.{single_judged, nothing_judged, read_names, read_pairs, read_numbers, test_failed, not_both}

-- ---- lines with words

-- what is judged by a word and the fields behind it is by all fields
pub wrong_fields : (shapes : List (List ℕ × List Kind)) (text : List ℕ) (reason : Reason) → FieldsFail (kinds_of shapes (at_space text).0) (fields_behind (at_space text).1) reason → LooksWrong shapes (fields_of text) reason
wrong_fields shapes text reason h = subst (λ fields. LooksWrong shapes fields reason) (sym (first_of_fields text)) h

pub right_fields : (shapes : List (List ℕ × List Kind)) (text : List ℕ) → FieldsFit (kinds_of shapes (at_space text).0) (fields_behind (at_space text).1) → LooksLike shapes (fields_of text)
right_fields shapes text h = subst (LooksLike shapes) (sym (first_of_fields text)) h

pub end_judged : {A : Type 0} (fields : Option (List ℕ)) → (let read : Result (Part A) Reason = end_line fields in Judges (Some []) (fields_behind fields) read)
end_judged None = nothing_judged Ends None
end_judged (Some text) = nothing_judged Ends (Some text)

-- ---- requests

get_judged : (fields : Option (List ℕ)) → Judges (Some (RouteName ∷ [])) (fields_behind fields) (get_line fields)
get_judged None = single_judged (read_names asked.Get) None
get_judged (Some text) = single_judged (read_names asked.Get) (Some text)

raw_judged : (fields : Option (List ℕ)) → Judges (Some (Pairs ∷ [])) (fields_behind fields) (raw_line fields)
raw_judged None = single_judged read_pairs None
raw_judged (Some text) = single_judged read_pairs (Some text)

name_fails : (name : List ℕ) (body : Option (List ℕ)) (reason : Reason) → put_name name body ≡ Err reason → ((body ≡ Some []) × (reason ≡ FieldCount)) ⊎ ((body ≢ Some []) × (is_route_name name ≡ false) × (reason ≡ BadName))
name_fails name None reason e = let found = test_failed (is_route_name name) (Has (asked.Put name None)) BadName reason e in inr ((λ h. cc), found.0, found.1)
name_fails name (Some []) reason e = inl (refl, (cc))
name_fails name (Some (b ∷ body)) reason e = let found = test_failed (is_route_name name) (Has (asked.Put name (Some (b ∷ body)))) BadName reason e in inr ((λ h. cc), found.0, found.1)

put_fails : (fields : Option (List ℕ)) (reason : Reason) → put_line fields ≡ Err reason → PutFails fields reason
put_fails None reason e = let is : reason ≡ FieldCount = cc in is
put_fails (Some fields) reason e = name_fails (at_space fields).0 (at_space fields).1 reason e

-- the lines but for `put`
abbrev other_request : List ℕ → Option (List ℕ) → Result (Part Asked) Reason
other_request word fields =
    cond (bytes_eq word (codes "get")) (get_line fields) (
    cond (bytes_eq word (codes "raw")) (raw_line fields) (
    cond (bytes_eq word (codes "end")) (end_line fields) (Err UnknownWord)))

other_judged : (word : List ℕ) (fields : Option (List ℕ)) → Judges (kinds_of session_shapes word) (fields_behind fields) (other_request word fields)
other_judged word fields =
    by_word (bytes_eq word (codes "get")) _ _ (fields_behind fields) _ _ (get_judged fields) (
    by_word (bytes_eq word (codes "raw")) _ _ (fields_behind fields) _ _ (raw_judged fields) (
    by_word (bytes_eq word (codes "end")) _ _ (fields_behind fields) _ _ (end_judged fields) (
    no_word (fields_behind fields))))

pub request_fails : (text : List ℕ) (reason : Reason) → session_word (at_space text).0 (at_space text).1 ≡ Err reason → RequestFails text reason
request_fails text reason e = by_put (bytes_eq (at_space text).0 (codes "put")) refl
  where
    by_put : (v : Bool) → bytes_eq (at_space text).0 (codes "put") ≡ v → RequestFails text reason
    by_put true is = inl (is, put_fails (at_space text).1 reason (ap (λ word. session_word word (at_space text).1) (sym ((bytes_eq-Decides (at_space text).0 (codes "put")).0 is)) ∙ e))
    by_put false is =
        let rest = cond (bytes_eq (at_space text).0 (codes "raw")) (raw_line (at_space text).1) (cond (bytes_eq (at_space text).0 (codes "end")) (end_line (at_space text).1) (Err UnknownWord)) in
        let read = ap (cond (bytes_eq (at_space text).0 (codes "get")) (get_line (at_space text).1)) (sym (cond-false (bytes_eq (at_space text).0 (codes "put")) (put_line (at_space text).1) rest is)) ∙ e in
        inr (is, wrong_fields session_shapes text reason ((other_judged (at_space text).0 (at_space text).1).fails reason read))

-- ---- steps

number_judged : (make : ℕ → OrderStep) (fields : Option (List ℕ)) → Judges (Some (Number 0 (2 ^ 64 - 1) ∷ [])) (fields_behind fields) (number_line make fields)
number_judged make None = single_judged (read_numbers make) None
number_judged make (Some text) = single_judged (read_numbers make) (Some text)

queue_judged : (fields : Option (List ℕ)) → Judges (Some []) (fields_behind fields) (queue_line fields)
queue_judged None = nothing_judged (Has step.Queue) None
queue_judged (Some text) = nothing_judged (Has step.Queue) (Some text)

order_judged : (word : List ℕ) (fields : Option (List ℕ)) → Judges (kinds_of order_shapes word) (fields_behind fields) (order_word word fields)
order_judged word fields =
    by_word (bytes_eq word (codes "s")) _ _ (fields_behind fields) _ _ (number_judged step.Session fields) (
    by_word (bytes_eq word (codes "v")) _ _ (fields_behind fields) _ _ (number_judged step.Vcpu fields) (
    by_word (bytes_eq word (codes "q")) _ _ (fields_behind fields) _ _ (queue_judged fields) (
    by_word (bytes_eq word (codes "end")) _ _ (fields_behind fields) _ _ (end_judged fields) (
    no_word (fields_behind fields)))))

-- a thing too many
too_many : {A : Type 0} (v : Bool) (thing : A) (reason : Reason) → cond v (Ok (Has thing)) (Err TooMany) ≡ Err reason → (v ≡ false) × (reason ≡ TooMany)
too_many true thing reason e = absurd (cc)
too_many false thing reason e = (refl, (cc))

false_from : (v : Bool) → (v ≡ true → ⊥) → v ≡ false
false_from true h = absurd (h refl)
false_from false h = refl

no_thing : {A : Type 0} (fields : Option (List ℕ)) (thing : A) → end_line fields ≡ Ok (Has thing) → ⊥
no_thing None thing e = cc
no_thing (Some fields) thing e = cc

steps_fail : (steps : ℕ) (text : List ℕ) (reason : Reason) (found : Result (Part OrderStep) Reason) → order_word (at_space text).0 (at_space text).1 ≡ found → at_most most_steps steps found ≡ Err reason → StepFails steps text reason
steps_fail steps text reason (Err why) is e =
    let same : why ≡ reason = cc in
    inl (wrong_fields order_shapes text reason ((order_judged (at_space text).0 (at_space text).1).fails reason (is ∙ ap Err same)))
steps_fail steps text reason (Ok Ends) is e = absurd (cc)
steps_fail steps text reason (Ok (Has thing)) is e =
    let found = too_many (nat_lt steps most_steps) thing reason e in
    let no_end = false_from (bytes_eq (at_space text).0 (codes "end")) (λ h. no_thing (at_space text).1 thing (ap (λ word. order_word word (at_space text).1) (sym ((bytes_eq-Decides (at_space text).0 (codes "end")).0 h)) ∙ is)) in
    inr (right_fields order_shapes text ((order_judged (at_space text).0 (at_space text).1).fits (Has thing) is), no_end, ltb-false steps most_steps found.0, found.1)

pub step_fails : (steps : ℕ) (text : List ℕ) (reason : Reason) → at_most most_steps steps (order_word (at_space text).0 (at_space text).1) ≡ Err reason → StepFails steps text reason
step_fails steps text reason e = steps_fail steps text reason _ refl e

-- ---- instructions

end_fails : {A : Type 0} (most before : ℕ) (fields : Option (List ℕ)) (reason : Reason) → (let read : Result (Part A) Reason = at_most most before (end_line fields) in read) ≡ Err reason → (0 < length (fields_behind fields)) × (reason ≡ FieldCount)
end_fails most before None reason e = absurd (cc)
end_fails most before (Some text) reason e = (field_there text, (cc))

one_line : (l m : Instruction) (text : List ℕ) → line_of text ≡ Ok l → line_of text ≡ Ok m → l ≡ m
one_line l m text is also = let both : Ok l ≡ Ok m = sym is ∙ also in cc

not_twice : (before : List (List ℕ)) (text : List ℕ) (behind : List (List ℕ)) (l : Instruction) → IsRead before text behind l → IsLabelTwice before text → ⊥
not_twice before text behind l read (name, id, spelled, there) =
    let same = one_line l (instruction.At name) text (ap line_of read.spelled ∙ line_again l read.fine) (ap line_of spelled ∙ line_again (instruction.At name) id) in
    not_both (ap (λ m. is_there (labels_of before) (own_label m)) (sym same) ∙ read.once) there

not_nowhere : (before : List (List ℕ)) (text : List ℕ) (behind : List (List ℕ)) (l : Instruction) → IsRead before text behind l → JumpsNowhere (before ++ text ∷ behind) text → ⊥
not_nowhere before text behind l read (jump, name, fine, spelled, goes, none) =
    let same = one_line l jump text (ap line_of read.spelled ∙ line_again l read.fine) (ap line_of spelled ∙ line_again jump fine) in
    let missing : is_missing (labels_of (before ++ text ∷ behind)) (Some name) ≡ false = ap (is_missing (labels_of (before ++ text ∷ behind))) (sym (ap target same ∙ goes)) ∙ read.known in
    not_both none (there (has_label (labels_of (before ++ text ∷ behind)) name) missing)
  where
    there : (v : Bool) → not v ≡ false → v ≡ true
    there true h = refl
    there false h = absurd (cc)

script_by : (before : List (List ℕ)) (text : List ℕ) (behind : List (List ℕ)) (reason : Reason) → bytes_eq (at_space text).0 (codes "end") ≡ false → (found : Result Instruction Reason) → line_between before text behind ≡ found → at_most most_lines (length before) (instructed found) ≡ Err reason → ScriptLineFails before text behind reason
script_by before text behind reason word (Err why) is e = let same : why ≡ reason = cc in inr (word, inl (instruction_fails before text behind reason (is ∙ ap Err same)))
script_by before text behind reason word (Ok l) is e =
    let found = too_many (nat_lt (length before) most_lines) l reason e in
    let read = line_read before text behind l is in
    let looks = line_looks (fields_of text) l (ap line_of read.spelled ∙ line_again l read.fine) in
    inr (word, inr (looks, not_twice before text behind l read, not_nowhere before text behind l read, ltb-false (length before) most_lines found.0, found.1))

pub script_line_fails : (before : List (List ℕ)) (text : List ℕ) (behind : List (List ℕ)) (reason : Reason) → at_most most_lines (length before) (script_word before text behind (at_space text).0 (at_space text).1) ≡ Err reason → ScriptLineFails before text behind reason
script_line_fails before text behind reason e = by_end (bytes_eq (at_space text).0 (codes "end")) refl
  where
    by_end : (v : Bool) → bytes_eq (at_space text).0 (codes "end") ≡ v → ScriptLineFails before text behind reason
    by_end true is =
        let found = end_fails most_lines (length before) (at_space text).1 reason (ap (at_most most_lines (length before)) (sym (cond-true (bytes_eq (at_space text).0 (codes "end")) (end_line (at_space text).1) (instructed (line_between before text behind)) is)) ∙ e) in
        let counted : length (fields_of text) ≡ length ((at_space text).0 ∷ fields_behind (at_space text).1) = ap length (first_of_fields text) in
        let some = found.0 in
        inl (is, omega (arith, counted, some), found.1)
    by_end false is = script_by before text behind reason is _ refl (ap (at_most most_lines (length before)) (sym (cond-false (bytes_eq (at_space text).0 (codes "end")) (end_line (at_space text).1) (instructed (line_between before text behind)) is)) ∙ e)
