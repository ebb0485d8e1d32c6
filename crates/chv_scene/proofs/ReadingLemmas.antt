-- How a reading goes on by a line.
use Rattle.std.proofs.Common.{◌≡◌, ℕ, ◌+◌, Bool, true, false, List, [], ◌∷◌, ◌++◌, length, map, is_some, Option, None, Some, Result, Ok, Err, refl, sym, ◌∙◌, ap, ap₂, subst, append_assoc, length-append}
use Rattle.chv_defs_base.specs.declared.rule.Reason.{Reason}
use Rattle.chv_defs_scene.specs.declared.scene.Asked.{Asked}
use Rattle.chv_defs_scene.specs.declared.scene.OrderStep.{OrderStep}
use Rattle.chv_defs_scene.specs.declared.scene.Line.{Line as Instruction}
use Rattle.chv_defs_scene.specs.declared.scene.Scene.{Scene}
use Rattle.chv_defs_scene.specs.ScenarioLines.{Line, Part, Ends, Opening, OpensVcpu, OpensSession, OpensOrder, at_space, session_word, order_word, at_most, most_steps, top_word, script_lines}
use Rattle.chv_defs_scene.specs.ScenarioText.{Fault, failed, Outside, InScript, InSession, InOrder, of_scene, with_request, with_session, with_step, with_order, with_instruction, with_script, with_numbers, section, section_part, top_part, read_lines}
use Rattle.chv_defs_scene.specs.ScriptText.{line_text}
use Rattle.chv_scene.specs.declared.outside.Passed.{Passed}
use Rattle.chv_scene.specs.declared.outside.Opens.{Opens}
use Rattle.chv_scene.specs.declared.outside.Opens.TheVariants as opens
use Rattle.chv_defs_scene.specs.ScriptReading.{labels_of}
use Rattle.chv_script.specs.Labels.{SameLabels}
use Rattle.chv_scene.specs.Meanings.{Went, opening, opening_of, before_of}
use Rattle.chv_scene.specs.Scripts.{spelled, FitsScript, script_part, WentScript, IsOpened}
use Rattle.chv_scene.specs.Reading.{with_all, nothing_done, with_done, before, before_session, before_order, with_script_lines, read_from, FitsOpen, WentInside, closed, is_outside, resumed, Fits, GoesOn, Opened}
use Rattle.chv_scene.specs.declared.script.OpenScript.{OpenScript}
use Rattle.chv_scene.specs.declared.reading.Done.{Done}
use Rattle.chv_scene.specs.declared.reading.Reading.{Reading}
use Rattle.chv_scene.specs.declared.reading.Open.{Open}
use Rattle.chv_scene.specs.declared.reading.Open.TheVariants as section_of
use Rattle.chv_scene.proofs.OpeningLemmas.{top_opens}
use Rattle.chv_scene.proofs.ScriptLemmas.{part_is, line_instructed, spelled_on, still_fits}

-- ---- what is made of a scene

-- two changes of the scene that was read
of_both : (f g : Scene → Scene) (read : Result Scene Fault) → of_scene f (of_scene g read) ≡ of_scene (λ s. f (g s)) read
of_both f g (Ok s) = refl
of_both f g (Err fault) = refl

-- changes that are equal
of_same : (f g : Scene → Scene) → ((s : Scene) → f s ≡ g s) → (read : Result Scene Fault) → of_scene f read ≡ of_scene g read
of_same f g h (Ok s) = ap Ok (h s)
of_same f g h (Err fault) = refl

-- no change
pub of_none : (read : Result Scene Fault) → of_scene (with_done nothing_done) read ≡ read
of_none (Ok s) = refl
of_none (Err fault) = refl

-- a thing behind others
all_push : {A : Type 0} (onto : A → Scene → Scene) (things : List A) (thing : A) (s : Scene) → with_all onto things (onto thing s) ≡ with_all onto (things ++ thing ∷ []) s
all_push onto [] thing s = refl
all_push onto (t ∷ things) thing s = ap (onto t) (all_push onto things thing s)

-- ---- sections that end

session_ends : (requests : List Asked) (s : Scene) → with_all with_request requests (with_session s) ≡ record s { sessions = requests ∷ s.sessions }
session_ends [] s = refl
session_ends (r ∷ requests) s = ap (with_request r) (session_ends requests s)

order_ends : (steps : List OrderStep) (s : Scene) → with_all with_step steps (with_order s) ≡ record s { order = Some steps }
order_ends [] s = refl
order_ends (t ∷ steps) s = ap (with_step t) (order_ends steps s)

script_ends : (lines : List Instruction) (s : Scene) → with_all with_instruction lines (with_script s) ≡ record s { vcpus = section 0 0 lines ∷ s.vcpus }
script_ends [] s = refl
script_ends (l ∷ lines) s = ap (with_instruction l) (script_ends lines s)

done_session : (d : Done) (requests : List Asked) (s : Scene) → with_done d (with_all with_request requests (with_session s)) ≡ with_done (closed d (section_of.Session requests)) s
done_session d requests s =
    ap (with_done d) (session_ends requests s) ∙ ap (λ sessions. record (with_done d s) { sessions = sessions }) (sym (append_assoc d.sessions (requests ∷ []) s.sessions))

done_order : (d : Done) (steps : List OrderStep) (s : Scene) → with_done (record d { order = None }) (with_all with_step steps (with_order s)) ≡ with_done (closed d (section_of.Order steps)) s
done_order d steps s = ap (with_done (record d { order = None })) (order_ends steps s)

done_script : (d : Done) (o : OpenScript) (s : Scene) → with_done d (with_script_lines o (with_script s)) ≡ with_done (closed d (section_of.Script o)) s
done_script d o s =
    ap (λ t. with_done d (with_numbers o.vcpu o.fuel t)) (script_ends o.lines s)
    ∙ ap (λ vcpus. record (with_done d s) { vcpus = vcpus }) (sym (append_assoc d.vcpus (section o.vcpu o.fuel o.lines ∷ []) s.vcpus))

-- ---- a line outside of the sections

-- a line that has its line feed
abbrev pub whole : List ℕ → Line
whole text = record { text = text; is_ended = true }

-- what is read by what such a line opens
outside_by : Done → ℕ → List Line → Result Opening Reason → Result Scene Fault
outside_by d n lines opens = of_scene (with_done d) (top_part n (before d) opens (λ place now. read_lines place now (n + 1) lines))

-- an open script, by its parts
script_by : Done → ℕ → List Line → ℕ → ℕ → List Instruction → Result Scene Fault
script_by d n lines vcpu fuel script = of_scene (λ s. with_done d (with_numbers vcpu fuel (with_all with_instruction script s))) (read_lines (InScript (map line_text script)) (before d) n lines)

pub opens_script : (d : Done) (text : List ℕ) (vcpu fuel : ℕ) (o : OpenScript) (later : List Line) → top_word (before d) (at_space text).0 (at_space text).1 ≡ Ok (OpensVcpu vcpu fuel) → IsOpened vcpu fuel o later → (n : ℕ) (lines : List Line) → read_from d section_of.Outside n (whole text ∷ lines) ≡ read_from (record d { next_vcpu = vcpu + 1 }) (section_of.Script o) (n + 1) lines
unfolding outside_by script_by
opens_script d text vcpu fuel o later e is n lines =
    let now : Done = record d { next_vcpu = vcpu + 1 } in
    ap (outside_by d n lines) e
    ∙ (of_both (with_done d) (with_numbers vcpu fuel) (read_lines (InScript []) (before now) (n + 1) lines)
    ∙ (ap (λ v. script_by now (n + 1) lines v fuel []) (sym is.numbered)
    ∙ (ap (λ f. script_by now (n + 1) lines o.vcpu f []) (sym is.fuelled)
    ∙ ap (λ ls. script_by now (n + 1) lines o.vcpu o.fuel ls) (sym is.empty))))

pub opens_session : (d : Done) (text : List ℕ) → top_word (before d) (at_space text).0 (at_space text).1 ≡ Ok OpensSession → (n : ℕ) (lines : List Line) → read_from d section_of.Outside n (whole text ∷ lines) ≡ read_from d (section_of.Session []) (n + 1) lines
unfolding outside_by
opens_session d text e n lines = ap (outside_by d n lines) e

none_there : {A : Type 0} (found : Option A) → is_some found ≡ false → found ≡ None
none_there None e = refl
none_there (Some x) e = absurd (cc)

pub opens_order : (d : Done) (text : List ℕ) → top_word (before d) (at_space text).0 (at_space text).1 ≡ Ok OpensOrder → (n : ℕ) (lines : List Line) → read_from d section_of.Outside n (whole text ∷ lines) ≡ read_from d (section_of.Order []) (n + 1) lines
unfolding outside_by
opens_order d text e n lines =
    let none = none_there d.order (top_opens (before d) text true OpensOrder e).may in
    ap (outside_by d n lines) e
    ∙ ap (λ order. of_scene (with_done (record d { order = order })) (read_lines (InOrder 0) (before_order d) (n + 1) lines)) none

-- ---- a line of the open section

-- what is read by what a line of a section means
session_by : Done → List Asked → ℕ → List Line → Result (Part Asked) Reason → Result Scene Fault
session_by d requests n lines means =
    of_scene (λ s. with_done d (with_all with_request requests s)) (section_part n with_request with_session means (read_lines InSession (before_session d) (n + 1) lines) (read_lines Outside (before_session d) (n + 1) lines))

order_by : Done → List OrderStep → ℕ → List Line → Result (Part OrderStep) Reason → Result Scene Fault
order_by d steps n lines means =
    of_scene (λ s. with_done (record d { order = None }) (with_all with_step steps s)) (section_part n with_step with_order means (read_lines (InOrder (length steps + 1)) (before_order d) (n + 1) lines) (read_lines Outside (before_order d) (n + 1) lines))

script_line_by : Done → OpenScript → List ℕ → ℕ → List Line → Result (Part Instruction) Reason → Result Scene Fault
script_line_by d o text n lines means =
    of_scene (λ s. with_done d (with_script_lines o s)) (section_part n with_instruction with_script means (read_lines (InScript (spelled o ++ text ∷ [])) (before d) (n + 1) lines) (read_lines Outside (before d) (n + 1) lines))

script_is : (d : Done) (o : OpenScript) (text : List ℕ) (n : ℕ) (lines : List Line) → FitsScript o (whole text ∷ lines) → read_from d (section_of.Script o) n (whole text ∷ lines) ≡ script_line_by d o text n lines (script_part o text)
unfolding script_line_by
script_is d o text n lines fits = ap (script_line_by d o text n lines) (part_is o text lines fits)

-- one that fails
pub inside_fails : (d : Done) (old new : Open) (text : List ℕ) (reason : Reason) (lines : List Line) → WentInside old new (Err reason) text → FitsOpen old (whole text ∷ lines) → (n : ℕ) → read_from d old n (whole text ∷ lines) ≡ failed n reason
unfolding session_by order_by script_line_by
inside_fails d section_of.Outside new text reason lines went fits n = absurd went
inside_fails d (section_of.Session requests) new text reason lines went fits n = ap (session_by d requests n lines) went.2
inside_fails d (section_of.Order steps) new text reason lines went fits n = ap (order_by d steps n lines) went.2
inside_fails d (section_of.Script o) new text reason lines went fits n = script_is d o text n lines fits ∙ ap (script_line_by d o text n lines) went.2.lines

-- one behind which the section goes on
session_goes : (d : Done) (old new : List Asked) (text : List ℕ) (lines : List Line) → Went old new (Ok true) (session_word (at_space text).0 (at_space text).1) → (n : ℕ) → read_from d (section_of.Session old) n (whole text ∷ lines) ≡ read_from d (section_of.Session new) (n + 1) lines
unfolding session_by
session_goes d old new text lines went n =
    let read = read_lines InSession (before_session d) (n + 1) lines in
    ap (session_by d old n lines) went.1
    ∙ (of_both (λ s. with_done d (with_all with_request old s)) (with_request went.0) read
    ∙ (of_same _ _ (λ s. ap (with_done d) (all_push with_request old went.0 s)) read
    ∙ ap (λ rs. read_from d (section_of.Session rs) (n + 1) lines) (sym went.2)))

order_goes : (d : Done) (old new : List OrderStep) (text : List ℕ) (lines : List Line) → Went old new (Ok true) (at_most most_steps (length old) (order_word (at_space text).0 (at_space text).1)) → (n : ℕ) → read_from d (section_of.Order old) n (whole text ∷ lines) ≡ read_from d (section_of.Order new) (n + 1) lines
unfolding order_by
order_goes d old new text lines went n =
    let read = read_lines (InOrder (length old + 1)) (before_order d) (n + 1) lines in
    let none : Done = record d { order = None } in
    ap (order_by d old n lines) went.1
    ∙ (of_both (λ s. with_done none (with_all with_step old s)) (with_step went.0) read
    ∙ (of_same _ _ (λ s. ap (with_done none) (all_push with_step old went.0 s)) read
    ∙ (ap (λ k. of_scene (λ s. with_done none (with_all with_step (old ++ went.0 ∷ []) s)) (read_lines (InOrder k) (before_order d) (n + 1) lines)) (sym (length-append old (went.0 ∷ [])))
    ∙ ap (λ ts. read_from d (section_of.Order ts) (n + 1) lines) (sym went.2))))

script_goes : (d : Done) (old new : OpenScript) (text : List ℕ) (lines : List Line) → WentScript old new (Ok true) text → FitsScript old (whole text ∷ lines) → ((n : ℕ) → read_from d (section_of.Script old) n (whole text ∷ lines) ≡ read_from d (section_of.Script new) (n + 1) lines) × FitsScript new lines
unfolding script_line_by script_by
script_goes d old new text lines went fits =
    let l = went.lines.0 in
    let put = went.lines.2 in
    let is = line_instructed (spelled old) text true lines l (part_is old text lines fits ∙ went.lines.1) in
    let on = spelled_on old new l text put is.is.spelled in (
      λ n.
          let read = read_lines (InScript (spelled old ++ text ∷ [])) (before d) (n + 1) lines in
          script_is d old text n lines fits
          ∙ (ap (script_line_by d old text n lines) went.lines.1
          ∙ (of_both (λ s. with_done d (with_script_lines old s)) (with_instruction l) read
          ∙ (of_same _ _ (λ s. ap (λ t. with_done d (with_numbers old.vcpu old.fuel t)) (all_push with_instruction old.lines l s)) read
          ∙ (ap (λ ts. of_scene (λ s. with_done d (with_numbers old.vcpu old.fuel (with_all with_instruction (old.lines ++ l ∷ []) s))) (read_lines (InScript ts) (before d) (n + 1) lines)) (sym on)
          ∙ (ap (λ ls. of_scene (λ s. with_done d (with_numbers old.vcpu old.fuel (with_all with_instruction ls s))) (read_lines (InScript (spelled new)) (before d) (n + 1) lines)) (sym put)
          ∙ (ap (λ v. of_scene (λ s. with_done d (with_numbers v old.fuel (with_all with_instruction new.lines s))) (read_lines (InScript (spelled new)) (before d) (n + 1) lines)) (sym went.vcpu)
          ∙ ap (λ f. of_scene (λ s. with_done d (with_numbers new.vcpu f (with_all with_instruction new.lines s))) (read_lines (InScript (spelled new)) (before d) (n + 1) lines)) (sym went.fuel))))))),
      still_fits old new text lines l fits is put went.all went.labels,
    )

pub inside_goes : (d : Done) (old new : Open) (text : List ℕ) (lines : List Line) → WentInside old new (Ok true) text → FitsOpen old (whole text ∷ lines) → ((n : ℕ) → read_from d old n (whole text ∷ lines) ≡ read_from d new (n + 1) lines) × FitsOpen new lines
inside_goes d section_of.Outside new text lines went fits = absurd went
inside_goes d (section_of.Session old) new text lines went fits =
    subst (λ o. ((n : ℕ) → read_from d (section_of.Session old) n (whole text ∷ lines) ≡ read_from d o (n + 1) lines) × FitsOpen o lines) (sym went.1) (session_goes d old went.0 text lines went.2, tt)
inside_goes d (section_of.Order old) new text lines went fits =
    subst (λ o. ((n : ℕ) → read_from d (section_of.Order old) n (whole text ∷ lines) ≡ read_from d o (n + 1) lines) × FitsOpen o lines) (sym went.1) (order_goes d old went.0 text lines went.2, tt)
inside_goes d (section_of.Script old) new text lines went fits =
    subst (λ o. ((n : ℕ) → read_from d (section_of.Script old) n (whole text ∷ lines) ≡ read_from d o (n + 1) lines) × FitsOpen o lines) (sym went.1) (script_goes d old went.0 text lines went.2 fits)

-- one that ends the section
ends_by : (d : Done) (old new : Open) (n : ℕ) (lines : List Line) (line : Line) → new ≡ old → read_from d old n (line ∷ lines) ≡ read_from (closed d old) section_of.Outside (n + 1) lines → read_from d old n (line ∷ lines) ≡ read_from (closed d new) section_of.Outside (n + 1) lines
ends_by d old new n lines line same h = h ∙ ap (λ o. read_from (closed d o) section_of.Outside (n + 1) lines) (sym same)

session_closes : (d : Done) (old : List Asked) (text : List ℕ) (lines : List Line) → session_word (at_space text).0 (at_space text).1 ≡ Ok Ends → (n : ℕ) → read_from d (section_of.Session old) n (whole text ∷ lines) ≡ read_from (closed d (section_of.Session old)) section_of.Outside (n + 1) lines
unfolding session_by
session_closes d old text lines e n =
    let read = read_lines Outside (before_session d) (n + 1) lines in
    ap (session_by d old n lines) e
    ∙ (of_both (λ s. with_done d (with_all with_request old s)) with_session read
    ∙ (of_same _ _ (done_session d old) read
    ∙ ap (λ k. of_scene (with_done (closed d (section_of.Session old))) (read_lines Outside (record (before d) { sessions = k }) (n + 1) lines)) (sym (length-append d.sessions (old ∷ [])))))

order_closes : (d : Done) (old : List OrderStep) (text : List ℕ) (lines : List Line) → at_most most_steps (length old) (order_word (at_space text).0 (at_space text).1) ≡ Ok Ends → (n : ℕ) → read_from d (section_of.Order old) n (whole text ∷ lines) ≡ read_from (closed d (section_of.Order old)) section_of.Outside (n + 1) lines
unfolding order_by
order_closes d old text lines e n =
    let read = read_lines Outside (before_order d) (n + 1) lines in
    ap (order_by d old n lines) e
    ∙ (of_both (λ s. with_done (record d { order = None }) (with_all with_step old s)) with_order read
    ∙ of_same _ _ (done_order d old) read)

script_closes : (d : Done) (old : OpenScript) (text : List ℕ) (lines : List Line) → script_part old text ≡ Ok Ends → FitsScript old (whole text ∷ lines) → (n : ℕ) → read_from d (section_of.Script old) n (whole text ∷ lines) ≡ read_from (closed d (section_of.Script old)) section_of.Outside (n + 1) lines
unfolding script_line_by
script_closes d old text lines e fits n =
    let read = read_lines Outside (before d) (n + 1) lines in
    script_is d old text n lines fits
    ∙ (ap (script_line_by d old text n lines) e
    ∙ (of_both (λ s. with_done d (with_script_lines old s)) with_script read
    ∙ of_same _ _ (done_script d old) read))

-- the closed section by its parts
closed_same : (d : Done) (old new : OpenScript) → new.vcpu ≡ old.vcpu → new.fuel ≡ old.fuel → new.lines ≡ old.lines → closed d (section_of.Script old) ≡ closed d (section_of.Script new)
closed_same d old new v f ls =
    ap (λ n. record d { vcpus = d.vcpus ++ section n old.fuel old.lines ∷ [] }) (sym v)
    ∙ (ap (λ n. record d { vcpus = d.vcpus ++ section new.vcpu n old.lines ∷ [] }) (sym f)
    ∙ ap (λ script. record d { vcpus = d.vcpus ++ section new.vcpu new.fuel script ∷ [] }) (sym ls))

pub inside_ends : (d : Done) (old new : Open) (text : List ℕ) (lines : List Line) → WentInside old new (Ok false) text → FitsOpen old (whole text ∷ lines) → (n : ℕ) → read_from d old n (whole text ∷ lines) ≡ read_from (closed d new) section_of.Outside (n + 1) lines
inside_ends d section_of.Outside new text lines went fits n = absurd went
inside_ends d (section_of.Session old) new text lines went fits n =
    ends_by d (section_of.Session old) new n lines (whole text) (went.1 ∙ ap section_of.Session went.2.1) (session_closes d old text lines went.2.0 n)
inside_ends d (section_of.Order old) new text lines went fits n =
    ends_by d (section_of.Order old) new n lines (whole text) (went.1 ∙ ap section_of.Order went.2.1) (order_closes d old text lines went.2.0 n)
inside_ends d (section_of.Script old) new text lines went fits n =
    script_closes d old text lines went.2.lines.0 fits n
    ∙ (ap (λ e. read_from e section_of.Outside (n + 1) lines) (closed_same d old went.0 went.2.vcpu went.2.fuel went.2.lines.1)
    ∙ ap (λ o. read_from (closed d o) section_of.Outside (n + 1) lines) (sym went.1))

-- ---- a reading

is_out : (o : Open) → is_outside o ≡ true → o ≡ section_of.Outside
is_out section_of.Outside h = refl
is_out (section_of.Script s) h = absurd (cc)
is_out (section_of.Session s) h = absurd (cc)
is_out (section_of.Order s) h = absurd (cc)

-- the labels of a section of which no line was read
fresh_fits : (vcpu fuel : ℕ) (s : OpenScript) (lines : List Line) → IsOpened vcpu fuel s lines → FitsScript s lines
fresh_fits vcpu fuel s lines is = record {
  passed = subst (λ ls. SameLabels s.passed.keys (labels_of (map line_text ls))) (sym is.empty) is.passed;
  all = subst (λ ls. SameLabels s.all.keys (labels_of (map line_text ls ++ script_lines lines))) (sym is.empty) is.all;
}

opens_on : (d : Done) (new : Reading) (text : List ℕ) (o : Opens) (lines : List Line) → top_word (before d) (at_space text).0 (at_space text).1 ≡ Ok (opening o) → Opened d o new lines → ((n : ℕ) → read_from d section_of.Outside n (whole text ∷ lines) ≡ resumed new (n + 1) lines) × Fits new lines
opens_on d new text (opens.Vcpu vcpu fuel) lines e is =
    let s = is.1.0 in (
      λ n. opens_script d text vcpu fuel s lines e is.1.2 n lines ∙ sym (ap₂ (λ d o. read_from d o (n + 1) lines) is.0 is.1.1),
      subst (λ o. FitsOpen o lines) (sym is.1.1) (fresh_fits vcpu fuel s lines is.1.2),
    )
opens_on d new text opens.Session lines e is = (
  λ n. opens_session d text e n lines ∙ sym (ap₂ (λ d o. read_from d o (n + 1) lines) is.0 is.1),
  subst (λ o. FitsOpen o lines) (sym is.1) tt,
)
opens_on d new text opens.Order lines e is = (
  λ n. opens_order d text e n lines ∙ sym (ap₂ (λ d o. read_from d o (n + 1) lines) is.0 is.1),
  subst (λ o. FitsOpen o lines) (sym is.1) tt,
)

-- what a line means by what was passed
by_passed : (d : Done) (p : Passed) (text : List ℕ) (found : Result Opens Reason) → before_of p ≡ before d → opening_of found ≡ top_word (before_of p) (at_space text).0 (at_space text).1 → top_word (before d) (at_space text).0 (at_space text).1 ≡ opening_of found
by_passed d p text found same is = ap (λ b. top_word b (at_space text).0 (at_space text).1) (sym same) ∙ sym is

-- a line outside of the sections that opens one
pub top_goes : (old new : Reading) (p : Passed) (text : List ℕ) (found : Result Opens Reason) (o : Opens) (lines : List Line) → is_outside old.open ≡ true → before_of p ≡ before old.done → opening_of found ≡ top_word (before_of p) (at_space text).0 (at_space text).1 → found ≡ Ok o → Opened old.done o new lines → GoesOn old new (whole text) lines None
top_goes old new p text found o lines out same is opens begun =
    let goes = opens_on old.done new text o lines (by_passed old.done p text found same is ∙ ap opening_of opens) begun in
    record { read = λ n. ap (λ op. read_from old.done op n (whole text ∷ lines)) (is_out old.open out) ∙ goes.0 n; fits = goes.1 }

-- a line of the open section, behind which it goes on
pub next_goes : (old new : Reading) (text : List ℕ) (went : Result Bool Reason) → new.done ≡ old.done → WentInside old.open new.open went text → went ≡ Ok true → (lines : List Line) → FitsOpen old.open (whole text ∷ lines) → GoesOn old new (whole text) lines None
next_goes old new text went done is on lines fits =
    let goes = inside_goes old.done old.open new.open text lines (subst (λ w. WentInside old.open new.open w text) on is) fits in
    record { read = λ n. goes.0 n ∙ ap (λ d. read_from d new.open (n + 1) lines) (sym done); fits = goes.1 }

-- one that ends it
pub next_ends : (old mid new : Reading) (text : List ℕ) (went : Result Bool Reason) → mid.done ≡ old.done → WentInside old.open mid.open went text → went ≡ Ok false → new.done ≡ closed mid.done mid.open → new.open ≡ section_of.Outside → (lines : List Line) → FitsOpen old.open (whole text ∷ lines) → GoesOn old new (whole text) lines None
next_ends old mid new text went done is off shut out lines fits = record {
  read = λ n. inside_ends old.done old.open mid.open text lines (subst (λ w. WentInside old.open mid.open w text) off is) fits n
      ∙ (ap (λ d. read_from (closed d mid.open) section_of.Outside (n + 1) lines) (sym done)
      ∙ sym (ap₂ (λ d o. read_from d o (n + 1) lines) shut out));
  fits = subst (λ o. FitsOpen o lines) (sym out) tt;
}

-- one that fails
pub next_fails : (old new : Reading) (text : List ℕ) (went : Result Bool Reason) (reason : Reason) → WentInside old.open new.open went text → went ≡ Err reason → (lines : List Line) → FitsOpen old.open (whole text ∷ lines) → GoesOn old new (whole text) lines (Some reason)
next_fails old new text went reason is fails lines fits = record {
  read = inside_fails old.done old.open new.open text reason lines (subst (λ w. WentInside old.open new.open w text) fails is) fits;
  fits = tt;
}
