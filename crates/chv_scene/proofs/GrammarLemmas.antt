-- What is read is a scenario.
use Rattle.std.proofs.Common.{◌≡◌, ℕ, ◌+◌, ◌<◌, ◌≤◌, ◌==◌, ◌&&◌, not, Bool, true, false, List, [], ◌∷◌, ◌++◌, length, flat_map, codes, None, Some, Result, Ok, Err, IfOk, refl, sym, ◌∙◌, ap, ap₂, subst, append_assoc, append-nil, length-append, arith}
use Rattle.std.specs.List.{list_all, AllByRecursion}
use Rattle.std.proofs.lemmas.Bool.{and_parts, and_from, ne_eqb}
use Rattle.chv_defs_base.specs.declared.rule.Reason.{Reason}
use Rattle.chv_defs_scene.specs.declared.scene.Asked.{Asked}
use Rattle.chv_defs_scene.specs.declared.scene.OrderStep.{OrderStep}
use Rattle.chv_defs_scene.specs.declared.scene.Line.{Line as Instruction}
use Rattle.chv_defs_scene.specs.declared.scene.Scene.{Scene}
use Rattle.chv_defs_scene.specs.ScenarioLines.{Line, lines_of, Part, Has, Ends, Before, Opening, OpensVcpu, OpensSession, OpensOrder, nothing_before, is_early, most_lines, most_steps, session_line, order_line, script_line, script_lines, top_line}
use Rattle.chv_defs_scene.specs.ScenarioText.{Fault, Place, Outside, InScript, InSession, InOrder, of_scene, with_request, with_session, with_step, with_order, with_instruction, with_script, with_numbers, section, section_part, top_part, read_lines, read_scenario, empty_scene, is_request, is_step, IsSection, Ascend, IsOrder, IsScenario}
use Rattle.chv_defs_scene.specs.SceneText.{vcpu_section, request_line, session_section, step_line, order_section, scene_text}
use Rattle.chv_defs_scene.specs.ScriptReading.{◌>>=◌, IsScript, read_behind, line_between, at_line}
use Rattle.chv_defs_scene.specs.ScriptText.{line_text}
use Rattle.chv_script.proofs.GrammarLemmas.{read_is_script}
use Rattle.chv_script.proofs.ShapeLemmas.{bind_goes}
use Rattle.chv_scene.specs.Answer.{answer_of}
use Rattle.chv_scene.specs.declared.scenario.SceneFault.{SceneFault}
use Rattle.chv_scene.proofs.SpellingLemmas.{with_feed, lines_text, lines_of_text, part_text, session_line_spelled}
use Rattle.chv_scene.proofs.RequestLemmas.{no_feed, feedless, lines_feedless, is_good, line_good}
use Rattle.chv_scene.proofs.OpeningLemmas.{opening_text, MayOpen, IsOpening, top_opens}
use Rattle.chv_scene.proofs.OrderLemmas.{order_line_is}
use Rattle.chv_scene.proofs.ScriptLemmas.{Room, line_instructed, lines_on, script_ended}

-- ---- what is known of what is read

-- the text of a scene without its disks
abbrev pub body_text : Scene → List ℕ
body_text s = flat_map vcpu_section s.vcpus ++ flat_map session_section s.sessions ++ order_section s.order

-- whether each request can stand in a scenario
abbrev pub all_requests : List (List Asked) → Bool
all_requests sessions = list_all (λ (requests : List Asked). list_all is_request requests) sessions

-- what is read of a text outside of the sections, by what stands before it
pub record IsRest (b : Before) (text : List ℕ) (s : Scene) : Type 0 where
  pub spelled : text ≡ body_text s
  pub disks : s.disks ≡ []
  pub vcpus : AllByRecursion IsSection s.vcpus
  pub ascend : Ascend b.next_vcpu s.vcpus
  pub early : is_early b ≡ false → s.vcpus ≡ []
  pub few : length s.sessions + b.sessions ≤ 16
  pub last : b.has_order ≡ true → (s.sessions ≡ []) × (s.order ≡ None)
  pub requests : all_requests s.sessions ≡ true
  pub order : IsOrder s.order

-- the rest of a session's section, and what follows it
pub record IsSessionRest (b : Before) (text : List ℕ) (s : Scene) : Type 0 where
  pub requests : List Asked
  pub rest : Scene
  pub behind : List ℕ
  pub is : record rest { sessions = requests ∷ rest.sessions } ≡ s
  pub spelled : text ≡ flat_map request_line requests ++ codes "end\n" ++ behind
  pub good : list_all is_request requests ≡ true
  pub follows : IsRest b behind rest

-- the rest of the order behind so many steps, and what follows it
pub record IsOrderRest (before : ℕ) (b : Before) (text : List ℕ) (s : Scene) : Type 0 where
  pub steps : List OrderStep
  pub rest : Scene
  pub behind : List ℕ
  pub is : record rest { order = Some steps } ≡ s
  pub spelled : text ≡ flat_map step_line steps ++ codes "end\n" ++ behind
  pub good : list_all is_step steps ≡ true
  pub short : before + length steps ≤ most_steps
  pub follows : IsRest b behind rest

-- an instruction as a line
abbrev pub instruction_line : Instruction → List ℕ
instruction_line l = line_text l ++ codes "\n"

-- the rest of a vCPU's section behind these lines, and what follows it
pub record IsScriptRest (before : List (List ℕ)) (b : Before) (lines : List Line) (s : Scene) : Type 0 where
  pub script : List Instruction
  pub rest : Scene
  pub behind : List ℕ
  pub is : record rest { vcpus = section 0 0 script ∷ rest.vcpus } ≡ s
  pub spelled : lines_text lines ≡ flat_map instruction_line script ++ codes "end\n" ++ behind
  pub read : read_behind before (script_lines lines) ≡ Ok script
  pub short : length before + length script ≤ most_lines
  pub follows : IsRest b behind rest

-- what is known at a place
abbrev Known : Place → Before → List Line → Scene → Type 0
Known Outside b lines s = IsRest b (lines_text lines) s
Known InSession b lines s = IsSessionRest b (lines_text lines) s
Known (InOrder steps) b lines s = IsOrderRest steps b (lines_text lines) s
Known (InScript before) b lines s = IsScriptRest before b lines s

-- what was made sure before it
abbrev Sure : Place → Before → Type 0
Sure (InOrder steps) b = (steps ≤ most_steps) × (b.sessions ≤ 16)
Sure (InScript before) b = (length before ≤ most_lines) × (b.sessions ≤ 16)
Sure place b = b.sessions ≤ 16

-- what was changed was read
pub unchanged : (f : Scene → Scene) (read : Result Scene Fault) (s : Scene) → of_scene f read ≡ Ok s → (t : Scene) × (read ≡ Ok t) × (f t ≡ s)
unchanged f (Ok t) s e = (t, refl, (cc))
unchanged f (Err fault) s e = absurd (cc)

-- ---- a line of a section

one_more : (a b c d : List ℕ) → a ++ ((b ++ c) ++ d) ≡ ((a ++ b) ++ c) ++ d
one_more a b c d = simp append_assoc

session_step : (n : ℕ) (b : Before) (line : Line) (lines : List Line) (s : Scene) (inside outside : Result Scene Fault) (means : Result (Part Asked) Reason) → ((p : Part Asked) → means ≡ Ok p → (with_feed line ≡ part_text request_line p) × (is_good is_request p ≡ true)) → section_part n with_request with_session means inside outside ≡ Ok s → ((t : Scene) → inside ≡ Ok t → IsSessionRest b (lines_text lines) t) → ((t : Scene) → outside ≡ Ok t → IsRest b (lines_text lines) t) → IsSessionRest b (lines_text (line ∷ lines)) s
session_step n b line lines s inside outside (Err reason) known e more after = absurd (cc)
session_step n b line lines s inside outside (Ok Ends) known e more after =
    let found = unchanged with_session outside s e in
    record { requests = []; rest = found.0; behind = lines_text lines; is = found.2; spelled = ap (λ t. t ++ lines_text lines) (known Ends refl).0; good = refl; follows = after found.0 found.1 }
session_step n b line lines s inside outside (Ok (Has request)) known e more after =
    let found = unchanged (with_request request) inside s e in
    let then = more found.0 found.1 in
    let is = known (Has request) refl in
    record {
      requests = request ∷ then.requests;
      rest = then.rest;
      behind = then.behind;
      is = ap (with_request request) then.is ∙ found.2;
      spelled = ap₂ (λ x y. x ++ y) is.0 then.spelled ∙ one_more (request_line request) (flat_map request_line then.requests) (codes "end\n") then.behind;
      good = and_from _ _ is.1 then.good;
      follows = then.follows;
    }

order_step : (n k : ℕ) (b : Before) (line : Line) (lines : List Line) (s : Scene) (inside outside : Result Scene Fault) (means : Result (Part OrderStep) Reason) → k ≤ most_steps → ((p : Part OrderStep) → means ≡ Ok p → (with_feed line ≡ part_text step_line p) × (is_good is_step p ≡ true) × Room most_steps k p) → section_part n with_step with_order means inside outside ≡ Ok s → (k + 1 ≤ most_steps → (t : Scene) → inside ≡ Ok t → IsOrderRest (k + 1) b (lines_text lines) t) → ((t : Scene) → outside ≡ Ok t → IsRest b (lines_text lines) t) → IsOrderRest k b (lines_text (line ∷ lines)) s
order_step n k b line lines s inside outside (Err reason) few known e more after = absurd (cc)
order_step n k b line lines s inside outside (Ok Ends) few known e more after =
    let found = unchanged with_order outside s e in
    record { steps = []; rest = found.0; behind = lines_text lines; is = found.2; spelled = ap (λ t. t ++ lines_text lines) (known Ends refl).0; good = refl; short = omega (arith, few); follows = after found.0 found.1 }
order_step n k b line lines s inside outside (Ok (Has t)) few known e more after =
    let found = unchanged (with_step t) inside s e in
    let is = known (Has t) refl in
    let room : k < most_steps = is.2 in
    let then = more (omega (arith, room)) found.0 found.1 in
    let short = then.short in
    record {
      steps = t ∷ then.steps;
      rest = then.rest;
      behind = then.behind;
      is = ap (with_step t) then.is ∙ found.2;
      spelled = ap₂ (λ x y. x ++ y) is.0 then.spelled ∙ one_more (step_line t) (flat_map step_line then.steps) (codes "end\n") then.behind;
      good = and_from _ _ is.1 then.good;
      short = omega (arith, short);
      follows = then.follows;
    }

-- the instructions of a first line and of those behind it
pub read_on : (before : List (List ℕ)) (text : List ℕ) (lines : List (List ℕ)) (l : Instruction) (rest : List Instruction) → line_between before text lines ≡ Ok l → read_behind (before ++ text ∷ []) lines ≡ Ok rest → read_behind before (text ∷ lines) ≡ Ok (l ∷ rest)
unfolding read_behind
read_on before text lines l rest is others =
    bind_goes (at_line (length before + 1) (line_between before text lines)) (λ m. read_behind (before ++ text ∷ []) lines >>= λ rest. Ok (m ∷ rest)) l (ap (at_line (length before + 1)) is)
    ∙ bind_goes (read_behind (before ++ text ∷ []) lines) (λ rest. Ok (l ∷ rest)) rest others

pub read_none : (before : List (List ℕ)) → read_behind before [] ≡ Ok []
unfolding read_behind
read_none before = refl

script_step : (n : ℕ) (before : List (List ℕ)) (b : Before) (line : Line) (lines : List Line) (s : Scene) (inside outside : Result Scene Fault) (means : Result (Part Instruction) Reason) → script_line before line lines ≡ means → length before ≤ most_lines → section_part n with_instruction with_script means inside outside ≡ Ok s → (length before + 1 ≤ most_lines → (t : Scene) → inside ≡ Ok t → IsScriptRest (before ++ line.text ∷ []) b lines t) → ((t : Scene) → outside ≡ Ok t → IsRest b (lines_text lines) t) → IsScriptRest before b (line ∷ lines) s
script_step n before b line lines s inside outside (Err reason) m few e more after = absurd (cc)
script_step n before b line lines s inside outside (Ok Ends) m few e more after =
    let found = unchanged with_script outside s e in
    let ended = script_ended before line.text line.is_ended lines m in
    record { script = []; rest = found.0; behind = lines_text lines; is = found.2; spelled = ap (λ t. t ++ lines_text lines) ended.0; read = ap (read_behind before) ended.1 ∙ read_none before; short = omega (arith, few); follows = after found.0 found.1 }
script_step n before b line lines s inside outside (Ok (Has l)) m few e more after =
    let found = unchanged (with_instruction l) inside s e in
    let is = line_instructed before line.text line.is_ended lines l m in
    let room = is.room in
    let then = more (omega (arith, room)) found.0 found.1 in
    let short = then.short in
    let on : length (before ++ line.text ∷ []) ≡ length before + 1 = length-append before (line.text ∷ []) in
    record {
      script = l ∷ then.script;
      rest = then.rest;
      behind = then.behind;
      is = ap (with_instruction l) then.is ∙ found.2;
      spelled = ap₂ (λ x y. x ++ y) (is.fed ∙ ap (λ t. t ++ codes "\n") is.is.spelled) then.spelled ∙ one_more (instruction_line l) (flat_map instruction_line then.script) (codes "end\n") then.behind;
      read = ap (read_behind before) (lines_on line lines is.word) ∙ read_on before line.text (script_lines lines) l then.script is.between then.read;
      short = omega (arith, short, on);
      follows = then.follows;
    }

-- ---- a line outside of the sections

and_no : (v : Bool) → (v && false) ≡ false
and_no true = refl
and_no false = refl

no_both : (v : Bool) (G : Type 0) → v ≡ true → v ≡ false → G
no_both v G a b = let both : true ≡ false = sym a ∙ b in absurd (cc)

-- a later line is no early one
late_session : (b : Before) → is_early (record b { sessions = b.sessions + 1 }) ≡ false
late_session b = let more : b.sessions + 1 ≡ 0 → ⊥ = λ e. omega arith in ap (λ v. v && not b.has_order) (ne_eqb (b.sessions + 1) 0 more)

session_rest : (b : Before) (text : List ℕ) (line : List ℕ) (s : Scene) → line ≡ codes "session\n" → MayOpen b OpensSession → IsSessionRest (record b { sessions = b.sessions + 1 }) text s → IsRest b (line ++ text) s
session_rest b text line s opened may is =
    let rest = is.rest in
    let none = is.follows.early (late_session b) in
    let few = is.follows.few in
    subst (IsRest b (line ++ text)) is.is (record {
      spelled = ap₂ (λ x y. x ++ y) opened (is.spelled ∙ ap (λ t. flat_map request_line is.requests ++ codes "end\n" ++ t) (is.follows.spelled ∙ ap (λ vs. flat_map vcpu_section vs ++ flat_map session_section rest.sessions ++ order_section rest.order) none))
          ∙ (session_text is.requests (flat_map session_section rest.sessions) (order_section rest.order)
          ∙ ap (λ vs. flat_map vcpu_section vs ++ flat_map session_section (is.requests ∷ rest.sessions) ++ order_section rest.order) (sym none));
      disks = is.follows.disks;
      vcpus = is.follows.vcpus;
      ascend = is.follows.ascend;
      early = λ e. none;
      few = omega (arith, few);
      last = λ e. no_both b.has_order _ e may.0;
      requests = and_from _ _ is.good is.follows.requests;
      order = is.follows.order;
    })
  where
    session_text : (requests : List Asked) (sessions order : List ℕ) → codes "session\n" ++ ((flat_map request_line requests ++ codes "end\n") ++ (sessions ++ order)) ≡ (session_section requests ++ sessions) ++ order
    session_text requests sessions order = simp append_assoc

order_rest : (b : Before) (text : List ℕ) (line : List ℕ) (s : Scene) → line ≡ codes "order\n" → MayOpen b OpensOrder → IsOrderRest 0 (record b { has_order = true }) text s → IsRest b (line ++ text) s
order_rest b text line s opened may is =
    let rest = is.rest in
    let vcpus = is.follows.early (and_no (b.sessions == 0)) in
    let last = is.follows.last refl in
    let short = is.short in
    subst (IsRest b (line ++ text)) is.is (record {
      spelled = ap₂ (λ x y. x ++ y) opened (is.spelled ∙ ap (λ t. flat_map step_line is.steps ++ codes "end\n" ++ t) (is.follows.spelled ∙ nothing_left rest vcpus last.0 last.1) ∙ append-nil (flat_map step_line is.steps ++ codes "end\n"))
          ∙ ap₂ (λ vs ss. flat_map vcpu_section vs ++ flat_map session_section ss ++ order_section (Some is.steps)) (sym vcpus) (sym last.0);
      disks = is.follows.disks;
      vcpus = is.follows.vcpus;
      ascend = is.follows.ascend;
      early = λ e. vcpus;
      few = is.follows.few;
      last = λ e. no_both b.has_order _ e may;
      requests = is.follows.requests;
      order = (omega (arith, short), is.good);
    })
  where
    nothing_left : (rest : Scene) → rest.vcpus ≡ [] → rest.sessions ≡ [] → rest.order ≡ None → body_text rest ≡ []
    nothing_left rest v s o = ap₂ (λ vs ss. flat_map vcpu_section vs ++ flat_map session_section ss ++ order_section rest.order) v s ∙ ap order_section o

-- the text of a section before others
pub section_text : (opened script vcpus sessions order : List ℕ) → opened ++ ((script ++ codes "end\n") ++ ((vcpus ++ sessions) ++ order)) ≡ ((((opened ++ script) ++ codes "end\n") ++ vcpus) ++ sessions) ++ order
section_text opened script vcpus sessions order = simp append_assoc

vcpu_rest : (b : Before) (lines : List Line) (line : List ℕ) (vcpu fuel : ℕ) (s t : Scene) → line ≡ opening_text (OpensVcpu vcpu fuel) → MayOpen b (OpensVcpu vcpu fuel) → IsScriptRest [] (record b { next_vcpu = vcpu + 1 }) lines t → with_numbers vcpu fuel t ≡ s → IsRest b (line ++ lines_text lines) s
vcpu_rest b lines line vcpu fuel s t opened may is made =
    let rest = is.rest in
    let script = is.script in
    let early : not b.has_order ≡ true = (and_parts (b.sessions == 0) (not b.has_order) may.0).1 in
    let short : 0 + length script ≤ most_lines = is.short in
    let grammar = read_is_script (script_lines lines) script is.read in
    subst (IsRest b (line ++ lines_text lines)) (ap (with_numbers vcpu fuel) is.is ∙ made) (record {
      spelled = ap₂ (λ x y. x ++ y) opened (is.spelled ∙ ap (λ x. flat_map instruction_line script ++ codes "end\n" ++ x) is.follows.spelled)
          ∙ section_text (opening_text (OpensVcpu vcpu fuel)) (flat_map instruction_line script) (flat_map vcpu_section rest.vcpus) (flat_map session_section rest.sessions) (order_section rest.order);
      disks = is.follows.disks;
      vcpus = (record { vcpu = may.2; fuel = may.3; script = subst (λ ls. IsScript ls script) grammar.spelled grammar; short = omega (arith, short) }, is.follows.vcpus);
      ascend = (may.1, is.follows.ascend);
      early = λ e. no_both (is_early b) _ may.0 e;
      few = is.follows.few;
      last = λ e. no_both (not b.has_order) _ early (ap not e);
      requests = is.follows.requests;
      order = is.follows.order;
    })

outside_step : (n : ℕ) (b : Before) (line : Line) (lines : List Line) (s : Scene) (rest : Place → Before → Result Scene Fault) (opens : Result Opening Reason) → b.sessions ≤ 16 → ((o : Opening) → opens ≡ Ok o → IsOpening b (with_feed line) o) → top_part n b opens rest ≡ Ok s → ((place : Place) (now : Before) (t : Scene) → Sure place now → rest place now ≡ Ok t → Known place now lines t) → IsRest b (lines_text (line ∷ lines)) s
outside_step n b line lines s rest (Err reason) sure known e more = absurd (cc)
outside_step n b line lines s rest (Ok (OpensVcpu vcpu fuel)) sure known e more =
    let found = unchanged (with_numbers vcpu fuel) (rest (InScript []) (record b { next_vcpu = vcpu + 1 })) s e in
    let is = known (OpensVcpu vcpu fuel) refl in
    vcpu_rest b lines (with_feed line) vcpu fuel s found.0 is.spelled is.may (more (InScript []) (record b { next_vcpu = vcpu + 1 }) found.0 (omega arith, sure) found.1) found.2
outside_step n b line lines s rest (Ok OpensSession) sure known e more =
    let is = known OpensSession refl in
    let room = is.may.1 in
    session_rest b (lines_text lines) (with_feed line) s is.spelled is.may (more InSession (record b { sessions = b.sessions + 1 }) s (omega (arith, room)) e)
outside_step n b line lines s rest (Ok OpensOrder) sure known e more =
    let is = known OpensOrder refl in
    order_rest b (lines_text lines) (with_feed line) s is.spelled is.may (more (InOrder 0) (record b { has_order = true }) s (omega arith, sure) e)

-- ---- the whole

nothing_read : (b : Before) → b.sessions ≤ 16 → IsRest b [] empty_scene
nothing_read b sure = record { spelled = refl; disks = refl; vcpus = tt; ascend = tt; early = λ e. refl; few = omega (arith, sure); last = λ e. (refl, refl); requests = refl; order = tt }

read_known : (place : Place) (b : Before) (n : ℕ) (lines : List Line) (s : Scene) → Sure place b → feedless lines ≡ true → read_lines place b n lines ≡ Ok s → Known place b lines s
read_known Outside b n [] s sure h e = let none : empty_scene ≡ s = cc in subst (IsRest b []) none (nothing_read b sure)
read_known InSession b n [] s sure h e = absurd (cc)
read_known (InOrder k) b n [] s sure h e = absurd (cc)
read_known (InScript before) b n [] s sure h e = absurd (cc)
read_known Outside b n (line ∷ lines) s sure h e =
    let parts = and_parts (no_feed line.text) (feedless lines) h in
    outside_step n b line lines s (λ place now. read_lines place now (n + 1) lines) (top_line b line) sure (top_opens b line.text line.is_ended) e
    (λ place now t safe. read_known place now (n + 1) lines t safe parts.1)
read_known InSession b n (line ∷ lines) s sure h e =
    let parts = and_parts (no_feed line.text) (feedless lines) h in
    session_step n b line lines s (read_lines InSession b (n + 1) lines) (read_lines Outside b (n + 1) lines) (session_line line)
    (λ p is. (session_line_spelled line.text line.is_ended p is, line_good line.text line.is_ended p parts.0 is)) e
    (λ t. read_known InSession b (n + 1) lines t sure parts.1) (λ t. read_known Outside b (n + 1) lines t sure parts.1)
read_known (InOrder k) b n (line ∷ lines) s sure h e =
    let parts = and_parts (no_feed line.text) (feedless lines) h in
    order_step n k b line lines s (read_lines (InOrder (k + 1)) b (n + 1) lines) (read_lines Outside b (n + 1) lines) (order_line k line) sure.0
    (λ p is. let found = order_line_is k line.text line.is_ended p is in (found.0.spelled, found.0.good, found.1)) e
    (λ more t. read_known (InOrder (k + 1)) b (n + 1) lines t (more, sure.1) parts.1) (λ t. read_known Outside b (n + 1) lines t sure.1 parts.1)
read_known (InScript before) b n (line ∷ lines) s sure h e =
    let parts = and_parts (no_feed line.text) (feedless lines) h in
    script_step n before b line lines s (read_lines (InScript (before ++ line.text ∷ [])) b (n + 1) lines) (read_lines Outside b (n + 1) lines) (script_line before line lines) refl sure.0 e
    (λ more t. read_known (InScript (before ++ line.text ∷ [])) b (n + 1) lines t (subst (λ k. k ≤ most_lines) (sym (length-append before (line.text ∷ []))) more, sure.1) parts.1) (λ t. read_known Outside b (n + 1) lines t sure.1 parts.1)

-- what is read is a scenario
pub read_is_scenario : (text : List ℕ) (s : Scene) → read_scenario text ≡ Ok s → IsScenario text s
read_is_scenario text s e =
    let is = read_known Outside nothing_before 1 (lines_of text) s (omega arith) (lines_feedless text) e in
    let few = is.few in
    record {
      spelled = sym (lines_of_text text) ∙ (is.spelled ∙ ap (λ disks. scene_text (record s { disks = disks })) (sym is.disks));
      disks = is.disks;
      vcpus = is.vcpus;
      ascend = is.ascend;
      few = omega (arith, few);
      requests = is.requests;
      order = is.order;
    }

few_from : (text : List ℕ) (read : Result Scene Fault) → read_scenario text ≡ read → IfOk (answer_of read) (λ (s : Scene). length s.sessions ≤ 16)
few_from text (Ok s) e = (read_is_scenario text s e).few
few_from text (Err fault) e = tt

-- a scene that is answered has few sessions
pub answer_few : (text : List ℕ) (answer : Result Scene SceneFault) → answer ≡ answer_of (read_scenario text) → IfOk answer (λ s. length s.sessions ≤ 16)
answer_few text answer is = subst (λ (a : Result Scene SceneFault). IfOk a (λ s. length s.sessions ≤ 16)) (sym is) (few_from text (read_scenario text) refl)
