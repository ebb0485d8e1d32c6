-- The text of a scenario is read as its scene.
use Rattle.std.proofs.Common.{◌≡◌, ℕ, ◌+◌, ◌^◌, ◌<◌, ◌≤◌, ◌==◌, ◌&&◌, not, nat_lt, nat_le, true, false, cond, List, [], ◌∷◌, ◌++◌, length, map, flat_map, codes, Option, None, Some, Ok, Err, refl, sym, ◌∙◌, ap, ap₂, append_assoc, append-nil, length-append, arith}
use Rattle.std.specs.List.{list_all, AllByRecursion}
use Rattle.std.specs.Str.{bytes_eq}
use Rattle.std.proofs.lemmas.Bool.{and_parts, and_from, cond-true, cond-false, lt-ltb, ltb-true, le-leb}
use Rattle.chv_defs_base.specs.Numbers.{dec, dec_text}
use Rattle.chv_defs_base.specs.declared.rule.Reason.TheVariants.{BadNumber, FieldCount, TooMany, OutOfOrder}
use Rattle.chv_defs_scene.specs.declared.scene.Asked.{Asked}
use Rattle.chv_defs_scene.specs.declared.scene.OrderStep.{OrderStep}
use Rattle.chv_defs_scene.specs.declared.scene.OrderStep.TheVariants as step
use Rattle.chv_defs_scene.specs.declared.scene.Line.{Line as Instruction}
use Rattle.chv_defs_scene.specs.declared.scene.Scene.{Scene}
use Rattle.chv_defs_scene.specs.declared.scene.VcpuSection.{VcpuSection}
use Rattle.chv_defs_scene.specs.ScenarioLines.{Line, lines_of, at_space, has_space, Has, end_line, at_most, Before, OpensVcpu, OpensSession, OpensOrder, nothing_before, is_early, most_lines, most_steps, is_end, instructed, script_lines, script_line, numbered, order_word, order_line, ranged, vcpu_numbers, vcpu_fields, in_order, top_line}
use Rattle.chv_defs_scene.specs.ScenarioText.{Outside, InScript, InSession, InOrder, of_scene, with_request, with_session, with_step, with_order, with_instruction, with_script, with_numbers, section, section_part, top_part, read_lines, read_scenario, empty_scene, is_request, is_step, IsSection, Ascend, IsOrder, IsScenario}
use Rattle.chv_defs_scene.specs.SceneText.{vcpu_section, request_line, session_section, step_line, order_section, scene_text}
use Rattle.chv_defs_scene.specs.ScriptReading.{is_instruction, line_between, read_behind}
use Rattle.chv_defs_scene.specs.ScriptText.{line_text, field}
use Rattle.chv_script.proofs.GrammarLemmas.{first_read, read_line, script_is_read}
use Rattle.chv_script.proofs.InstructionLemmas.{line_again, text_no_feed}
use Rattle.chv_script.proofs.KindLemmas.{dec_again, dec_plain, plain_no_space, plain_no_feed}
use Rattle.chv_scene.proofs.RequestLemmas.{no_feed}
use Rattle.chv_scene.proofs.ReadBackLemmas.{first_line, no_space, first_field, one_field, joined_no_feed, front_read, request_lines}
use Rattle.chv_scene.proofs.GrammarLemmas.{body_text, all_requests, instruction_line, section_text}
use Rattle.chv_scene.proofs.ScriptLemmas.{no_end, instruction_no_end}

-- ---- the section of a session

-- a section behind its first line, and what follows it
abbrev behind_first : List Asked → List ℕ → List ℕ
behind_first requests rest = (flat_map request_line requests ++ codes "end\n") ++ rest

one_request : (request : Asked) (requests : List Asked) (rest : List ℕ) → behind_first (request ∷ requests) rest ≡ request_line request ++ behind_first requests rest
one_request request requests rest = simp append_assoc

-- the rest of a section is read, where what follows it is
session_read : (b : Before) (requests : List Asked) (rest : List ℕ) (s : Scene) → list_all is_request requests ≡ true → ((n : ℕ) → read_lines Outside b n (lines_of rest) ≡ Ok s) → (n : ℕ) → read_lines InSession b n (lines_of (behind_first requests rest)) ≡ Ok (record s { sessions = requests ∷ s.sessions })
session_read b [] rest s good h n = ap (of_scene with_session) (h (n + 1))
session_read b (request ∷ requests) rest s good h n =
    let parts = and_parts (is_request request) (list_all is_request requests) good in
    let lines = lines_of (behind_first requests rest) in
    ap (read_lines InSession b n) (ap lines_of (one_request request requests rest) ∙ request_lines request (behind_first requests rest) parts.0)
    ∙ (ap (λ means. section_part n with_request with_session means (read_lines InSession b (n + 1) lines) (read_lines Outside b (n + 1) lines)) (front_read request parts.0)
    ∙ ap (of_scene (with_request request)) (session_read b requests rest s parts.1 h (n + 1)))

-- ---- the section of the order

-- a step's line without its line feed
abbrev step_front : OrderStep → List ℕ
step_front (step.Session k) = codes "s" ++ 32 ∷ dec_text k
step_front (step.Vcpu n) = codes "v" ++ 32 ∷ dec_text n
step_front step.Queue = codes "q"

step_lines : (t : OrderStep) (rest : List ℕ) → is_step t ≡ true → lines_of (step_line t ++ rest) ≡ record { text = step_front t; is_ended = true } ∷ lines_of rest
step_lines (step.Session k) rest h = ap lines_of (ap (λ x. codes "s" ++ 32 ∷ x) (append_assoc (dec_text k) (codes "\n") rest)) ∙ first_line (codes "s" ++ 32 ∷ dec_text k) rest (plain_no_feed (dec_text k) (dec_plain k (ltb-true k (2 ^ 64) h)))
step_lines (step.Vcpu n) rest h = ap lines_of (ap (λ x. codes "v" ++ 32 ∷ x) (append_assoc (dec_text n) (codes "\n") rest)) ∙ first_line (codes "v" ++ 32 ∷ dec_text n) rest (plain_no_feed (dec_text n) (dec_plain n (ltb-true n (2 ^ 64) h)))
step_lines step.Queue rest h = refl

number_read : (make : ℕ → OrderStep) (n : ℕ) → nat_lt n (2 ^ 64) ≡ true → cond (has_space (dec_text n)) (Err FieldCount) (numbered make (dec (dec_text n))) ≡ Ok (Has (make n))
number_read make n h =
    let small = ltb-true n (2 ^ 64) h in
    cond-false (has_space (dec_text n)) (Err FieldCount) (numbered make (dec (dec_text n))) (one_field (dec_text n) (plain_no_space (dec_text n) (dec_plain n small)))
    ∙ ap (numbered make) (dec_again n small)

step_word_read : (t : OrderStep) → is_step t ≡ true → order_word (at_space (step_front t)).0 (at_space (step_front t)).1 ≡ Ok (Has t)
step_word_read (step.Session k) h = number_read step.Session k h
step_word_read (step.Vcpu n) h = number_read step.Vcpu n h
step_word_read step.Queue h = refl

step_read : (steps : ℕ) (t : OrderStep) → is_step t ≡ true → steps < most_steps → order_line steps (record { text = step_front t; is_ended = true }) ≡ Ok (Has t)
step_read steps t h room = ap (at_most most_steps steps) (step_word_read t h) ∙ cond-true (nat_lt steps most_steps) (Ok (Has t)) (Err TooMany) (lt-ltb steps most_steps room)

abbrev behind_order : List OrderStep → List ℕ → List ℕ
behind_order steps rest = (flat_map step_line steps ++ codes "end\n") ++ rest

one_step : (t : OrderStep) (steps : List OrderStep) (rest : List ℕ) → behind_order (t ∷ steps) rest ≡ step_line t ++ behind_order steps rest
one_step t steps rest = simp append_assoc

order_read : (b : Before) (k : ℕ) (steps : List OrderStep) (rest : List ℕ) (s : Scene) → k + length steps ≤ most_steps → list_all is_step steps ≡ true → ((n : ℕ) → read_lines Outside b n (lines_of rest) ≡ Ok s) → (n : ℕ) → read_lines (InOrder k) b n (lines_of (behind_order steps rest)) ≡ Ok (record s { order = Some steps })
order_read b k [] rest s few good h n = ap (of_scene with_order) (h (n + 1))
order_read b k (t ∷ steps) rest s few good h n =
    let parts = and_parts (is_step t) (list_all is_step steps) good in
    let lines = lines_of (behind_order steps rest) in
    let room : k < most_steps = omega (arith, few) in
    let less : (k + 1) + length steps ≤ most_steps = omega (arith, few) in
    ap (read_lines (InOrder k) b n) (ap lines_of (one_step t steps rest) ∙ step_lines t (behind_order steps rest) parts.0)
    ∙ (ap (λ means. section_part n with_step with_order means (read_lines (InOrder (k + 1)) b (n + 1) lines) (read_lines Outside b (n + 1) lines)) (step_read k t parts.0 room)
    ∙ ap (of_scene (with_step t)) (order_read b (k + 1) steps rest s less parts.1 h (n + 1)))

-- ---- the section of a vCPU

abbrev pub behind_vcpu : List Instruction → List ℕ → List ℕ
behind_vcpu script rest = flat_map instruction_line script ++ codes "end\n" ++ rest

one_instruction : (l : Instruction) (script : List Instruction) (rest : List ℕ) → behind_vcpu (l ∷ script) rest ≡ line_text l ++ 10 ∷ behind_vcpu script rest
one_instruction l script rest = simp append_assoc

pub instruction_lines : (l : Instruction) (script : List Instruction) (rest : List ℕ) → is_instruction l ≡ true → lines_of (behind_vcpu (l ∷ script) rest) ≡ record { text = line_text l; is_ended = true } ∷ lines_of (behind_vcpu script rest)
instruction_lines l script rest h = ap lines_of (one_instruction l script rest) ∙ first_line (line_text l) (behind_vcpu script rest) (text_no_feed l h)

-- the lines of the script
pub lines_read : (script : List Instruction) (rest : List ℕ) → list_all is_instruction script ≡ true → script_lines (lines_of (behind_vcpu script rest)) ≡ map line_text script
lines_read [] rest h = refl
lines_read (l ∷ script) rest h =
    let parts = and_parts (is_instruction l) (list_all is_instruction script) h in
    let line : Line = record { text = line_text l; is_ended = true } in
    ap script_lines (instruction_lines l script rest parts.0)
    ∙ (cond-false (is_end line) [] (line_text l ∷ script_lines (lines_of (behind_vcpu script rest))) (no_end (line_text l) (instruction_no_end (line_text l) l (line_again l parts.0)))
    ∙ ap (λ ts. line_text l ∷ ts) (lines_read script rest parts.1))

pub instruction_read : (before : List (List ℕ)) (l : Instruction) (lines : List Line) → is_instruction l ≡ true → length before < most_lines → line_between before (line_text l) (script_lines lines) ≡ Ok l → script_line before (record { text = line_text l; is_ended = true }) lines ≡ Ok (Has l)
instruction_read before l lines good room is =
    ap (at_most most_lines (length before)) (cond-false (bytes_eq (at_space (line_text l)).0 (codes "end")) (end_line (at_space (line_text l)).1) (instructed (line_between before (line_text l) (script_lines lines))) (instruction_no_end (line_text l) l (line_again l good)) ∙ ap instructed is)
    ∙ cond-true (nat_lt (length before) most_lines) (Ok (Has l)) (Err TooMany) (lt-ltb (length before) most_lines room)

heads : {A : Type 0} (x y : A) (xs ys : List A) → x ∷ xs ≡ y ∷ ys → (x ≡ y) × (xs ≡ ys)
heads x y xs ys e = (cc, cc)

pub vcpu_read : (b : Before) (before : List (List ℕ)) (script : List Instruction) (rest : List ℕ) (s : Scene) → length before + length script ≤ most_lines → list_all is_instruction script ≡ true → read_behind before (map line_text script) ≡ Ok script → ((n : ℕ) → read_lines Outside b n (lines_of rest) ≡ Ok s) → (n : ℕ) → read_lines (InScript before) b n (lines_of (behind_vcpu script rest)) ≡ Ok (record s { vcpus = section 0 0 script ∷ s.vcpus })
vcpu_read b before [] rest s few good is h n = ap (of_scene with_script) (h (n + 1))
vcpu_read b before (l ∷ script) rest s few good is h n =
    let parts = and_parts (is_instruction l) (list_all is_instruction script) good in
    let lines = lines_of (behind_vcpu script rest) in
    let found = first_read before (line_text l) (map line_text script) (l ∷ script) is in
    let same = heads found.first l found.rest script found.all in
    let between = ap (line_between before (line_text l)) (lines_read script rest parts.1) ∙ (read_line before (line_text l) (map line_text script) found.first found.is ∙ ap Ok same.0) in
    let others = found.others ∙ ap Ok same.1 in
    let on : length (before ++ line_text l ∷ []) ≡ length before + 1 = length-append before (line_text l ∷ []) in
    let room : length before < most_lines = omega (arith, few) in
    let less : length (before ++ line_text l ∷ []) + length script ≤ most_lines = omega (arith, few, on) in
    ap (read_lines (InScript before) b n) (instruction_lines l script rest parts.0)
    ∙ (ap (λ means. section_part n with_instruction with_script means (read_lines (InScript (before ++ line_text l ∷ [])) b (n + 1) lines) (read_lines Outside b (n + 1) lines)) (instruction_read before l lines parts.0 room between)
    ∙ ap (of_scene (with_instruction l)) (vcpu_read b (before ++ line_text l ∷ []) script rest s less parts.1 others h (n + 1)))

-- ---- the line that opens a vCPU's section

vcpu_line : (vcpu fuel : ℕ) (rest : List ℕ) → vcpu ≤ 15 → fuel ≤ 1048576 → lines_of (codes "vcpu" ++ field (dec_text vcpu) ++ field (dec_text fuel) ++ codes "\n" ++ rest) ≡ record { text = codes "vcpu" ++ 32 ∷ (dec_text vcpu ++ 32 ∷ dec_text fuel); is_ended = true } ∷ lines_of rest
vcpu_line vcpu fuel rest v f =
    let plain : no_feed (dec_text vcpu) ≡ true = plain_no_feed (dec_text vcpu) (dec_plain vcpu (omega (arith, v))) in
    let plain_fuel : no_feed (dec_text fuel) ≡ true = plain_no_feed (dec_text fuel) (dec_plain fuel (omega (arith, f))) in
    ap (λ x. lines_of (codes "vcpu" ++ 32 ∷ x)) (append_assoc (dec_text vcpu ++ 32 ∷ dec_text fuel) (codes "\n") rest)
    ∙ first_line (codes "vcpu" ++ 32 ∷ (dec_text vcpu ++ 32 ∷ dec_text fuel)) rest (joined_no_feed (dec_text vcpu) (dec_text fuel) plain plain_fuel)

ranged_read : (high n : ℕ) → n ≤ high → n < 2 ^ 64 → ranged 0 high (dec (dec_text n)) ≡ Ok n
ranged_read high n h small = ap (ranged 0 high) (dec_again n small) ∙ cond-true (nat_le 0 n && nat_le n high) (Ok n) (Err BadNumber) (and_from _ _ (le-leb 0 n (omega arith)) (le-leb n high h))

opening_read : (b : Before) (vcpu fuel : ℕ) → is_early b ≡ true → b.next_vcpu ≤ vcpu → vcpu ≤ 15 → fuel ≤ 1048576 → top_line b (record { text = codes "vcpu" ++ 32 ∷ (dec_text vcpu ++ 32 ∷ dec_text fuel); is_ended = true }) ≡ Ok (OpensVcpu vcpu fuel)
opening_read b vcpu fuel early from v f =
    let plain : no_space (dec_text vcpu) ≡ true = plain_no_space (dec_text vcpu) (dec_plain vcpu (omega (arith, v))) in
    let plain_fuel : no_space (dec_text fuel) ≡ true = plain_no_space (dec_text fuel) (dec_plain fuel (omega (arith, f))) in
    ap (λ (parts : List ℕ × Option (List ℕ)). vcpu_fields b parts.0 parts.1) (first_field (dec_text vcpu) (dec_text fuel) plain)
    ∙ (cond-false (has_space (dec_text fuel)) (Err FieldCount) (vcpu_numbers b (ranged 0 15 (dec (dec_text vcpu))) (ranged 0 1048576 (dec (dec_text fuel)))) (one_field (dec_text fuel) plain_fuel)
    ∙ (ap₂ (vcpu_numbers b) (ranged_read 15 vcpu v (omega (arith, v))) (ranged_read 1048576 fuel f (omega (arith, f)))
    ∙ ap (λ t. in_order t (OpensVcpu vcpu fuel)) (and_from _ _ early (le-leb b.next_vcpu vcpu from))))

-- ---- the whole

-- what follows the vCPUs
order_all : (b : Before) (order : Option (List OrderStep)) → b.has_order ≡ false → IsOrder order → (n : ℕ) → read_lines Outside b n (lines_of (order_section order)) ≡ Ok (record empty_scene { order = order })
order_all b None none good n = refl
order_all b (Some steps) none good n =
    let now : Before = record b { has_order = true } in
    let few : 0 + length steps ≤ most_steps = omega (arith, good.0) in
    let text : order_section (Some steps) ≡ codes "order\n" ++ behind_order steps [] = ap (λ t. codes "order\n" ++ t) (sym (append-nil (flat_map step_line steps ++ codes "end\n"))) in
    ap (λ t. read_lines Outside b n (lines_of t)) text
    ∙ (ap (λ v. top_part n b (in_order (not v) OpensOrder) (λ place after. read_lines place after (n + 1) (lines_of (behind_order steps [])))) none
    ∙ order_read now 0 steps [] empty_scene few good.1 (λ m. refl) (n + 1))

sessions_all : (b : Before) (sessions : List (List Asked)) (order : Option (List OrderStep)) → b.has_order ≡ false → length sessions + b.sessions ≤ 16 → all_requests sessions ≡ true → IsOrder order → (n : ℕ) → read_lines Outside b n (lines_of (flat_map session_section sessions ++ order_section order)) ≡ Ok (record empty_scene { sessions = sessions; order = order })
sessions_all b [] order none few good last n = order_all b order none last n
sessions_all b (requests ∷ sessions) order none few good last n =
    let parts = and_parts (list_all is_request requests) (all_requests sessions) good in
    let rest = flat_map session_section sessions ++ order_section order in
    let now : Before = record b { sessions = b.sessions + 1 } in
    let free : b.sessions < 16 = omega (arith, few) in
    let less : length sessions + now.sessions ≤ 16 = omega (arith, few) in
    let lines = lines_of (behind_first requests rest) in
    ap (λ t. read_lines Outside b n (lines_of t)) (one_session requests (flat_map session_section sessions) (order_section order))
    ∙ (ap (λ v. top_part n b (cond v (Err OutOfOrder) (cond (nat_lt b.sessions 16) (Ok OpensSession) (Err TooMany))) (λ place after. read_lines place after (n + 1) lines)) none
    ∙ (ap (λ opens. top_part n b opens (λ place after. read_lines place after (n + 1) lines)) (cond-true (nat_lt b.sessions 16) (Ok OpensSession) (Err TooMany) (lt-ltb b.sessions 16 free))
    ∙ session_read now requests rest (record empty_scene { sessions = sessions; order = order }) parts.0 (sessions_all now sessions order none less parts.1 last) (n + 1)))
  where
    one_session : (requests : List Asked) (sessions order : List ℕ) → (session_section requests ++ sessions) ++ order ≡ codes "session\n" ++ behind_first requests (sessions ++ order)
    one_session requests sessions order = simp append_assoc

vcpus_all : (b : Before) (vcpus : List VcpuSection) (sessions : List (List Asked)) (order : Option (List OrderStep)) → b.sessions ≡ 0 → b.has_order ≡ false → AllByRecursion IsSection vcpus → Ascend b.next_vcpu vcpus → length sessions ≤ 16 → all_requests sessions ≡ true → IsOrder order → (n : ℕ) → read_lines Outside b n (lines_of (flat_map vcpu_section vcpus ++ flat_map session_section sessions ++ order_section order)) ≡ Ok (record { disks = []; vcpus = vcpus; sessions = sessions; order = order })
vcpus_all b [] sessions order first none fine ascend few good last n = sessions_all b sessions order none (omega (arith, few, first)) good last n
vcpus_all b (v ∷ vcpus) sessions order first none fine ascend few good last n =
    let is = fine.0 in
    let now : Before = record b { next_vcpu = v.vcpu + 1 } in
    let script = v.script.lines in
    let fits = is.short in
    let short : 0 + length script ≤ most_lines = omega (arith, fits) in
    let rest = flat_map vcpu_section vcpus ++ flat_map session_section sessions ++ order_section order in
    let lines = lines_of (behind_vcpu script rest) in
    let early : is_early b ≡ true = ap₂ (λ k o. k == 0 && not o) first none in
    ap (λ t. read_lines Outside b n (lines_of t)) (one_vcpu v (flat_map vcpu_section vcpus) (flat_map session_section sessions) (order_section order))
    ∙ (ap (read_lines Outside b n) (vcpu_line v.vcpu v.fuel (behind_vcpu script rest) is.vcpu is.fuel)
    ∙ (ap (λ opens. top_part n b opens (λ place after. read_lines place after (n + 1) lines)) (opening_read b v.vcpu v.fuel early ascend.0 is.vcpu is.fuel)
    ∙ ap (of_scene (with_numbers v.vcpu v.fuel)) (vcpu_read now [] script rest (record { disks = []; vcpus = vcpus; sessions = sessions; order = order }) short is.script.instructions (script_is_read (map line_text script) script is.script) (vcpus_all now vcpus sessions order first none fine.1 ascend.1 few good last) (n + 1))))
  where
    one_vcpu : (v : VcpuSection) (vcpus sessions order : List ℕ) → ((vcpu_section v ++ vcpus) ++ sessions) ++ order ≡ codes "vcpu" ++ field (dec_text v.vcpu) ++ field (dec_text v.fuel) ++ codes "\n" ++ behind_vcpu v.script.lines ((vcpus ++ sessions) ++ order)
    one_vcpu v vcpus sessions order = sym (section_text (codes "vcpu" ++ field (dec_text v.vcpu) ++ field (dec_text v.fuel) ++ codes "\n") (flat_map instruction_line v.script.lines) vcpus sessions order)

-- a scenario is read as its scene
pub scenario_is_read : (text : List ℕ) (s : Scene) → IsScenario text s → read_scenario text ≡ Ok s
scenario_is_read text s is =
    let spelled : text ≡ body_text s = is.spelled ∙ ap (λ disks. scene_text (record s { disks = disks })) is.disks in
    ap read_scenario spelled
    ∙ (vcpus_all nothing_before s.vcpus s.sessions s.order refl refl is.vcpus is.ascend is.few is.requests is.order 1
    ∙ ap (λ disks. Ok (record s { disks = disks })) (sym is.disks))
