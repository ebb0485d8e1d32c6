-- How a scenario is read, in a format of this project's own: the scene that its lines are, or the first line that fails and why.
-- It has the sections of vCPUs, then those of sessions, and then the order. (Disks, which come first, are not built.)
use Rattle.std.specs.Prelude.{◌≡◌, ◌≤◌, ℕ, ◌+◌, ◌^◌, ◌&&◌, not, nat_lt, Bool, true, ◌==◌, List, [], ◌∷◌, ◌++◌, length, map, Option, None, Some, Result, Ok, Err}
use Rattle.std.specs.List.{AllByRecursion, list_all}
use Rattle.chv_defs_scene.specs.declared.scene.Asked.{Asked}
use Rattle.chv_defs_scene.specs.declared.scene.Asked.TheVariants as asked
use Rattle.chv_defs_scene.specs.declared.scene.OrderStep.{OrderStep}
use Rattle.chv_defs_scene.specs.declared.scene.OrderStep.TheVariants as step
use Rattle.chv_defs_scene.specs.declared.scene.Line.{Line as Instruction}
use Rattle.chv_defs_scene.specs.declared.scene.Scene.{Scene}
use Rattle.chv_defs_scene.specs.declared.scene.VcpuSection.{VcpuSection}
use Rattle.chv_defs_base.specs.declared.rule.Reason.{Reason}
use Rattle.chv_defs_base.specs.declared.rule.Reason.TheVariants.{Unclosed}
use Rattle.chv_defs_scene.specs.ScenarioLines.{Line, lines_of, is_route_name, most_lines, most_steps, Part, Has, Ends, session_line, order_line, script_line, Before, nothing_before, Opening, OpensVcpu, OpensSession, OpensOrder, top_line}
use Rattle.chv_defs_scene.specs.ScriptReading.{IsScript}
use Rattle.chv_defs_scene.specs.ScriptText.{line_text}
use Rattle.chv_defs_scene.specs.SceneText.{scene_text}

-- ---- the whole

-- a line that fails, counted from 1, and why
pub record Fault : Type 0 where
  pub line : ℕ
  pub reason : Reason

-- what the line of this number comes to
abbrev pub failed : {A : Type 0} → ℕ → Reason → Result A Fault
failed n reason = Err (record { line = n; reason = reason })

-- where a line stands: outside of the sections; in that of a vCPU, behind these lines of its script; in that of a session; or in
-- the order, behind so many steps
pub data Place : Type 0 where
  Outside : Place
  InScript : (before : List (List ℕ)) → Place
  InSession : Place
  InOrder : (steps : ℕ) → Place

-- What follows is read from behind. Of a section that a line stands in, the rest is then the first of its kind.

-- the scene of no lines
abbrev pub empty_scene : Scene
empty_scene = record { disks = []; vcpus = []; sessions = []; order = None }

-- what f makes of the scene that is read, where no line fails
abbrev pub of_scene : (Scene → Scene) → Result Scene Fault → Result Scene Fault
of_scene f (Ok scene) = Ok (f scene)
of_scene f (Err fault) = Err fault

-- a request before those of the first session
abbrev pub onto_first : Asked → List (List Asked) → List (List Asked)
onto_first request [] = (request ∷ []) ∷ []
onto_first request (requests ∷ sessions) = (request ∷ requests) ∷ sessions

abbrev pub with_request : Asked → Scene → Scene
with_request request scene = record scene { sessions = onto_first request scene.sessions }

-- a session without requests before the others
abbrev pub with_session : Scene → Scene
with_session scene = record scene { sessions = [] ∷ scene.sessions }

-- a step before those of the order
abbrev pub onto_steps : OrderStep → Option (List OrderStep) → Option (List OrderStep)
onto_steps step None = Some (step ∷ [])
onto_steps step (Some steps) = Some (step ∷ steps)

abbrev pub with_step : OrderStep → Scene → Scene
with_step step scene = record scene { order = onto_steps step scene.order }

-- the order without steps
abbrev pub with_order : Scene → Scene
with_order scene = record scene { order = Some [] }

-- a section of a vCPU
abbrev pub section : ℕ → ℕ → List Instruction → VcpuSection
section vcpu fuel script = record { vcpu = vcpu; fuel = fuel; script = record { lines = script } }

-- an instruction before those of the first vCPU's section
abbrev pub onto_script : Instruction → List VcpuSection → List VcpuSection
onto_script l [] = section 0 0 (l ∷ []) ∷ []
onto_script l (v ∷ vcpus) = section v.vcpu v.fuel (l ∷ v.script.lines) ∷ vcpus

abbrev pub with_instruction : Instruction → Scene → Scene
with_instruction l scene = record scene { vcpus = onto_script l scene.vcpus }

-- a vCPU's section without instructions before the others
abbrev pub with_script : Scene → Scene
with_script scene = record scene { vcpus = section 0 0 [] ∷ scene.vcpus }

-- with its number and fuel, which its first line has
abbrev pub onto_section : ℕ → ℕ → List VcpuSection → List VcpuSection
onto_section vcpu fuel [] = []
onto_section vcpu fuel (v ∷ vcpus) = section vcpu fuel v.script.lines ∷ vcpus

abbrev pub with_numbers : ℕ → ℕ → Scene → Scene
with_numbers vcpu fuel scene = record scene { vcpus = onto_section vcpu fuel scene.vcpus }

-- What a line of a section comes to, by what it means: the rest is read in the section, or outside of it.
abbrev pub section_part : {A : Type 0} → ℕ → (A → Scene → Scene) → (Scene → Scene) → Result (Part A) Reason → Result Scene Fault → Result Scene Fault → Result Scene Fault
section_part n onto close (Err reason) inside outside = failed n reason
section_part n onto close (Ok Ends) inside outside = of_scene close outside
section_part n onto close (Ok (Has thing)) inside outside = of_scene (onto thing) inside

-- What a line outside comes to, by what it opens: the rest is read there.
abbrev pub top_part : ℕ → Before → Result Opening Reason → (Place → Before → Result Scene Fault) → Result Scene Fault
top_part n before (Err reason) rest = failed n reason
top_part n before (Ok (OpensVcpu vcpu fuel)) rest = of_scene (with_numbers vcpu fuel) (rest (InScript []) (record before { next_vcpu = vcpu + 1 }))
top_part n before (Ok OpensSession) rest = rest InSession (record before { sessions = before.sessions + 1 })
top_part n before (Ok OpensOrder) rest = rest (InOrder 0) (record before { has_order = true })

-- The scene that lines spell, or the first line that fails: the line behind the last one where a section has no end. Told are
-- where the first of the lines stands, what stands before the section that is open or before the line, the section counted; and
-- the line's number.
abbrev pub read_lines : Place → Before → ℕ → List Line → Result Scene Fault
read_lines Outside before n [] = Ok empty_scene
read_lines (InScript script) before n [] = failed n Unclosed
read_lines InSession before n [] = failed n Unclosed
read_lines (InOrder steps) before n [] = failed n Unclosed
read_lines Outside before n (line ∷ lines) =
    top_part n before (top_line before line) (λ place now. read_lines place now (n + 1) lines)
read_lines (InScript script) before n (line ∷ lines) =
    section_part n with_instruction with_script (script_line script line lines)
    (read_lines (InScript (script ++ line.text ∷ [])) before (n + 1) lines) (read_lines Outside before (n + 1) lines)
read_lines InSession before n (line ∷ lines) =
    section_part n with_request with_session (session_line line)
    (read_lines InSession before (n + 1) lines) (read_lines Outside before (n + 1) lines)
read_lines (InOrder steps) before n (line ∷ lines) =
    section_part n with_step with_order (order_line steps line)
    (read_lines (InOrder (steps + 1)) before (n + 1) lines) (read_lines Outside before (n + 1) lines)

-- The scene that a text is, or its first line that fails, and why.
abbrev pub read_scenario : List ℕ → Result Scene Fault
read_scenario text = read_lines Outside nothing_before 1 (lines_of text)

-- ---- the grammar

-- whether a request can stand in a scenario
abbrev pub is_request : Asked → Bool
is_request (asked.Get name) = is_route_name name
is_request (asked.Put name None) = is_route_name name
is_request (asked.Put name (Some body)) = is_route_name name && nat_lt 0 (length body) && list_all (λ b. not (b == 10)) body
is_request (asked.Raw bytes) = nat_lt 0 (length bytes) && list_all (λ b. nat_lt b 256) bytes

-- whether a step can stand there: any number of 64 bits
abbrev pub is_step : OrderStep → Bool
is_step (step.Session k) = nat_lt k (2 ^ 64)
is_step (step.Vcpu n) = nat_lt n (2 ^ 64)
is_step step.Queue = true

-- A section of a vCPU that can stand there: its number, its fuel, and a script of at most so many lines.
pub record IsSection (v : VcpuSection) : Type 0 where
  pub vcpu : v.vcpu ≤ 15
  pub fuel : v.fuel ≤ 1048576
  pub script : IsScript (map line_text v.script.lines) v.script.lines
  pub short : length v.script.lines ≤ most_lines

-- vCPUs from this number on, ascending
abbrev pub Ascend : ℕ → List VcpuSection → Type 0
Ascend from [] = Unit {0}
Ascend from (v ∷ vcpus) = (from ≤ v.vcpu) × Ascend (v.vcpu + 1) vcpus

-- the steps of an order can stand there
abbrev pub IsOrder : Option (List OrderStep) → Type 0
IsOrder None = Unit {0}
IsOrder (Some steps) = (length steps ≤ most_steps) × (list_all is_step steps ≡ true)

-- A text is a scenario with this scene: the text of its sections, one behind another. It makes no disk; its vCPUs ascend, each
-- with a script; it has at most 16 sessions, each request one that can stand there; and at most one order.
pub record IsScenario (text : List ℕ) (scene : Scene) : Type 0 where
  pub spelled : text ≡ scene_text scene
  pub disks : scene.disks ≡ []
  pub vcpus : AllByRecursion IsSection scene.vcpus
  pub ascend : Ascend 0 scene.vcpus
  pub few : length scene.sessions ≤ 16
  pub requests : list_all (λ (requests : List Asked). list_all is_request requests) scene.sessions ≡ true
  pub order : IsOrder scene.order

-- The law of the reader: it reads exactly the scenarios, each as the scene that it spells.
abbrev pub ReadsScenarios : Type 0
ReadsScenarios =
    ((text : List ℕ) (scene : Scene) → read_scenario text ≡ Ok scene → IsScenario text scene)
    × ((text : List ℕ) (scene : Scene) → IsScenario text scene → read_scenario text ≡ Ok scene)
