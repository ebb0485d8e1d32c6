-- What was read so far, and what is read from there on.
use Rattle.std.specs.Prelude.{◌≡◌, ℕ, ◌+◌, Bool, true, false, List, [], ◌∷◌, ◌++◌, length, is_some, Option, None, Some, Result}
use Rattle.chv_defs_base.specs.declared.rule.Reason.{Reason}
use Rattle.chv_defs_scene.specs.declared.scene.Asked.{Asked}
use Rattle.chv_defs_scene.specs.declared.scene.OrderStep.{OrderStep}
use Rattle.chv_defs_scene.specs.declared.scene.Scene.{Scene}
use Rattle.chv_defs_scene.specs.ScenarioLines.{Line, at_space, Before, session_word, order_word, at_most, most_steps}
use Rattle.chv_defs_scene.specs.ScenarioText.{Fault, failed, Outside, InScript, InSession, InOrder, of_scene, with_request, with_step, with_instruction, with_numbers, section, read_lines}
use Rattle.chv_scene.specs.Meanings.{Went}
use Rattle.chv_scene.specs.Scripts.{spelled, FitsScript, WentScript, IsOpened}
use Rattle.chv_scene.specs.declared.outside.Opens.{Opens}
use Rattle.chv_scene.specs.declared.outside.Opens.TheVariants as opens
use Rattle.chv_scene.specs.declared.script.OpenScript.{OpenScript}
use Rattle.chv_scene.specs.declared.reading.Done.{Done}
use Rattle.chv_scene.specs.declared.reading.Open.{Open}
use Rattle.chv_scene.specs.declared.reading.Open.TheVariants as section_of
use Rattle.chv_scene.specs.declared.reading.Reading.{Reading}

-- things that are put before those of a scene, the last of them first
abbrev pub with_all : {A : Type 0} → (A → Scene → Scene) → List A → Scene → Scene
with_all onto [] scene = scene
with_all onto (thing ∷ things) scene = onto thing (with_all onto things scene)

-- the first of two orders that is there
abbrev pub first_order : Option (List OrderStep) → Option (List OrderStep) → Option (List OrderStep)
first_order None order = order
first_order (Some steps) order = Some steps

-- no section has ended
abbrev pub nothing_done : Done
nothing_done = record { vcpus = []; sessions = []; order = None; next_vcpu = 0 }

-- sections that have ended, before those of a scene
abbrev pub with_done : Done → Scene → Scene
with_done d scene = record {
  disks = scene.disks;
  vcpus = d.vcpus ++ scene.vcpus;
  sessions = d.sessions ++ scene.sessions;
  order = first_order d.order scene.order;
}

-- what stands before a line outside of the sections
abbrev pub before : Done → Before
before d = record { next_vcpu = d.next_vcpu; sessions = length d.sessions; has_order = is_some d.order }

-- the same where a session's section is open, and where the order is
abbrev pub before_session : Done → Before
before_session d = record (before d) { sessions = length d.sessions + 1 }

abbrev pub before_order : Done → Before
before_order d = record (before d) { has_order = true }

-- an open script, before the rest of it
abbrev pub with_script_lines : OpenScript → Scene → Scene
with_script_lines s scene = with_numbers s.vcpu s.fuel (with_all with_instruction s.lines scene)

-- Sections that have ended, and the one that is open. Then the lines, of which the first has this number, spell what is left.
abbrev pub read_from : Done → Open → ℕ → List Line → Result Scene Fault
read_from d section_of.Outside n lines = of_scene (with_done d) (read_lines Outside (before d) n lines)
read_from d (section_of.Script s) n lines = of_scene (λ scene. with_done d (with_script_lines s scene)) (read_lines (InScript (spelled s)) (before d) n lines)
read_from d (section_of.Session requests) n lines = of_scene (λ scene. with_done d (with_all with_request requests scene)) (read_lines InSession (before_session d) n lines)
read_from d (section_of.Order steps) n lines = of_scene (λ scene. with_done (record d { order = None }) (with_all with_step steps scene)) (read_lines (InOrder (length steps)) (before_order d) n lines)

-- the same from what a reading has
abbrev pub resumed : Reading → ℕ → List Line → Result Scene Fault
resumed r n lines = read_from r.done r.open n lines

-- a line of this number that may fail, and what is read behind it where it does not
abbrev pub after_line : ℕ → Option Reason → Result Scene Fault → Result Scene Fault
after_line n None read = read
after_line n (Some reason) read = failed n reason

-- the labels that an open script keeps are those of its lines, of which these follow
abbrev pub FitsOpen : Open → List Line → Type 0
FitsOpen (section_of.Script s) lines = FitsScript s lines
FitsOpen o lines = Unit {0}

abbrev pub Fits : Reading → List Line → Type 0
Fits r lines = FitsOpen r.open lines

-- where the line did not fail, the labels fit the lines behind it
abbrev pub StillFits : Option Reason → Reading → List Line → Type 0
StillFits None r lines = Fits r lines
StillFits (Some reason) r lines = Unit {0}

-- How a reading goes on by a line before these: it fails, or what is read is read from what the reading has then.
pub record GoesOn (old new : Reading) (line : Line) (lines : List Line) (fault : Option Reason) : Type 0 where
  pub read : (n : ℕ) → resumed old n (line ∷ lines) ≡ after_line n fault (resumed new (n + 1) lines)
  pub fits : StillFits fault new lines

-- what a line has done in the section that is open
abbrev pub WentInside : Open → Open → Result Bool Reason → List ℕ → Type 0
WentInside section_of.Outside new went text = ⊥
WentInside (section_of.Script old) new went text = (s : OpenScript) × (new ≡ section_of.Script s) × WentScript old s went text
WentInside (section_of.Session old) new went text =
    (requests : List Asked) × (new ≡ section_of.Session requests) × Went old requests went (session_word (at_space text).0 (at_space text).1)
WentInside (section_of.Order old) new went text =
    (steps : List OrderStep) × (new ≡ section_of.Order steps) × Went old steps went (at_most most_steps (length old) (order_word (at_space text).0 (at_space text).1))

-- the open section has ended
abbrev pub closed : Done → Open → Done
closed d section_of.Outside = d
closed d (section_of.Script s) = record d { vcpus = d.vcpus ++ section s.vcpu s.fuel s.lines ∷ [] }
closed d (section_of.Session requests) = record d { sessions = d.sessions ++ requests ∷ [] }
closed d (section_of.Order steps) = record d { order = Some steps }

-- a section was opened, of which these lines follow
abbrev pub Opened : Done → Opens → Reading → List Line → Type 0
Opened d (opens.Vcpu vcpu fuel) new lines =
    (new.done ≡ record d { next_vcpu = vcpu + 1 }) × ((s : OpenScript) × (new.open ≡ section_of.Script s) × IsOpened vcpu fuel s lines)
Opened d opens.Session new lines = (new.done ≡ d) × (new.open ≡ section_of.Session [])
Opened d opens.Order new lines = (new.done ≡ d) × (new.open ≡ section_of.Order [])

-- whether no section is open
abbrev pub is_outside : Open → Bool
is_outside section_of.Outside = true
is_outside o = false
