-- What of a scenario is played so far: its sessions. One that has a vCPU's section or an order is refused as not built, at the
-- first line of these.
use Rattle.std.specs.Prelude.{ℕ, ◌+◌, List, [], ◌∷◌, length, Option, None, Some, Result, Ok, Err}
use Rattle.chv_defs_base.specs.declared.rule.Reason.TheVariants.{NotBuilt}
use Rattle.chv_defs_scene.specs.declared.scene.Asked.{Asked}
use Rattle.chv_defs_scene.specs.declared.scene.OrderStep.{OrderStep}
use Rattle.chv_defs_scene.specs.declared.scene.VcpuSection.{VcpuSection}
use Rattle.chv_defs_scene.specs.declared.scene.Scene.{Scene}
use Rattle.chv_defs_scene.specs.ScenarioText.{Fault, failed, read_scenario}
use Rattle.chv_scene.specs.Answer.{fault_of}
use Rattle.chv_scene.specs.declared.scenario.SceneFault.{SceneFault}

-- the requests of each session
abbrev pub Sessions : Type 0
Sessions = List (List Asked)

-- how many lines the sections of sessions have
abbrev pub session_lines : Sessions → ℕ
session_lines [] = 0
session_lines (requests ∷ sessions) = length requests + 2 + session_lines sessions

-- sessions, unless an order stands behind them
abbrev pub unless_ordered : Sessions → Option (List OrderStep) → Result Sessions Fault
unless_ordered sessions None = Ok sessions
unless_ordered sessions (Some steps) = failed (session_lines sessions + 1) NotBuilt

-- the sessions of a scene, unless a vCPU's section stands before them, which is then at the first line
abbrev pub unless_scripted : Scene → List VcpuSection → Result Sessions Fault
unless_scripted scene [] = unless_ordered scene.sessions scene.order
unless_scripted scene (v ∷ vcpus) = failed 1 NotBuilt

abbrev pub played : Result Scene Fault → Result Sessions Fault
played (Ok scene) = unless_scripted scene scene.vcpus
played (Err fault) = Err fault

-- The sessions of a text that are played, or the first line that is refused, and why.
abbrev pub read_played : List ℕ → Result Sessions Fault
read_played text = played (read_scenario text)

-- the scene of these sessions, with no disk, no vCPU and no order
abbrev pub scene_of : Sessions → Scene
scene_of sessions = record { disks = []; vcpus = []; sessions = sessions; order = None }

-- what is answered
abbrev pub played_answer : Result Sessions Fault → Result Scene SceneFault
played_answer (Ok sessions) = Ok (scene_of sessions)
played_answer (Err fault) = Err (fault_of fault)
