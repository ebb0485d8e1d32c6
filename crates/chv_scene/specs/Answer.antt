-- What the reader answers, in the words of the definitions.
use Rattle.std.specs.Prelude.{Result, Ok, Err}
use Rattle.chv_defs_scene.specs.ScenarioText.{Fault}
use Rattle.chv_defs_scene.specs.declared.scene.Scene.{Scene}
use Rattle.chv_scene.specs.declared.scenario.SceneFault.{SceneFault}

abbrev pub fault_of : Fault → SceneFault
fault_of fault = record { line = fault.line; reason = fault.reason }

-- the scene that was read, or the first line that fails, and why
abbrev pub answer_of : Result Scene Fault → Result Scene SceneFault
answer_of (Ok scene) = Ok scene
answer_of (Err fault) = Err (fault_of fault)
