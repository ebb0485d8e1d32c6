-- What the reader answers, in the words of the definitions.
use Rattle.std.specs.Prelude.{List, Result, Ok, Err}
use Rattle.chv_defs_scene.specs.ScriptReading.{Fault}
use Rattle.chv_defs_scene.specs.declared.scene.Line.{Line}
use Rattle.chv_defs_scene.specs.declared.scene.Script.{Script}
use Rattle.chv_script.specs.declared.reading.ScriptFault.{ScriptFault}

-- the script that was read, or the first line that fails, and why
abbrev pub answer_of : Result (List Line) Fault → Result Script ScriptFault
answer_of (Ok lines) = Ok (record { lines = lines })
answer_of (Err fault) = Err (record { line = fault.line; reason = fault.reason })
