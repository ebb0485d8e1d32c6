-- A script that was read can be run.
use Rattle.std.proofs.Common.{◌≡◌, ◌≤◌, ℕ, List, length, ap, ◌∙◌, arith}
use Rattle.std.specs.Prelude.{Result, Ok, Err}
use Rattle.std.proofs.lemmas.List.{length-map}
use Rattle.chv_defs_scene.specs.ScriptReading.{Fault, IsScript}
use Rattle.chv_defs_scene.specs.ScriptText.{line_text}
use Rattle.chv_defs_scene.specs.declared.scene.Line.{Line}
use Rattle.chv_defs_scene.specs.declared.scene.Script.{Script}
use Rattle.chv_defs_guest.specs.Instruction.{CanBeRun}
use Rattle.chv_script.specs.Reads.{answer_of}

pub was_read : (r : Result (List Line) Fault) (script : Script) → Ok script ≡ answer_of r → r ≡ Ok script.lines
was_read (Ok lines) script e = cc
was_read (Err fault) script e = cc

pub can_run : (lines : List (List ℕ)) (script : List Line) → length lines ≤ 4096 → IsScript lines script → CanBeRun script
can_run lines script few is =
    let same : length lines ≡ length script = ap length is.spelled ∙ length-map script line_text in
    record { instructions = is.instructions; short = omega (arith, same, few) }
