-- What was read of a script so far, and what is read from there on.
use Rattle.std.specs.Prelude.{ℕ, List, ◌++◌, Option, None, Some, Result, Ok, Err}
use Rattle.chv_defs_base.specs.declared.rule.Reason.{Reason}
use Rattle.chv_defs_scene.specs.ScriptReading.{◌>>=◌, line_of, label_fault, unless, Fault, read_behind}
use Rattle.chv_defs_scene.specs.declared.scene.Line.{Line}

-- the instruction that a line is, or why it fails, by the labels of the lines before and those of all lines
abbrev pub checked : List (List ℕ) → List (List ℕ) → List ℕ → Result Line Reason
checked before all text = do
  l ← line_of text
  unless (label_fault before all l) l

-- instructions before those that are read
abbrev pub with_front : List Line → Result (List Line) Fault → Result (List Line) Fault
with_front front read = do
  rest ← read
  Ok (front ++ rest)

-- the instructions so far, and those of the lines behind the ones that were passed
abbrev pub resumed : List Line → List (List ℕ) → List (List ℕ) → Result (List Line) Fault
resumed front passed lines = with_front front (read_behind passed lines)

-- a line of this number that may fail, and what is read behind it where it does not
abbrev pub after_line : ℕ → Option Reason → Result (List Line) Fault → Result (List Line) Fault
after_line n None read = read
after_line n (Some reason) read = Err (record { line = n; reason = reason })
