use Rattle.std.proofs.Common.{◌≡◌, take, drop}
use Rattle.chv_defs_scene.specs.ScriptReading.{labels_of, read_script}
use Rattle.chv_script.specs.Labels.{SameLabels}
use Rattle.chv_script.specs.Steps.{resumed}
use Rattle.chv_script.proofs.reading.read_lines.Given as goal

-- the instructions so far, and those of the lines that are left, are those of all lines
abbrev pub invariant-loop-i : goal.invariant-loop-i
invariant-loop-i l = record {
  read : resumed l.reading.lines (take l.i l.lines) (drop l.i l.lines) ≡ read_script l.lines;
  labels : SameLabels l.reading.labels.keys (labels_of (take l.i l.lines));
}
