use Rattle.std.proofs.Common.{◌++◌, length}
use Rattle.chv_defs_scene.specs.ScenarioLines.{lines_of, script_lines}
use Rattle.chv_defs_scene.specs.ScriptReading.{labels_of}
use Rattle.chv_script.specs.Labels.{SameLabels}
use Rattle.chv_scene.proofs.script.section_labels.Given as goal

-- the labels so far and those of the lines that are left are those of all lines
abbrev pub invariant-loop-rest : goal.invariant-loop-rest
invariant-loop-rest l = SameLabels (l.labels.keys ++ labels_of (script_lines (lines_of l.rest))) (labels_of (script_lines (lines_of l.fn.text)))

abbrev pub decreases-loop-rest : goal.decreases-loop-rest
decreases-loop-rest l = length l.rest
