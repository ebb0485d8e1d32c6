use Rattle.std.proofs.Common.{take}
use Rattle.chv_defs_scene.specs.ScriptReading.{labels_of}
use Rattle.chv_script.specs.Labels.{SameLabels}
use Rattle.chv_script.proofs.labels.all_labels.Given as goal

abbrev pub invariant-loop-line : goal.invariant-loop-line
invariant-loop-line l = SameLabels l.labels.keys (labels_of (take l.line-index l.lines))
