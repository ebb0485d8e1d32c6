use Rattle.std.proofs.Common.{◌≡◌, ◌≤◌, ◌+◌, length}
use Rattle.chv_defs_scene.specs.ScenarioLines.{lines_of}
use Rattle.chv_defs_scene.specs.ScenarioText.{read_scenario}
use Rattle.chv_scene.specs.Reading.{resumed, Fits}
use Rattle.chv_scene.proofs.scenario.read.Given as goal

-- what was read so far, and then what is left, is the whole
abbrev pub invariant-loop-rest : goal.invariant-loop-rest
invariant-loop-rest l = record {
  read : resumed l.reading l.line (lines_of l.rest) ≡ read_scenario l.fn.text;
  counted : l.line + length l.rest ≤ length l.fn.text + 1;
  fits : Fits l.reading (lines_of l.rest);
}

abbrev pub decreases-loop-rest : goal.decreases-loop-rest
decreases-loop-rest l = length l.rest
