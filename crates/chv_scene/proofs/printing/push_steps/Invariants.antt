use Rattle.std.proofs.Common.{◌≡◌, ◌++◌, flat_map, take}
use Rattle.chv_defs_scene.specs.SceneText.{step_line}
use Rattle.chv_scene.proofs.printing.push_steps.Given as goal

-- what was printed so far
abbrev pub invariant-loop-step : goal.invariant-loop-step
invariant-loop-step l = l.shown.items ≡ l.initial.shown.items ++ flat_map step_line (take l.step-index l.steps)
