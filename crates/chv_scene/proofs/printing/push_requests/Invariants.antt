use Rattle.std.proofs.Common.{◌≡◌, ◌++◌, flat_map, take}
use Rattle.chv_defs_scene.specs.SceneText.{request_line}
use Rattle.chv_scene.proofs.printing.push_requests.Given as goal

-- what was printed so far
abbrev pub invariant-loop-request : goal.invariant-loop-request
invariant-loop-request l = l.shown.items ≡ l.initial.shown.items ++ flat_map request_line (take l.request-index l.requests)
