use Rattle.std.proofs.Common.{◌≡◌, ◌++◌, flat_map, take}
use Rattle.chv_defs_scene.specs.SceneText.{session_section}
use Rattle.chv_scene.proofs.printing.push_sessions.Given as goal

-- what was printed so far
abbrev pub invariant-loop-requests : goal.invariant-loop-requests
invariant-loop-requests l = l.shown.items ≡ l.initial.shown.items ++ flat_map session_section (take l.requests-index l.sessions)
