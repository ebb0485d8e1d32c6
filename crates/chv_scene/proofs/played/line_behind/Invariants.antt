use Rattle.std.proofs.Common.{◌≡◌, ◌+◌, length}
use Rattle.chv_scene.specs.Played.{session_lines}
use Rattle.chv_scene.proofs.played.line_behind.Given as goal

-- the lines so far and those of the sessions that are left are those of all
abbrev pub invariant-loop-rest : goal.invariant-loop-rest
invariant-loop-rest l = l.line + session_lines l.rest ≡ session_lines l.sessions + 1

abbrev pub decreases-loop-rest : goal.decreases-loop-rest
decreases-loop-rest l = length l.rest
