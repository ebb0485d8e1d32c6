use Rattle.std.proofs.Common.{◌≡◌, ◌++◌, codes, flat_map, take, string_bytes}
use Rattle.chv_defs_scene.specs.ScriptText.{line_text}
use Rattle.chv_script.proofs.printing.print.Given as goal

abbrev pub invariant-loop-line : goal.invariant-loop-line
invariant-loop-line l = string_bytes l.shown ≡ flat_map (λ x. line_text x ++ codes "\n") (take l.line-index l.line-items)
