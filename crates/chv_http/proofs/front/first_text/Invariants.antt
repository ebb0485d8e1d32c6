use Rattle.chv_http.specs.Search.{AreLineEnds}
use Rattle.chv_http.proofs.front.first_text.Given as goal

-- all that was passed is CR and LF
abbrev pub invariant-loop-at : goal.invariant-loop-at
invariant-loop-at l = AreLineEnds l.bytes l.fn.from l.at
