use native.Mathlib.Omega.{arith}
use Rattle.chv_top.proofs.Taking.{takes_both}
use Rattle.chv_top.proofs.input.read_input.Goals as goal

-- src/input.rt:33:12
pub returns-in_err-take_piece-clause-few : goal.returns-in_err-take_piece-clause-few
returns-in_err-take_piece-clause-few g c =
    takes_both _ _ _ _ _ _ c.loop-bytes.invariant.moved c.in_err-take_piece.ensures.few (omega (arith, c.loop-bytes.invariant.within))
