use Rattle.std.proofs.Common.{refl, arith}
use Rattle.chv_session.proofs.TakingLemmas.{takes_none}
use Rattle.chv_session.proofs.PieceLemmas.{took_lost}
use Rattle.chv_session.proofs.fill.take_piece.Goals as goal

pub returns-in_err-reserve-clause-takes : goal.returns-in_err-reserve-clause-takes
returns-in_err-reserve-clause-takes g c = took_lost _ c.from_residual.ensures.0 (takes_none (cc) refl refl) refl (omega arith)
