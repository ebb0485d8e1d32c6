use Rattle.chv_bus.proofs.PieceLemmas.{pieces_made}
use Rattle.chv_bus.proofs.laws.pieces_can_be_made.Goals as goal

pub returns : goal.returns
returns c = pieces_made
