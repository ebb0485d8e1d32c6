use Rattle.std.proofs.Common.{rules}
use Rattle.chv_trace.proofs.pieces.put_piece.Goals as goal

pub returns-else-len-lt-PIECE-clause-ok : goal.returns-else-len-lt-PIECE-clause-ok
returns-else-len-lt-PIECE-clause-ok g c = search rules

pub returns-else-len-lt-PIECE-clause-small : goal.returns-else-len-lt-PIECE-clause-small
returns-else-len-lt-PIECE-clause-small g c = search rules
