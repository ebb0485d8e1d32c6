use Rattle.std.proofs.Common.{rules}
use Rattle.chv_trace.proofs.pieces.digit.Goals as goal

pub returns-else-value-lt10-clause-value : goal.returns-else-value-lt10-clause-value
returns-else-value-lt10-clause-value c = search rules
