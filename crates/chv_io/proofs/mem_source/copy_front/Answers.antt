use Rattle.std.proofs.Common.{rules}
use Rattle.chv_io.proofs.mem_source.copy_front.Goals as goal

pub returns-clause-count : goal.returns-clause-count
returns-clause-count c = search rules
