use Rattle.std.proofs.Common.{rules}
use Rattle.chv_addr.proofs.layout.region_start.Goals as goal

pub returns : goal.returns
returns c = search rules
