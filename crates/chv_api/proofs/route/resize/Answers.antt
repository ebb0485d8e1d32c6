use Rattle.std.proofs.Common.{rules}
use Rattle.chv_api.proofs.route.resize.Goals as goal

pub returns : goal.returns
returns c = search rules
