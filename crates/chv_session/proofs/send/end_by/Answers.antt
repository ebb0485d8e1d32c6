use Rattle.std.proofs.Common.{rules}
use Rattle.chv_session.proofs.send.end_by.Goals as goal

pub returns : goal.returns
returns g c = search rules
