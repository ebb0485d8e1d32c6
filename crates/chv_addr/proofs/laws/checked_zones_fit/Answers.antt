use Rattle.chv_addr.proofs.Limits.{checked-within}
use Rattle.chv_addr.proofs.laws.checked_zones_fit.Goals as goal

pub returns : goal.returns
returns c = checked-within c.args.checked.now c.requires
