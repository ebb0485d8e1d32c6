use Rattle.chv_addr.proofs.Regions.{regions-in-order}
use Rattle.chv_addr.proofs.laws.regions_lie_in_order.Goals as goal

pub returns : goal.returns
returns c = regions-in-order c.args.zones.now
