use Rattle.chv_addr.proofs.InOrder.{boot-in-order}
use Rattle.chv_addr.proofs.laws.boot_blocks_lie_in_order.Goals as goal

pub returns : goal.returns
returns c = boot-in-order c.args.zones.now c.requires
