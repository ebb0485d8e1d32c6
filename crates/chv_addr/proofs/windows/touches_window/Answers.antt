use Rattle.std.proofs.Common.{arith}
use Rattle.chv_addr.proofs.Slots.{touches, touches-not}
use Rattle.chv_addr.proofs.windows.touches_window.Goals as goal

pub returns-then-addr-lt-END : goal.returns-then-addr-lt-END
returns-then-addr-lt-END c = touches c.args.addr c.args.last c.requires (omega arith)

pub returns-else-addr-lt-END : goal.returns-else-addr-lt-END
returns-else-addr-lt-END c = touches-not c.args.addr c.args.last (omega arith)
