use Rattle.chv_addr.proofs.Bytes.{bytes-together}
use Rattle.chv_addr.proofs.laws.bytes_lie_together.Goals as goal

pub returns : goal.returns
returns c = bytes-together c.args.zones.now
