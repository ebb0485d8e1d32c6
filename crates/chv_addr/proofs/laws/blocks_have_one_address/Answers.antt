use Rattle.chv_addr.proofs.MapLaws.{one-address}
use Rattle.chv_addr.proofs.laws.blocks_have_one_address.Goals as goal

pub returns : goal.returns
returns c = λ zone config block e h. one-address c.args.zones.now zone config block e h
