use Rattle.chv_addr.proofs.MapLaws.{holders-one}
use Rattle.chv_addr.proofs.laws.intervals_never_overlap.Goals as goal

pub returns : goal.returns
returns c = λ addr. holders-one c.args.zones.now addr
