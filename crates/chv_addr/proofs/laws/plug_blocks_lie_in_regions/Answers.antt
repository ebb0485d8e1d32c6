use Rattle.chv_addr.proofs.Regions.{plug-in-regions}
use Rattle.chv_addr.proofs.laws.plug_blocks_lie_in_regions.Goals as goal

pub returns : goal.returns
returns c = plug-in-regions c.args.zones.now c.requires
