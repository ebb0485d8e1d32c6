use Rattle.chv_config.proofs.DefaultIds.{lowest_free-is}
use Rattle.chv_config.proofs.laws.default_id_is_lowest.Goals as goal

pub returns-clause-free : goal.returns-clause-free
returns-clause-free c = (lowest_free-is c.args.ids.now c.requires).0

pub returns-clause-lowest : goal.returns-clause-lowest
returns-clause-lowest c = (lowest_free-is c.args.ids.now c.requires).1
