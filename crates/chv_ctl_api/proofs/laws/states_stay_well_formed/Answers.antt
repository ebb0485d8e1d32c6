use Rattle.chv_ctl_api.proofs.Kept.{IsWellFormed-after}
use Rattle.chv_ctl_api.proofs.laws.states_stay_well_formed.Goals as goal

pub returns : goal.returns
returns c = IsWellFormed-after
