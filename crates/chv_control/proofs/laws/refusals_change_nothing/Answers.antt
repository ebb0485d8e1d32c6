use Rattle.chv_control.proofs.Refusals.{refusals}
use Rattle.chv_control.proofs.laws.refusals_change_nothing.Goals as goal

pub returns : goal.returns
returns c = refusals
