use Rattle.chv_guest.proofs.CallerFlags.{no-members}
use Rattle.chv_guest.proofs.callers.Callers.none.Goals as goal

pub returns : goal.returns
returns c = no-members 144
