use Rattle.chv_ctl_api.proofs.Fits.{fits}
use Rattle.chv_ctl_api.proofs.laws.answers_fit.Goals as goal

pub returns : goal.returns
returns c = fits
