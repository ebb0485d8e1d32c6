use Rattle.chv_http.proofs.CutLemmas.{cuts_is_one, cuts_append}
use Rattle.chv_http.proofs.laws.decided_by_bytes.Goals as goal

pub returns-clause-one : goal.returns-clause-one
returns-clause-one c = cuts_is_one

pub returns-clause-stays : goal.returns-clause-stays
returns-clause-stays c = cuts_append
