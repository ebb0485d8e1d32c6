use Rattle.chv_session.proofs.LawLemmas.{answers_without_bye}
use Rattle.chv_session.proofs.laws.answers_without_bye.Goals as goal

pub returns : goal.returns
returns c = answers_without_bye
