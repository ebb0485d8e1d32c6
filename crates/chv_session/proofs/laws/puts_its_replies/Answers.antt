use Rattle.chv_session.proofs.LawLemmas.{puts_its_replies, puts_its_replies_where_lost}
use Rattle.chv_session.proofs.laws.puts_its_replies.Goals as goal

pub returns-clause-ended : goal.returns-clause-ended
returns-clause-ended c = puts_its_replies

pub returns-clause-lost : goal.returns-clause-lost
returns-clause-lost c = puts_its_replies_where_lost
