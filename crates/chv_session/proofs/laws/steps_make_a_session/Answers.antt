use Rattle.chv_session.proofs.LawLemmas.{ends_as_session, is_session_where_left, is_session_where_lost}
use Rattle.chv_session.proofs.laws.steps_make_a_session.Goals as goal

pub returns-clause-ended : goal.returns-clause-ended
returns-clause-ended c = ends_as_session

pub returns-clause-left : goal.returns-clause-left
returns-clause-left c = is_session_where_left

pub returns-clause-lost : goal.returns-clause-lost
returns-clause-lost c = is_session_where_lost
