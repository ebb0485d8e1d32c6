use Rattle.std.proofs.Common.{◌++◌}
use Rattle.chv_http.proofs.CutLemmas.{cuts_into_append, cuts_into_join, cuts_into_is_one}
use Rattle.chv_http.proofs.laws.any_pieces.Goals as goal

pub returns-clause-joined : goal.returns-clause-joined
returns-clause-joined c stream more first next rest left cuts others =
    cuts_into_join (stream ++ more) first next (rest ++ more) left (cuts_into_append stream more first rest cuts) others

pub returns-clause-one : goal.returns-clause-one
returns-clause-one c = cuts_into_is_one
