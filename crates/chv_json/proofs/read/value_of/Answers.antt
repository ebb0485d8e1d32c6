use Rattle.std.proofs.Common.{Some}
use Rattle.chv_json.proofs.Spelled.{spelled, unspelled}
use Rattle.chv_json.proofs.read.value_of.Goals as goal

pub returns-in-Ok-from_str : goal.returns-in-Ok-from_str
returns-in-Ok-from_str c = spelled _ c.in-Ok.text.now (Some _) c.in-Ok.ensures.cases.0 c.in-Ok.ensures.cases.1 c.in-Ok-from_str.ensures.ok

pub returns-in-Err : goal.returns-in-Err
returns-in-Err c = unspelled _ c.in-Err.ensures.cases.0
