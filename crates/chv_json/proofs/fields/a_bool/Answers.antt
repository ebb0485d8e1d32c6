use Rattle.std.proofs.Common.{rules}
use Rattle.chv_json.proofs.fields.a_bool.Goals as goal

pub returns : goal.returns
returns c = search rules
