use Rattle.std.proofs.Common.{rules}
use Rattle.chv_http.proofs.fields.is_word.Goals as goal

pub returns : goal.returns
returns c = search rules
