use Rattle.std.proofs.Common.{rules}
use Rattle.chv_json.proofs.fields.field.Goals as goal

pub returns-then-is_null : goal.returns-then-is_null
returns-then-is_null c = search rules
