use Rattle.std.proofs.Common.{rules}
use Rattle.chv_num.proofs.fields.get_le.Goals as goal

pub returns-then-not-is_field_width : goal.returns-then-not-is_field_width
returns-then-not-is_field_width c = search rules
