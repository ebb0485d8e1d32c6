use Rattle.std.proofs.Common.{ap, option_map}
use Rattle.chv_script.proofs.LabelLemmas.{many_fields}
use Rattle.chv_script.proofs.labels.label.Goals as goal

pub returns-else-is_none : goal.returns-else-is_none
returns-else-is_none c =
    many_fields (λ s. s.now) c.args.text.now c.next_field.result.0.now (option_map (λ s. s.now) c.next_field.result.1) c.in_ok-fields.field-0.now c.next_field-2.result.0.now c.next_field-2.result.1
    c.next_field.ensures (ap (option_map (λ s. s.now)) c.in_ok-fields.was) c.next_field-2.ensures c.is_none.result c.is_none.ensures c.if-is_none.false
