use Rattle.std.proofs.Common.{sym, ◌∙◌}
use Rattle.chv_script.proofs.FieldLemmas.{id_is_text}
use Rattle.chv_script.proofs.kinds.id.Goals as goal

-- an identifier is never no text
pub returns-in-Err : goal.returns-in-Err
returns-in-Err c = absurd (c.in-Err.ensures.cases.0 (id_is_text c.args.field.now (sym c.is_identifier.ensures ∙ c.if-not-is_identifier.false)))
