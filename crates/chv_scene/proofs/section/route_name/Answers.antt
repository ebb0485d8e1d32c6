use Rattle.std.proofs.Common.{sym, ◌∙◌}
use Rattle.chv_scene.proofs.FieldLemmas.{name_is_text}
use Rattle.chv_scene.proofs.section.route_name.Goals as goal

-- a name of a route is never no text
pub returns-in-Err : goal.returns-in-Err
returns-in-Err c = absurd (c.in-Err.ensures.cases.0 (name_is_text c.args.field.now (sym c.is_route_name.ensures ∙ c.if-not-is_route_name.false)))
