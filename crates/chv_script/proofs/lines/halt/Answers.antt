use Rattle.std.proofs.Common.{ap, ◌∙◌, option_map}
use Rattle.chv_script.specs.Fields.{fields_behind}
use Rattle.chv_defs_scene.specs.ScriptReading.{with_none}
use Rattle.chv_defs_scene.specs.declared.scene.Line.TheVariants.{Halt}
use Rattle.chv_script.proofs.FieldLemmas.{some_fields}
use Rattle.chv_script.proofs.lines.halt.Goals as goal

pub returns-in-Some : goal.returns-in-Some
returns-in-Some c = ap (λ fields. with_none Halt (fields_behind (option_map (λ s. s.now) fields))) c.in-Some.is ∙ some_fields c.in-Some.field-0.now Halt
