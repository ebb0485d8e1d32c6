use Rattle.std.proofs.Common.{◌∙◌}
use Rattle.chv_defs_scene.specs.ScenarioText.{read_scenario}
use Rattle.chv_scene.proofs.PlayedLemmas.{lines_few, played_read, played_refused}
use Rattle.chv_scene.proofs.played.read_played.Goals as goal

pub of_scene-requires : goal.of_scene-requires
of_scene-requires c =
    lines_few c.args.text.now c.in_ok-scene.field-0 c.in-Ok.scene c.requires c.in_ok-scene.ensures.answer c.in-Ok.is

pub returns-in-Ok-clause-answer : goal.returns-in-Ok-clause-answer
returns-in-Ok-clause-answer c =
    c.of_scene.ensures ∙ played_read (read_scenario c.args.text.now) c.in_ok-scene.field-0 c.in-Ok.scene c.in_ok-scene.ensures.answer c.in-Ok.is

pub returns-in-Err-clause-answer : goal.returns-in-Err-clause-answer
returns-in-Err-clause-answer c =
    played_refused (read_scenario c.args.text.now) c.in_ok-scene.field-0 c.in-Err.fault c.in_ok-scene.ensures.answer c.in-Err.is
