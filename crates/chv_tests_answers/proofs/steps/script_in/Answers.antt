use Rattle.std.proofs.Common.{◌≡◌, rules}
use Rattle.std.specs.Prelude.{Ok}
use Rattle.chv_defs_scene.specs.ScriptReading.{read_script}
use Rattle.chv_script.specs.Reads.{answer_of}
use Rattle.chv_tests_answers.proofs.ReadLemmas.{can_run, was_read}
use Rattle.chv_tests_answers.proofs.steps.script_in.Goals as goal

pub returns-in-Ok : goal.returns-in-Ok
returns-in-Ok c =
    let answer : Ok c.in-Ok.script ≡ answer_of (read_script c.args.lines.now) = search rules in
    let same = was_read (read_script c.args.lines.now) c.in-Ok.script answer in
    can_run c.args.lines.now c.in-Ok.script.lines c.requires (c.reads_exactly_the_scripts.ensures.0 c.args.lines.now c.in-Ok.script.lines same)
