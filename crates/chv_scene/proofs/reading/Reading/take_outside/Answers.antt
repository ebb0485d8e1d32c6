use Rattle.chv_defs_scene.specs.ScenarioLines.{lines_of}
use Rattle.chv_scene.proofs.ReadingLemmas.{top_goes}
use Rattle.chv_scene.proofs.reading.Reading.take_outside.Goals as goal

pub returns-in_ok-begin-in-Ok : goal.returns-in_ok-begin-in-Ok
returns-in_ok-begin-in-Ok c =
    top_goes c.args.self.now c.begin.new.self c.passed.result c.args.text.now c.top_line.result c.in-Ok.opens (lines_of c.args.behind.now) c.requires
    c.passed.ensures c.top_line.ensures c.in-Ok.is c.in_ok-begin-in-Ok.ensures
