use Rattle.std.proofs.Common.{Ok, ◌∙◌, ap}
use Rattle.chv_scene.proofs.ReadingLemmas.{next_goes, next_ends, next_fails}
use Rattle.chv_scene.proofs.reading.Reading.take_inside.Goals as goal

pub returns-in-Ok-true : goal.returns-in-Ok-true
returns-in-Ok-true c =
    next_goes c.args.self.now c.next.new.self c.args.text.now c.in_ok-next.field-0 c.in_ok-next.ensures.done c.in_ok-next.ensures.went
    (c.in-Ok-true.is ∙ ap Ok c.in-Ok-true.field-0-test)

pub returns-in_ok-close-in-Ok-false : goal.returns-in_ok-close-in-Ok-false
returns-in_ok-close-in-Ok-false c =
    next_ends c.args.self.now c.next.new.self c.close.new.self c.args.text.now c.in_ok-next.field-0 c.in_ok-next.ensures.done c.in_ok-next.ensures.went
    (c.in-Ok-false.is ∙ ap Ok c.in-Ok-false.field-0-test) c.in_ok-close-in-Ok-false.ensures.done c.in_ok-close-in-Ok-false.ensures.open

pub returns-in-Err : goal.returns-in-Err
returns-in-Err c =
    next_fails c.args.self.now c.next.new.self c.args.text.now c.in_ok-next.field-0 c.in-Err.reason c.in_ok-next.ensures.went c.in-Err.is
