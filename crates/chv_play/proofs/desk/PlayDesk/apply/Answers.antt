use Rattle.std.proofs.Common.{ℕ}
use Rattle.chv_control.specs.Shelf.{shelf_of, sectors_of}
use Rattle.chv_play.specs.Banks.{entered_with_banks}
use Rattle.chv_play.proofs.AskLemmas.{answer_of, desk_entered, desk_refused, desk_wanting, entered_of, refused_of, wanting_of}
use Rattle.chv_play.proofs.desk.PlayDesk.apply.Goals as goal

pub returns-clause-answer : goal.returns-clause-answer
returns-clause-answer g c =
    answer_of (shelf_of (sectors_of g.D.Disk.sector_count) c.args.self.now.control.disks) c.args.self.now.control c.args.self.now.caller c.args.call.now c.apply-answer.result
    c.recall.ensures.whole c.apply-answer.ensures.answer

pub returns-clause-entered : goal.returns-clause-entered
returns-clause-entered g c =
    desk_entered c.args.self.now c.apply-answer.new.self
    (λ reply. entered_with_banks c.args.self.now.control (record { caller = c.args.self.now.caller; call = c.args.call.now; reply = reply })) c.apply-answer.result
    (entered_of c.args.self.now.control c.apply-answer.new.self c.args.self.now.caller c.args.call.now c.apply-answer.result
    c.apply-answer.ensures.entered c.apply-answer.ensures.called c.recall.ensures.whole c.recall-2.ensures.whole)

pub returns-clause-refused : goal.returns-clause-refused
returns-clause-refused g c =
    desk_refused c.args.self.now c.apply-answer.new.self c.apply-answer.result
    (refused_of c.args.self.now.control c.apply-answer.new.self c.apply-answer.result
    c.apply-answer.ensures.refused c.apply-answer.ensures.unchanged c.recall.ensures.whole c.recall-2.ensures.whole)

pub returns-clause-err : goal.returns-clause-err
returns-clause-err g c =
    desk_wanting c.args.self.now c.apply-answer.new.self c.apply-answer.result
    (wanting_of c.args.self.now.control c.apply-answer.new.self c.apply-answer.result
    c.apply-answer.ensures.err c.apply-answer.ensures.err_banks c.recall.ensures.whole c.recall-2.ensures.whole)
