use Rattle.chv_defs_control.specs.LegalControl.{answers_by}
use Rattle.chv_play.proofs.AskLemmas.{caller_stays, is_asked, is_made, may_call}
use Rattle.chv_play.proofs.desk.PlayDeskDeskUnit.ask.Goals as goal

pub make-requires : goal.make-requires
make-requires g c =
    let desk = c.args.self.now in
    let made = answers_by desk.caller desk.control.history in
    let both = may_call desk.control.machine desk.caller made c.args.call.now (c.recall.ensures.settled desk.caller) c.requires in
    record { may = both.0; session = both.1 }

pub returns-clause-asked : goal.returns-clause-asked
returns-clause-asked g c = is_asked _ c.args.self.now c.args.call.now c.make.new.self c.make.result c.make.ensures

pub returns-clause-caller : goal.returns-clause-caller
returns-clause-caller g c = caller_stays _ c.args.self.now c.args.call.now c.make.new.self c.make.result c.make.ensures

pub returns-clause-answered : goal.returns-clause-answered
returns-clause-answered g c = is_made _ c.args.self.now c.args.call.now c.make.new.self c.make.result c.make.ensures
