use Rattle.std.proofs.Common.{sym, ◌∙◌}
use Rattle.chv_script.proofs.StepLemmas.{step_ok, step_err}
use Rattle.chv_script.proofs.state.Reading.take.Goals as goal

pub returns-in_ok-add_label-in-Ok-clause-reads : goal.returns-in_ok-add_label-in-Ok-clause-reads
returns-in_ok-add_label-in-Ok-clause-reads c =
    step_ok c.args.self.now.lines c.push.new.self c.args.self.now.labels.keys c.args.all.now.keys c.args.text.now c.in-Ok.line
    (sym c.in_ok-line.ensures ∙ c.in-Ok.is) c.in_ok-push-in-Ok.ensures.ok

pub returns-in-Err-clause-reads : goal.returns-in-Err-clause-reads
returns-in-Err-clause-reads c =
    step_err c.args.self.now.lines c.args.self.now.labels.keys c.args.all.now.keys c.args.text.now c.in-Err.reason
    (sym c.in_ok-line.ensures ∙ c.in-Err.is)
