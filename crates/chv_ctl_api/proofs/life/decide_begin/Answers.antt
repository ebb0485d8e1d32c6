use Rattle.std.proofs.Common.{sym, ap, ◌∙◌}
use Rattle.chv_defs_api.specs.declared.control.ControlCall.TheVariants.{Begin}
use Rattle.chv_defs_control.specs.ApiStep.{after, reply_to}
use Rattle.chv_ctl_api.specs.declared.decided.Decided.{Decided}
use Rattle.chv_ctl_api.proofs.life.decide_begin.Goals as goal

pub returns-in-Pause-clause-reply : goal.returns-in-Pause-clause-reply
returns-in-Pause-clause-reply c = λ shelf. ap (λ (d : Decided). d.reply) c.stays.ensures ∙ c.answer_pause.ensures shelf ∙ ap (λ g. reply_to shelf c.args.machine.now (Begin g)) (sym c.in-Pause.is)

pub returns-in-Shutdown-clause-reply : goal.returns-in-Shutdown-clause-reply
returns-in-Shutdown-clause-reply c = λ shelf. c.decide_shutdown.ensures.reply shelf ∙ ap (λ g. reply_to shelf c.args.machine.now (Begin g)) (sym c.in-Shutdown.is)

pub returns-in-Shutdown-clause-change : goal.returns-in-Shutdown-clause-change
returns-in-Shutdown-clause-change c = λ caller. c.decide_shutdown.ensures.change caller ∙ ap (λ g. after c.args.machine.now caller (Begin g) c.decide_shutdown.result.reply) (sym c.in-Shutdown.is)

pub returns-in-Delete-clause-reply : goal.returns-in-Delete-clause-reply
returns-in-Delete-clause-reply c = λ shelf. c.decide_delete.ensures.reply shelf ∙ ap (λ g. reply_to shelf c.args.machine.now (Begin g)) (sym c.in-Delete.is)

pub returns-in-Delete-clause-change : goal.returns-in-Delete-clause-change
returns-in-Delete-clause-change c = λ caller. c.decide_delete.ensures.change caller ∙ ap (λ g. after c.args.machine.now caller (Begin g) c.decide_delete.result.reply) (sym c.in-Delete.is)
