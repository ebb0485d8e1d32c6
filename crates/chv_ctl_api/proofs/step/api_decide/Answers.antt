use Rattle.std.proofs.Common.{sym, ap, ◌∙◌}
use Rattle.chv_defs_control.specs.ApiStep.{after, reply_to}
use Rattle.chv_ctl_api.specs.declared.decided.Decided.{Decided}
use Rattle.chv_ctl_api.proofs.Verdicts.{IfOk-map}
use Rattle.chv_ctl_api.proofs.step.api_decide.Goals as goal

pub returns-in_ok-answer_info-in-Info-clause-reply : goal.returns-in_ok-answer_info-in-Info-clause-reply
returns-in_ok-answer_info-in-Info-clause-reply c = ap (λ (d : Decided). d.reply) c.stays-in-Info.ensures ∙ c.in_ok-answer_info-in-Info.ensures c.args.shelf.now ∙ ap (reply_to c.args.shelf.now c.args.machine.now) (sym c.in-Info.is)

pub returns-in-Counters-clause-reply : goal.returns-in-Counters-clause-reply
returns-in-Counters-clause-reply c = ap (λ (d : Decided). d.reply) c.stays-in-Counters.ensures ∙ c.answer_counters.ensures c.args.shelf.now ∙ ap (reply_to c.args.shelf.now c.args.machine.now) (sym c.in-Counters.is)

pub returns-in-Create-clause-change : goal.returns-in-Create-clause-change
returns-in-Create-clause-change c = IfOk-map c.decide_create.result (λ decided e. e c.args.caller ∙ ap (λ x. after c.args.machine.now c.args.caller x decided.reply) (sym c.in-Create.is)) c.decide_create.ensures.change

pub returns-in-Boot-clause-reply : goal.returns-in-Boot-clause-reply
returns-in-Boot-clause-reply c = c.decide_boot.ensures.reply c.args.shelf.now ∙ ap (reply_to c.args.shelf.now c.args.machine.now) (sym c.in-Boot.is)

pub returns-in-Boot-clause-change : goal.returns-in-Boot-clause-change
returns-in-Boot-clause-change c = c.decide_boot.ensures.change c.args.caller ∙ ap (λ x. after c.args.machine.now c.args.caller x c.decide_boot.result.reply) (sym c.in-Boot.is)

pub returns-in-Begin-clause-reply : goal.returns-in-Begin-clause-reply
returns-in-Begin-clause-reply c = c.decide_begin.ensures.reply c.args.shelf.now ∙ ap (reply_to c.args.shelf.now c.args.machine.now) (sym c.in-Begin.is)

pub returns-in-Begin-clause-change : goal.returns-in-Begin-clause-change
returns-in-Begin-clause-change c = c.decide_begin.ensures.change c.args.caller ∙ ap (λ x. after c.args.machine.now c.args.caller x c.decide_begin.result.reply) (sym c.in-Begin.is)

pub returns-in-Resize-clause-reply : goal.returns-in-Resize-clause-reply
returns-in-Resize-clause-reply c = ap (λ (d : Decided). d.reply) c.stays-in-Resize.ensures ∙ c.answer_resize.ensures c.args.shelf.now ∙ ap (reply_to c.args.shelf.now c.args.machine.now) (sym c.in-Resize.is)

pub returns-in-ResizeZone-clause-reply : goal.returns-in-ResizeZone-clause-reply
returns-in-ResizeZone-clause-reply c = ap (λ (d : Decided). d.reply) c.stays-in-ResizeZone.ensures ∙ c.answer_resize_zone.ensures c.args.shelf.now ∙ ap (reply_to c.args.shelf.now c.args.machine.now) (sym c.in-ResizeZone.is)

pub returns-in-AddDisk-clause-change : goal.returns-in-AddDisk-clause-change
returns-in-AddDisk-clause-change c = IfOk-map c.decide_add_disk.result (λ decided e. e c.args.caller ∙ ap (λ x. after c.args.machine.now c.args.caller x decided.reply) (sym c.in-AddDisk.is)) c.decide_add_disk.ensures.change

pub returns-in-Remove-clause-reply : goal.returns-in-Remove-clause-reply
returns-in-Remove-clause-reply c = IfOk-map c.decide_remove.result (λ decided e. e c.args.shelf.now ∙ ap (reply_to c.args.shelf.now c.args.machine.now) (sym c.in-Remove.is)) c.decide_remove.ensures.reply

pub returns-in-Remove-clause-change : goal.returns-in-Remove-clause-change
returns-in-Remove-clause-change c = IfOk-map c.decide_remove.result (λ decided e. e c.args.caller ∙ ap (λ x. after c.args.machine.now c.args.caller x decided.reply) (sym c.in-Remove.is)) c.decide_remove.ensures.change

pub returns-in-Restore-clause-reply : goal.returns-in-Restore-clause-reply
returns-in-Restore-clause-reply c = ap (λ (d : Decided). d.reply) c.stays-in-Restore.ensures ∙ c.answer_restore.ensures c.args.shelf.now c.in-Restore.field-0 ∙ ap (reply_to c.args.shelf.now c.args.machine.now) (sym c.in-Restore.is)
