use Rattle.std.proofs.Common.{◌≡◌, sym, ap, subst, refl, ◌∙◌}
use Rattle.chv_defs_api.specs.declared.control.ControlCall.TheVariants.{Create}
use Rattle.chv_defs_api.specs.ConfigRules.{checked_of, verdict}
use Rattle.chv_defs_control.specs.ApiStep.{after, names_of}
use Rattle.chv_ctl_api.specs.Changed.{changed}
use Rattle.chv_ctl_api.specs.declared.decided.Change.TheVariants.{Created}
use Rattle.chv_ctl_api.specs.declared.decided.Decided.{Decided}
use Rattle.chv_ctl_api.proofs.Verdicts.{IfOk-map, done_unless-change, done_unless-reply, reply_to-create}
use Rattle.chv_ctl_api.proofs.creation.decide_create.Goals as goal

pub returns-in-None-clause-reply : goal.returns-in-None-clause-reply
returns-in-None-clause-reply c =
    let found = verdict (names_of c.args.shelf.now) c.args.config.now in
    IfOk-map c.decide_config.result
    (λ decided e. ap (λ (d : Decided). d.reply) e ∙ done_unless-reply found (Created (checked_of c.args.config.now)) ∙ sym (reply_to-create c.args.shelf.now c.args.machine.now c.args.config.now c.in-None.is))
    c.decide_config.ensures

pub returns-in-None-clause-change : goal.returns-in-None-clause-change
returns-in-None-clause-change c =
    let m = c.args.machine.now in
    let config = c.args.config.now in
    IfOk-map c.decide_config.result
    (λ decided e. λ caller. subst (λ (d : Decided). changed m d.change ≡ after m caller (Create config) d.reply) (sym e) (done_unless-change m (after m caller (Create config)) (verdict (names_of c.args.shelf.now) config) (Created (checked_of config)) refl (λ rule. refl)))
    c.decide_config.ensures
