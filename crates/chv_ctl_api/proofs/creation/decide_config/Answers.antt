use Rattle.std.proofs.Common.{◌≡◌, sym, ap, ◌∙◌, None, Ok, Err}
use Rattle.chv_defs_api.specs.ConfigRules.{check_answer, checked_of, verdict}
use Rattle.chv_defs_control.specs.ApiStep.{names_of}
use Rattle.chv_ctl_api.specs.declared.decided.Change.TheVariants.{Created}
use Rattle.chv_ctl_api.proofs.Verdicts.{done_unless-err, done_unless-last, done_unless-ok}
use Rattle.chv_ctl_api.proofs.creation.decide_config.Goals as goal

pub returns-in-Ok : goal.returns-in-Ok
returns-in-Ok c =
    let config = c.args.config.now in
    let answer : check_answer (names_of c.args.shelf.now) config ≡ Ok c.in-Ok.checked = ap (λ names. check_answer names config) (sym c.in_ok-names.ensures) ∙ sym c.in_ok-checked.ensures ∙ c.in-Ok.is in
    c.done.ensures ∙ done_unless-ok (verdict (names_of c.args.shelf.now) config) None (checked_of config) c.in-Ok.checked Created answer ∙ done_unless-last (verdict (names_of c.args.shelf.now) config) (Created (checked_of config))

pub returns : goal.returns
returns c =
    let config = c.args.config.now in
    let answer : check_answer (names_of c.args.shelf.now) config ≡ Err c.in-Err.rule = ap (λ names. check_answer names config) (sym c.in_ok-names.ensures) ∙ sym c.in_ok-checked.ensures ∙ c.in-Err.is in
    c.refused.ensures ∙ done_unless-err (verdict (names_of c.args.shelf.now) config) None (checked_of config) c.in-Err.rule (Created (checked_of config)) answer ∙ done_unless-last (verdict (names_of c.args.shelf.now) config) (Created (checked_of config))
