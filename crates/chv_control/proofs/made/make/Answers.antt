use Rattle.std.proofs.Common.{◌≡◌, true, sym, subst, ap, ◌∙◌}
use Rattle.chv_ctl_api.specs.declared.decided.Decided.{Decided}
use Rattle.chv_defs_api.specs.Desks.{can_have}
use Rattle.chv_ctl_api.proofs.Fits.{fits}
use Rattle.chv_control.proofs.made.make.Goals as goal

pub returns-clause-fits : goal.returns-clause-fits
returns-clause-fits c =
    let reply = ap (λ (d : Decided). d.reply) (c.in_ok-entry.ensures.ok.1 ∙ c.in_ok-added.ensures.ok.1) ∙ c.in_ok-decided.ensures.reply in
    λ s. subst (λ r. can_have c.args.call.now r ≡ true) (sym reply) (fits _ _ _ c.requires.formed s)
