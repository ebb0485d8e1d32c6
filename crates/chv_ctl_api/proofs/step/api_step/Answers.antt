use Rattle.std.proofs.Common.{◌≡◌, sym, ap, ◌∙◌, subst}
use Rattle.chv_defs_control.specs.declared.machine.Machine.{Machine}
use Rattle.chv_defs_control.specs.Machine.{IsWellFormed}
use Rattle.chv_defs_control.specs.ApiStep.{after, reply_to}
use Rattle.chv_ctl_api.proofs.Kept.{IsWellFormed-after}
use Rattle.chv_ctl_api.proofs.step.api_step.Goals as goal

pub returns-clause-formed : goal.returns-clause-formed
returns-clause-formed c =
    let shelf = c.args.shelf.now in
    let m : Machine = c.args.machine.now in
    let call = c.args.call.now in
    let left : c.api_commit.new.machine ≡ after m c.args.caller call (reply_to shelf m call) = c.api_commit.ensures ∙ c.in_ok-decided.ensures.change ∙ ap (after m c.args.caller call) c.in_ok-decided.ensures.reply in
    subst (λ (x : Machine). IsWellFormed x) (sym left) (IsWellFormed-after shelf m c.args.caller call c.requires.formed c.requires.may)
