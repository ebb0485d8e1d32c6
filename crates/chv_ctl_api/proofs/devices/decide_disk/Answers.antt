use Rattle.std.proofs.Common.{◌≡◌, sym, ap, ◌∙◌, Ok, Err}
use Rattle.chv_defs_api.specs.ConfigRules.{check_disk_answer, device_ids, first_broken, further_disk_rules, with_disk, with_id}
use Rattle.chv_defs_control.specs.ApiStep.{names_of, with_new_disk}
use Rattle.chv_ctl_api.specs.ApiCalls.{place_rule}
use Rattle.chv_ctl_api.specs.declared.decided.Change.TheVariants.{Reconfigured}
use Rattle.chv_ctl_api.proofs.Verdicts.{IfOk-map, done_unless-err, done_unless-ok}
use Rattle.chv_ctl_api.proofs.devices.decide_disk.Goals as goal

pub returns-in-Ok : goal.returns-in-Ok
returns-in-Ok c =
    let names = names_of c.args.shelf.now in
    let now = c.args.checked.now in
    let disk = c.args.disk.now in
    let answer : check_disk_answer names now disk ≡ Ok c.in-Ok.named = ap (λ ns. check_disk_answer ns now disk) (sym c.in_ok-names.ensures) ∙ sym c.in_ok-named.ensures ∙ c.in-Ok.is in
    IfOk-map c.place_disk.result
    (λ decided e. e ∙ done_unless-ok (first_broken (further_disk_rules names now disk)) (place_rule now c.args.life) (with_id (device_ids now) disk) c.in-Ok.named (λ d. Reconfigured (with_disk now d)) answer)
    c.place_disk.ensures

pub returns : goal.returns
returns c =
    let names = names_of c.args.shelf.now in
    let now = c.args.checked.now in
    let disk = c.args.disk.now in
    let answer : check_disk_answer names now disk ≡ Err c.in-Err.rule = ap (λ ns. check_disk_answer ns now disk) (sym c.in_ok-names.ensures) ∙ sym c.in_ok-named.ensures ∙ c.in-Err.is in
    c.refused.ensures ∙ done_unless-err (first_broken (further_disk_rules names now disk)) (place_rule now c.args.life) (with_id (device_ids now) disk) c.in-Err.rule (Reconfigured (with_new_disk now disk)) answer
