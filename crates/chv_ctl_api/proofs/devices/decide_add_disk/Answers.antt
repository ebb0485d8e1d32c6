use Rattle.std.proofs.Common.{◌≡◌, sym, ap, subst, ◌∙◌, refl}
use Rattle.std.specs.Prelude.{Option, Some, unwrap_or}
use Rattle.chv_defs_api.specs.declared.config.Checked.{Checked}
use Rattle.chv_defs_api.specs.declared.control.ControlCall.TheVariants.{AddDisk}
use Rattle.chv_defs_control.specs.declared.machine.Machine.{Machine}
use Rattle.chv_defs_control.specs.ApiStep.{after, names_of, now_of, with_new_disk}
use Rattle.chv_ctl_api.specs.ApiCalls.{disk_rule}
use Rattle.chv_ctl_api.specs.Changed.{changed}
use Rattle.chv_ctl_api.specs.declared.decided.Change.TheVariants.{Reconfigured}
use Rattle.chv_ctl_api.specs.declared.decided.Decided.{Decided}
use Rattle.chv_ctl_api.proofs.Verdicts.{IfOk-map, done_unless-change, done_unless-reply, reply_to-add}
use Rattle.chv_ctl_api.proofs.devices.decide_add_disk.Goals as goal

pub returns-in-Some-clause-reply : goal.returns-in-Some-clause-reply
returns-in-Some-clause-reply c =
    let shelf = c.args.shelf.now in
    let m = c.args.machine.now in
    let now = c.in-Some.checked in
    let disk = c.args.disk.now in
    IfOk-map c.decide_disk.result
    (λ decided e. ap (λ (d : Decided). d.reply) e ∙ done_unless-reply (disk_rule (names_of shelf) now m.life disk) (Reconfigured (with_new_disk now disk)) ∙ sym (reply_to-add shelf m now disk c.in-Some.is))
    c.decide_disk.ensures

pub returns-in-Some-clause-change : goal.returns-in-Some-clause-change
returns-in-Some-clause-change c =
    let m : Machine = c.args.machine.now in
    let now = c.in-Some.checked in
    let disk = c.args.disk.now in
    let there : now ≡ now_of m = sym (ap (λ (o : Option Checked). unwrap_or o _) c.in-Some.is) in
    let left = ap (λ (x : Checked). record m { config = Some (with_new_disk x disk) }) there in
    IfOk-map c.decide_disk.result
    (λ decided e. λ caller. subst (λ (d : Decided). changed m d.change ≡ after m caller (AddDisk disk) d.reply) (sym e) (done_unless-change m (after m caller (AddDisk disk)) (disk_rule (names_of c.args.shelf.now) now m.life disk) (Reconfigured (with_new_disk now disk)) left (λ rule. refl)))
    c.decide_disk.ensures
