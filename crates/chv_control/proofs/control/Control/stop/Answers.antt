use Rattle.std.proofs.Common.{◌≡◌, ◌++◌, ◌∷◌, [], sym, ap, ◌∙◌, subst, arith, true, false, List}
use Rattle.std.proofs.lemmas.Grind.{common_steps}
use Rattle.chv_defs_control.specs.declared.machine.Machine.{Machine}
use Rattle.chv_defs_api.specs.declared.control.ControlEntry.{ControlEntry}
use Rattle.chv_defs_api.specs.declared.control.ControlCall.TheVariants as call
use Rattle.chv_defs_api.specs.declared.control.ControlReply.TheVariants as reply
use Rattle.chv_defs_control.specs.ControlBook.{payload}
use Rattle.chv_control.specs.Control.{IsKept}
use Rattle.chv_control.specs.Rest.{AreKept}
use Rattle.chv_control.proofs.Kept.{IsKept-stop, payload-stop}
use Rattle.chv_control.proofs.KeptBanks.{AreKept-stop}
use Rattle.chv_control.proofs.control.Control.stop.Goals as goal

pub invariant_of-self : goal.invariant_of-self
invariant_of-self g c =
    let m : Machine = c.self.inside.machine in
    let history = c.self.inside.history.items in
    let entry : ControlEntry = record { caller = c.args.caller; call = call.Stop; reply = reply.Done } in
    let grown : c.put_entry.new.history.items ≡ history ++ entry ∷ [] = grind (arith, common_steps) in
    let going : m.stopped ≡ false = cc in (
      c.self.invariant.0,
      c.self.invariant.1 ∙ sym (payload-stop c.args.caller history) ∙ ap payload (sym grown),
      grind (arith, common_steps),
      subst (λ (h : List ControlEntry). IsKept c.self.inside.shelf (record m { stopped = true }) h) (sym grown) (IsKept-stop c.self.inside.shelf m c.args.caller history c.self.invariant.3 going),
      subst (λ (h : List ControlEntry). AreKept (record m { stopped = true }) h (g.Z.Banked.lent c.self.inside.zones) (g.Z.Banked.known c.self.inside.zones)) (sym grown)
          (AreKept-stop c.self.inside.shelf m c.args.caller history (g.Z.Banked.lent c.self.inside.zones) (g.Z.Banked.known c.self.inside.zones) c.self.invariant.4 c.self.invariant.3.legal),
    )
