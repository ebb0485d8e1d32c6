use Rattle.chv_defs_api.specs.declared.control.ControlReply.TheVariants as reply
use Rattle.chv_defs_api.specs.declared.control.ControlCall.TheVariants as control
use Rattle.chv_ctl_mem.specs.declared.plan.Plan.TheVariants as plan
use Rattle.chv_ctl_mem.proofs.ControlPlans.{answer-same, boot-plan, called-same}
use Rattle.chv_ctl_mem.proofs.boot.boot_zones.Goals as goal

pub returns-clause-answer : goal.returns-clause-answer
returns-clause-answer g c =
    answer-same c.args.machine.now control.Boot reply.Done plan.Shape (g.Z.Banked.known c.args.zones.now) (g.Z.Banked.known c.carry_out.new.zones) c.carry_out.result
    (boot-plan c.args.machine.now) c.carry_out.ensures.answer

pub returns-clause-called : goal.returns-clause-called
returns-clause-called g c =
    called-same c.args.machine.now control.Boot reply.Done plan.Shape (g.Z.Banked.known c.args.zones.now) (g.Z.Banked.known c.carry_out.new.zones) c.carry_out.result
    (boot-plan c.args.machine.now) c.carry_out.ensures.called
