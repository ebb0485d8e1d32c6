use Rattle.chv_defs_api.specs.declared.control.ControlReply.TheVariants as reply
use Rattle.chv_defs_api.specs.declared.control.ControlCall.TheVariants as control
use Rattle.chv_defs_api.specs.declared.control.Goal.TheVariants as goal_is
use Rattle.chv_ctl_mem.proofs.ControlPlans.{answer-same, called-same, wipe-plan}
use Rattle.chv_ctl_mem.proofs.boot.wipe_all.Goals as goal

pub returns-clause-answer : goal.returns-clause-answer
returns-clause-answer g c =
    answer-same c.args.machine.now (control.Begin goal_is.Delete) reply.Done c.wipe_plan.result (g.Z.Banked.known c.args.zones.now) (g.Z.Banked.known c.carry_out.new.zones) c.carry_out.result
    (wipe-plan c.args.machine.now c.wipe_plan.result c.wipe_plan.ensures.plan) c.carry_out.ensures.answer

pub returns-clause-called : goal.returns-clause-called
returns-clause-called g c =
    called-same c.args.machine.now (control.Begin goal_is.Delete) reply.Done c.wipe_plan.result (g.Z.Banked.known c.args.zones.now) (g.Z.Banked.known c.carry_out.new.zones) c.carry_out.result
    (wipe-plan c.args.machine.now c.wipe_plan.result c.wipe_plan.ensures.plan) c.carry_out.ensures.called
