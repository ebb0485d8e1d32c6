use Rattle.std.proofs.Common.{length, subst}
use Rattle.chv_ctl_mem.specs.declared.plan.Plan.{Plan}
use Rattle.chv_ctl_mem.specs.BankChanges.{is_for_frozen, plan_calls, IsReady}
use Rattle.chv_ctl_mem.specs.declared.plan.Plan.TheVariants as plan
use Rattle.chv_ctl_mem.proofs.PlanSteps.{plan-may}
use Rattle.chv_ctl_mem.proofs.plan.Plan.make.Goals as goal

pub make_calls-requires-in-ThawAndWipe-clause-may : goal.make_calls-requires-in-ThawAndWipe-clause-may
make_calls-requires-in-ThawAndWipe-clause-may g c b bank =
    plan-may plan.ThawAndWipe c.args.config.now b (g.Z.Banked.known c.args.zones.now c.args.zone b) c.requires.blocks
    (subst (λ (p : Plan). IsReady (is_for_frozen p) (length (plan_calls p c.args.config.now)) (g.Z.Banked.known c.args.zones.now c.args.zone b)) c.in-ThawAndWipe.is (c.requires.ready b bank))
