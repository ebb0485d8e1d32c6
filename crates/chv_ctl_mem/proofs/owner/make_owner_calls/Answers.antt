use Rattle.std.proofs.Common.{◌∙◌, sym, ap}
use Rattle.chv_defs_control.specs.FullBooks.{book_in}
use Rattle.chv_defs_control.specs.OwnerCalls.{room_refusal_for}
use Rattle.chv_ctl_mem.specs.Plans.{plan_refusal}
use Rattle.chv_ctl_mem.specs.ZoneCalls.{unless_full}
use Rattle.chv_ctl_mem.proofs.ControlPlans.{for-calls, full-answer, none-due, none-made, only-full, refusal-same}
use Rattle.chv_ctl_mem.proofs.owner.make_owner_calls.Goals as goal

pub full_or_done-requires : goal.full_or_done-requires
full_or_done-requires g c = only-full c.args.machine.now c.in-Some.plan (g.Z.Banked.known c.args.zones.now) c.carry_out.result c.carry_out.ensures.answer

pub returns-in-Some-clause-answer : goal.returns-in-Some-clause-answer
returns-in-Some-clause-answer g c =
    full-answer (plan_refusal c.args.machine.now c.in-Some.plan (g.Z.Banked.known c.args.zones.now))
    (room_refusal_for c.args.machine.now c.args.call.now c.args.reply.now (g.Z.Banked.known c.args.zones.now)) c.full_or_done.result
    (refusal-same c.args.machine.now c.args.call.now c.args.reply.now c.in-Some.plan (g.Z.Banked.known c.args.zones.now)
    (for-calls c.args.machine.now c.args.call.now c.args.reply.now c.in-Some.plan (sym c.plan_for.ensures ∙ c.in-Some.is)))
    (c.full_or_done.ensures.answer (plan_refusal c.args.machine.now c.in-Some.plan (g.Z.Banked.known c.args.zones.now)) c.carry_out.ensures.answer)

pub returns-in-None-clause-answer : goal.returns-in-None-clause-answer
returns-in-None-clause-answer g c =
    ap (λ due. unless_full (book_in due)) (sym (none-due c.args.machine.now c.args.call.now c.args.reply.now (g.Z.Banked.known c.args.zones.now) (sym c.plan_for.ensures ∙ c.in-None.is)))

pub returns-in-None-clause-called : goal.returns-in-None-clause-called
returns-in-None-clause-called g c =
    none-made c.args.machine.now c.args.call.now c.args.reply.now _ (g.Z.Banked.known c.args.zones.now) (sym c.plan_for.ensures ∙ c.in-None.is) c.requires.rest
