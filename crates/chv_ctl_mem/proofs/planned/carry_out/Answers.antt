use Rattle.std.proofs.Common.{◌∙◌, ap, arith, rules}
use Rattle.std.proofs.lemmas.Grind.{common_steps}
use Rattle.chv_defs_memory.specs.BankBook.{refused_or}
use Rattle.chv_ctl_mem.proofs.PlanSteps.{all-ready, plan-due, plan-left}
use Rattle.chv_ctl_mem.proofs.planned.carry_out.Goals as goal

pub make_in_zones-requires-clause-ready : goal.make_in_zones-requires-clause-ready
make_in_zones-requires-clause-ready g c =
    all-ready c.args.machine.now c.zones_in_effect-configs.result.now c.args.plan c.places.result (g.Z.Banked.known c.args.zones.now) (g.Z.Banked.known c.make_room.new.zones)
    c.in_ok-room.room _ c.zones_in_effect-configs.ensures.zones (grind (arith, common_steps, c.zones_in_effect-configs.ensures.limits)) c.places.ensures.one c.requires.rest (search rules) c.in_ok-room.ensures.room

pub returns-then-is_ok-clause-answer : goal.returns-then-is_ok-clause-answer
returns-then-is_ok-clause-answer g c =
    c.in_ok-room.ensures.room.answered
    ∙ ap (λ due. refused_or due tt) (plan-due c.args.machine.now c.zones_in_effect-configs.result.now c.args.plan c.places.result (g.Z.Banked.known c.args.zones.now)
    c.zones_in_effect-configs.ensures.zones (grind (arith, common_steps, c.zones_in_effect-configs.ensures.limits)) c.places.ensures.one)

pub returns-then-is_ok-clause-called : goal.returns-then-is_ok-clause-called
returns-then-is_ok-clause-called g c =
    plan-left c.args.machine.now c.zones_in_effect-configs.result.now c.args.plan c.places.result (g.Z.Banked.known c.args.zones.now) (g.Z.Banked.known c.make_room.new.zones)
    (g.Z.Banked.known c.make_in_zones.new.zones) c.in_ok-room.room _ c.zones_in_effect-configs.ensures.zones c.places.ensures.one c.requires.rest (search rules)
    c.in_ok-room.ensures.room c.make_in_zones.ensures.made

pub returns-else-is_ok-clause-answer : goal.returns-else-is_ok-clause-answer
returns-else-is_ok-clause-answer g c =
    c.in_ok-room.ensures.room.answered
    ∙ ap (λ due. refused_or due tt) (plan-due c.args.machine.now c.zones_in_effect-configs.result.now c.args.plan c.places.result (g.Z.Banked.known c.args.zones.now)
    c.zones_in_effect-configs.ensures.zones (grind (arith, common_steps, c.zones_in_effect-configs.ensures.limits)) c.places.ensures.one)
