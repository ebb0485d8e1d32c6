use Rattle.std.proofs.Common.{ap}
use Rattle.chv_runner.specs.Pairs.{desk_asks, reach_accesses}
use Rattle.chv_runner.proofs.PairLemmas.{slice_at, slice_keeps}
use Rattle.chv_runner.proofs.pair.slice_at.Goals as goal

pub returns-clause-slice : goal.returns-clause-slice
returns-clause-slice g c =
    slice_at (λ p. (p.reach.now, p.desk.now)) _ _ (reach_accesses g.X.Reach.accesses) (desk_asks g.T.Desk.asks)
    (λ p q zone bank call answer h. (h.2, ap (λ r. r.now) h.1)) (λ p q call h. (h.2, ap (λ r. r.now) h.1))
    c.args.map.now c.args.script.now.lines c.args.note.now c.vcpu_slice_on.new.note c.args.world.now c.vcpu_slice_on.new.world _ _ c.vcpu_slice_on.result.end c.vcpu_slice_on.result.cause c.vcpu_slice_on.ensures.slice

pub returns-clause-same_reach : goal.returns-clause-same_reach
returns-clause-same_reach g c =
    slice_keeps (λ p. p.reach.ghost_name) _ _ (λ p q zone bank call answer h. h.0) (λ p q call h. ap (λ r. r.ghost_name) h.1)
    c.args.map.now c.args.script.now.lines c.args.note.now c.vcpu_slice_on.new.note c.args.world.now c.vcpu_slice_on.new.world _ _ c.vcpu_slice_on.result.end c.vcpu_slice_on.result.cause c.vcpu_slice_on.ensures.slice

pub returns-clause-same_desk : goal.returns-clause-same_desk
returns-clause-same_desk g c =
    slice_keeps (λ p. p.desk.ghost_name) _ _ (λ p q zone bank call answer h. ap (λ r. r.ghost_name) h.1) (λ p q call h. h.0)
    c.args.map.now c.args.script.now.lines c.args.note.now c.vcpu_slice_on.new.note c.args.world.now c.vcpu_slice_on.new.world _ _ c.vcpu_slice_on.result.end c.vcpu_slice_on.result.cause c.vcpu_slice_on.ensures.slice
