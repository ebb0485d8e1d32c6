use Rattle.std.proofs.Common.{◌≡◌, ◌∙◌, ◌-◌, None, Some, refl, sym, arith}
use Rattle.chv_defs_api.specs.declared.context.SliceEnd.TheVariants as end
use Rattle.chv_defs_guest.specs.Moments.{moment}
use Rattle.chv_defs_guest.specs.VcpuCourse.{vcpu_course}
use Rattle.chv_runner.proofs.SliceLemmas.{course_full, course_over, slice_cut, slice_ends, slice_on, stays_join}
use Rattle.chv_runner.proofs.slice.run.Goals as goal

pub returns-then-is_over-clause-slice : goal.returns-then-is_over-clause-slice
returns-then-is_over-clause-slice g c =
    slice_ends g.W.Reach.accesses g.W.Desk.asks c.args.map.now c.args.script.now.lines c.args.note.now c.loop-left.note c.args.world.now c.loop-left.world
    (moment (g.W.Reach.bank_caller c.args.world.now) (g.W.Reach.own c.args.world.now) (g.W.Told.seen c.args.world.now) (g.W.Desk.answers c.args.world.now) (g.W.Desk.refused c.args.world.now) c.args.order.now.items None)
    (moment (g.W.Reach.bank_caller c.loop-left.world) (g.W.Reach.own c.loop-left.world) (g.W.Told.seen c.loop-left.world) (g.W.Desk.answers c.loop-left.world) (g.W.Desk.refused c.loop-left.world) c.loop-left.order.items)
    _ end.Idle c.idle.result.end c.idle.result.cause
    (course_over c.args.map.now c.args.script.now.lines c.loop-left.left c.loop-left.note (sym c.is_over.ensures ∙ c.if-is_over.true)) c.idle.ensures.end c.idle.ensures.cause c.loop-left.invariant.does

pub returns-in-Ok-Some-clause-slice : goal.returns-in-Ok-Some-clause-slice
returns-in-Ok-Some-clause-slice g c =
    let is : c.in-Ok-Some.field-0 ≡ Some c.in-Ok-Some.cut = c.in-Ok-Some.field-0-is in
    slice_cut g.W.Reach.accesses g.W.Desk.asks c.args.map.now c.args.script.now.lines c.args.note.now c.loop-left.note c.instruct.new.cpu c.args.world.now c.loop-left.world c.instruct.new.world
    (moment (g.W.Reach.bank_caller c.args.world.now) (g.W.Reach.own c.args.world.now) (g.W.Told.seen c.args.world.now) (g.W.Desk.answers c.args.world.now) (g.W.Desk.refused c.args.world.now) c.args.order.now.items None)
    (moment (g.W.Reach.bank_caller c.loop-left.world) (g.W.Reach.own c.loop-left.world) (g.W.Told.seen c.loop-left.world) (g.W.Desk.answers c.loop-left.world) (g.W.Desk.refused c.loop-left.world) c.loop-left.order.items None)
    (moment (g.W.Reach.bank_caller c.instruct.new.world) (g.W.Reach.own c.instruct.new.world) (g.W.Told.seen c.instruct.new.world) (g.W.Desk.answers c.instruct.new.world) (g.W.Desk.refused c.instruct.new.world) c.instruct.new.order.items)
    c.loop-left.left c.in-Ok-Some.field-0 c.in-Ok-Some.cut is c.loop-left-test.true (sym c.is_over.ensures ∙ c.if-is_over.false) c.loop-left.invariant.does
    (c.in-Ok-Some.ensures.does (vcpu_course c.args.map.now c.args.script.now.lines (c.loop-left.left - 1)))

pub loop-left-preserved : goal.loop-left-preserved
loop-left-preserved g c =
    let is : c.in-Ok-None.field-0 ≡ None = c.in-Ok-None.field-0-is in
    record {
      few = omega (arith, c.loop-left.invariant.few);
      does = slice_on g.W.Reach.accesses g.W.Desk.asks c.args.map.now c.args.script.now.lines c.args.note.now c.loop-left.note c.instruct.new.cpu c.args.world.now c.loop-left.world c.instruct.new.world
          (moment (g.W.Reach.bank_caller c.args.world.now) (g.W.Reach.own c.args.world.now) (g.W.Told.seen c.args.world.now) (g.W.Desk.answers c.args.world.now) (g.W.Desk.refused c.args.world.now) c.args.order.now.items None)
          (moment (g.W.Reach.bank_caller c.loop-left.world) (g.W.Reach.own c.loop-left.world) (g.W.Told.seen c.loop-left.world) (g.W.Desk.answers c.loop-left.world) (g.W.Desk.refused c.loop-left.world) c.loop-left.order.items None)
          (moment (g.W.Reach.bank_caller c.instruct.new.world) (g.W.Reach.own c.instruct.new.world) (g.W.Told.seen c.instruct.new.world) (g.W.Desk.answers c.instruct.new.world) (g.W.Desk.refused c.instruct.new.world) c.instruct.new.order.items)
          c.loop-left.left c.in-Ok-None.field-0 is c.loop-left-test.true (sym c.is_over.ensures ∙ c.if-is_over.false) c.loop-left.invariant.does
          (c.in-Ok-None.ensures.does (vcpu_course c.args.map.now c.args.script.now.lines (c.loop-left.left - 1)));
      out = stays_join g.W.Reach.bank_caller g.W.Told.are_lent_to g.W.Told.books_told g.W.Desk.caller g.W.Desk.context c.args.world.now c.loop-left.world c.instruct.new.world c.loop-left.invariant.out c.in-Ok-None.ensures.out;
      vcpu = c.in-Ok-None.ensures.vcpu ∙ c.loop-left.invariant.vcpu;
    }

pub returns-then-is_over-2-clause-slice : goal.returns-then-is_over-2-clause-slice
returns-then-is_over-2-clause-slice g c =
    slice_ends g.W.Reach.accesses g.W.Desk.asks c.args.map.now c.args.script.now.lines c.args.note.now c.loop-left.note c.args.world.now c.loop-left.world
    (moment (g.W.Reach.bank_caller c.args.world.now) (g.W.Reach.own c.args.world.now) (g.W.Told.seen c.args.world.now) (g.W.Desk.answers c.args.world.now) (g.W.Desk.refused c.args.world.now) c.args.order.now.items None)
    (moment (g.W.Reach.bank_caller c.loop-left.world) (g.W.Reach.own c.loop-left.world) (g.W.Told.seen c.loop-left.world) (g.W.Desk.answers c.loop-left.world) (g.W.Desk.refused c.loop-left.world) c.loop-left.order.items)
    _ end.Idle c.idle-then-is_over-2.result.end c.idle-then-is_over-2.result.cause
    (course_over c.args.map.now c.args.script.now.lines c.loop-left.left c.loop-left.note (sym c.is_over-2.ensures ∙ c.if-is_over-2.true)) c.idle-then-is_over-2.ensures.end c.idle-then-is_over-2.ensures.cause c.loop-left.invariant.does

pub returns-clause-slice : goal.returns-clause-slice
returns-clause-slice g c =
    slice_ends g.W.Reach.accesses g.W.Desk.asks c.args.map.now c.args.script.now.lines c.args.note.now c.loop-left.note c.args.world.now c.loop-left.world
    (moment (g.W.Reach.bank_caller c.args.world.now) (g.W.Reach.own c.args.world.now) (g.W.Told.seen c.args.world.now) (g.W.Desk.answers c.args.world.now) (g.W.Desk.refused c.args.world.now) c.args.order.now.items None)
    (moment (g.W.Reach.bank_caller c.loop-left.world) (g.W.Reach.own c.loop-left.world) (g.W.Told.seen c.loop-left.world) (g.W.Desk.answers c.loop-left.world) (g.W.Desk.refused c.loop-left.world) c.loop-left.order.items)
    _ end.Full end.Full None
    (course_full c.args.map.now c.args.script.now.lines c.loop-left.left c.loop-left.note (omega (arith, c.loop-left-test.false)) (sym c.is_over-2.ensures ∙ c.if-is_over-2.false)) refl refl c.loop-left.invariant.does
