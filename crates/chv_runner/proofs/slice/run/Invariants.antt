use Rattle.std.proofs.Common.{◌≡◌, ◌≤◌, None}
use Rattle.chv_defs_guest.specs.Moments.{moment}
use Rattle.chv_defs_guest.specs.VcpuCourse.{most_instructions, vcpu_course}
use Rattle.chv_defs_guest.specs.Worlds.{Does, StaysOut}
use Rattle.chv_runner.proofs.slice.run.Given as goal

-- the instructions so far, and then those that are left, are the slice
abbrev pub invariant-loop-left : goal.invariant-loop-left
invariant-loop-left g l = record {
  few : l.left ≤ most_instructions;
  does : Does g.W.Reach.accesses g.W.Desk.asks (vcpu_course l.map l.script.lines most_instructions l.fn.note)
      l.fn.world (moment (g.W.Reach.bank_caller l.fn.world) (g.W.Reach.own l.fn.world) (g.W.Told.seen l.fn.world) (g.W.Desk.answers l.fn.world) (g.W.Desk.refused l.fn.world) l.fn.order.items None)
      l.world (moment (g.W.Reach.bank_caller l.world) (g.W.Reach.own l.world) (g.W.Told.seen l.world) (g.W.Desk.answers l.world) (g.W.Desk.refused l.world) l.order.items None)
      (vcpu_course l.map l.script.lines l.left l.note);
  out : StaysOut g.W.Reach.bank_caller g.W.Told.are_lent_to g.W.Told.books_told g.W.Desk.caller g.W.Desk.context l.fn.world l.world;
  vcpu : l.note.vcpu ≡ l.fn.note.vcpu;
}

abbrev pub decreases-loop-left : goal.decreases-loop-left
decreases-loop-left g l = l.left
