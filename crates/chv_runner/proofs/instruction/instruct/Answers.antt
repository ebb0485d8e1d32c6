use Rattle.std.proofs.Common.{◌∙◌, sym, ap, refl, arith, Some}
use Rattle.chv_defs_guest.specs.Course.{Ends}
use Rattle.chv_defs_guest.specs.Instruction.{step_of}
use Rattle.chv_defs_guest.specs.Moments.{moment}
use Rattle.chv_defs_guest.specs.VcpuCourse.{context_of, gets}
use Rattle.chv_runner.proofs.SliceLemmas.{is_ready, quiet_does}
use Rattle.chv_runner.proofs.instruction.instruct.Goals as goal

pub get-requires : goal.get-requires
get-requires g c =
    let ready = is_ready c.args.map.now c.args.script.now.lines c.args.cpu.now c.step.new.cpu c.in_ok-want.want c.requires.map c.requires.script c.requires.can c.in_ok-want.ensures.state c.in_ok-want.ensures.wanted c.in_default.not-Nothing c.in_default.not-Halted in
    record {
      asking = ready.asks;
      can = ready.can;
      width = ready.wide;
      made = ready.made;
      room = omega (arith, c.requires.left, c.in_ok-reserve-in_default.ensures.ok);
      lent = c.requires.lent;
      context = c.requires.context ∙ ap (λ cpu. Some (context_of cpu)) (sym ready.same);
      accesses_keep = c.requires.accesses_keep;
      asks_keep = c.requires.asks_keep;
    }

pub returns-in-Nothing-clause-does : goal.returns-in-Nothing-clause-does
returns-in-Nothing-clause-does g c on =
    quiet_does g.W.Reach.accesses g.W.Desk.asks _ _ c.args.world.now _ _
    (ap (gets c.args.map.now on (step_of c.args.script.now.lines c.args.cpu.now).0) (sym c.in_ok-want.ensures.wanted ∙ c.in-Nothing.is) ∙ ap on (sym c.in_ok-want.ensures.state)) refl

pub returns-in-Halted-clause-does : goal.returns-in-Halted-clause-does
returns-in-Halted-clause-does g c on =
    quiet_does g.W.Reach.accesses g.W.Desk.asks _ _ c.args.world.now _ _
    (ap (gets c.args.map.now on (step_of c.args.script.now.lines c.args.cpu.now).0) (sym c.in_ok-want.ensures.wanted ∙ c.in-Halted.is)
    ∙ ap (λ cpu. Ends cpu _) (sym c.in_ok-want.ensures.state) ∙ ap (Ends c.step.new.cpu) (sym c.idle.ensures.end))
    (ap (moment _ _ _ _ _ _) c.idle.ensures.cause)
