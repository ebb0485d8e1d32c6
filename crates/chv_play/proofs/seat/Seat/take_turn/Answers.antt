use Rattle.std.proofs.Common.{◌≡◌, ◌∙◌, ◌-◌, ◌^◌, Some, sym, subst, arith, List, ℕ}
use Rattle.chv_control.specs.Shelf.{shelf_of, sectors_of}
use Rattle.chv_play.specs.Round.{TurnsOut}
use Rattle.chv_play.proofs.LeadLemmas.{turns_out, turn_stays}
use Rattle.chv_play.proofs.seat.Seat.take_turn.Goals as goal

some_is : (a b : List ℕ) → Some a ≡ Some b → a ≡ b
some_is a b same = cc

pub returns-in_err-said-clause-disks : goal.returns-in_err-said-clause-disks
returns-in_err-said-clause-disks g c =
    (turn_stays (sectors_of g.D.Disk.sector_count) c.args.desk.now c.turn_to.new.self c.next-said.new.desk c.args.caller c.turn_to.ensures.turn
    c.next-said.ensures.asked).0

pub returns-in_err-said-clause-sessions : goal.returns-in_err-said-clause-sessions
returns-in_err-said-clause-sessions g c =
    (turn_stays (sectors_of g.D.Disk.sector_count) c.args.desk.now c.turn_to.new.self c.next-said.new.desk c.args.caller c.turn_to.ensures.turn
    c.next-said.ensures.asked).1

pub returns-clause-disks : goal.returns-clause-disks
returns-clause-disks g c =
    (turn_stays (sectors_of g.D.Disk.sector_count) c.args.desk.now c.turn_to.new.self c.next-said.new.desk c.args.caller c.turn_to.ensures.turn
    c.next-said.ensures.asked).0

pub returns-clause-sessions : goal.returns-clause-sessions
returns-clause-sessions g c =
    (turn_stays (sectors_of g.D.Disk.sector_count) c.args.desk.now c.turn_to.new.self c.next-said.new.desk c.args.caller c.turn_to.ensures.turn
    c.next-said.ensures.asked).1

pub returns-clause-turn : goal.returns-clause-turn
returns-clause-turn g c =
    subst (TurnsOut (shelf_of (sectors_of g.D.Disk.sector_count) c.args.desk.now.control.disks) c.args.caller c.args.desk.now.control
    c.next-said.new.desk.control c.args.self.now _) (sym c.full.ensures)
    (turns_out (2 ^ 64 - 1) (sectors_of g.D.Disk.sector_count) c.in_ok-said.field-0 c.args.desk.now c.turn_to.new.self c.next-said.new.desk c.args.caller
    c.args.self.now _ c.turn_to.ensures.turn (record {
      many = omega arith;
      goes = sym c.args.self.now.over ∙ c.requires.open;
      takes = c.next-said.ensures.taken;
      drains = c.in_ok-said.ensures.drains;
      rests = λ other. some_is _ _ (c.next-said.ensures.link_stays other).left_stays;
      comes = c.in_ok-said.ensures.outcome;
      stays = c.next-said.ensures.caller;
      asked = c.next-said.ensures.asked;
    }))
