use Rattle.std.proofs.Common.{◌≡◌, ◌∙◌, subst, arith, ℕ, rules}
use Rattle.chv_defs_memory.specs.Zones.{acting}
use Rattle.chv_defs_memory.proofs.ZoneLaws.{nobody-acts}
use Rattle.chv_ctl_mem.specs.BankChanges.{back_to, is_in_zone_below, AreChanged}
use Rattle.chv_ctl_mem.proofs.ChangeLaws.{next-zone, no-zone-below}
use Rattle.chv_ctl_mem.proofs.ZoneSteps.{given-back}
use Rattle.chv_ctl_mem.proofs.room.give_back_below.Goals as goal

pub loop-zone-init : goal.loop-zone-init
loop-zone-init g c = record {
  back = no-zone-below (back_to c.args.kept) (g.Z.Banked.known c.args.zones.now);
  home = search rules;
  books = search rules;
}

pub loop-zone-preserved : goal.loop-zone-preserved
loop-zone-preserved g c = record {
  back = next-zone c.loop-zone.zone (back_to c.args.kept) (g.Z.Banked.known c.args.zones.now) (g.Z.Banked.known c.loop-zone.zones) (g.Z.Banked.known c.give_back.new.self) c.loop-zone.invariant.back
      (given-back (acting g.Z.Banked.is_shared (g.Z.Banked.lent c.loop-zone.zones)) c.loop-zone.zone c.args.kept (g.Z.Banked.known c.loop-zone.zones) (g.Z.Banked.known c.give_back.new.self)
      (nobody-acts g.Z.Banked.is_shared (g.Z.Banked.lent c.loop-zone.zones) c.loop-zone.invariant.home) c.give_back.ensures.left c.give_back.ensures.others);
  home = c.give_back.ensures.lent ∙ c.loop-zone.invariant.home;
  books = c.give_back.ensures.books ∙ c.loop-zone.invariant.books;
}

pub returns-clause-back : goal.returns-clause-back
returns-clause-back g c =
    let all : c.loop-zone.zone ≡ c.args.count = omega arith in
    let P : ℕ → Type 0 = λ count. AreChanged (is_in_zone_below count) (back_to c.args.kept) (g.Z.Banked.known c.args.zones.now) (g.Z.Banked.known c.loop-zone.zones) in
    subst P all c.loop-zone.invariant.back
