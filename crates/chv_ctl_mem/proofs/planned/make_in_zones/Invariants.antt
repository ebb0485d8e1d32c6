use Rattle.std.proofs.Common.{◌≡◌, []}
use Rattle.chv_ctl_mem.specs.BankChanges.{is_in_zone_below, planned, AreChanged}
use Rattle.chv_ctl_mem.proofs.planned.make_in_zones.Given as goal

abbrev pub invariant-loop-zone : goal.invariant-loop-zone
invariant-loop-zone g l = record {
  made : AreChanged (is_in_zone_below l.zone) (planned l.configs l.plan) (g.Z.Banked.known l.initial.zones) (g.Z.Banked.known l.zones);
  home : g.Z.Banked.lent l.zones ≡ [];
  books : g.Z.Banked.books l.zones ≡ g.Z.Banked.books l.initial.zones;
}
