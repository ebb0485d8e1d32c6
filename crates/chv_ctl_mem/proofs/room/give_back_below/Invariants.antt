use Rattle.std.proofs.Common.{◌≡◌, []}
use Rattle.chv_ctl_mem.specs.BankChanges.{back_to, is_in_zone_below, AreChanged}
use Rattle.chv_ctl_mem.proofs.room.give_back_below.Given as goal

abbrev pub invariant-loop-zone : goal.invariant-loop-zone
invariant-loop-zone g l = record {
  back : AreChanged (is_in_zone_below l.zone) (back_to l.kept) (g.Z.Banked.known l.initial.zones) (g.Z.Banked.known l.zones);
  home : g.Z.Banked.lent l.zones ≡ [];
  books : g.Z.Banked.books l.zones ≡ g.Z.Banked.books l.initial.zones;
}
