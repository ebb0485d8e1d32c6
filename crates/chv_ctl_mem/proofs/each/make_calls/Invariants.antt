use Rattle.std.proofs.Common.{◌≡◌, [], take}
use Rattle.chv_ctl_mem.specs.BankChanges.{calls_made, is_in_zone, AreChanged}
use Rattle.chv_ctl_mem.proofs.each.make_calls.Given as goal

abbrev pub invariant-loop-call : goal.invariant-loop-call
invariant-loop-call g l = record {
  called : AreChanged (is_in_zone l.zone) (calls_made (take l.call-index l.calls)) (g.Z.Banked.known l.initial.zones) (g.Z.Banked.known l.zones);
  home : g.Z.Banked.lent l.zones ≡ [];
  books : g.Z.Banked.books l.zones ≡ g.Z.Banked.books l.initial.zones;
}
