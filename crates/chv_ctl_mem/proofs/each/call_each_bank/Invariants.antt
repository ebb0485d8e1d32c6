use Rattle.std.proofs.Common.{◌≡◌, [], ◌∷◌}
use Rattle.chv_ctl_mem.specs.BankChanges.{calls_made, is_bank_below, AreChanged}
use Rattle.chv_ctl_mem.proofs.each.call_each_bank.Given as goal

abbrev pub invariant-loop-bank : goal.invariant-loop-bank
invariant-loop-bank g l = record {
  called : AreChanged (is_bank_below l.zone l.bank) (calls_made (l.call ∷ [])) (g.Z.Banked.known l.initial.zones) (g.Z.Banked.known l.zones);
  home : g.Z.Banked.lent l.zones ≡ [];
  books : g.Z.Banked.books l.zones ≡ g.Z.Banked.books l.initial.zones;
}
