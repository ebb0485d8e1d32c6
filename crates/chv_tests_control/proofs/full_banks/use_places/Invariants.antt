use Rattle.std.proofs.Common.{◌≡◌, ◌-◌, ◌≤◌, []}
use Rattle.chv_defs_memory.specs.Zones.{OtherZonesStay}
use Rattle.chv_guest.specs.LentBanks.{known_at}
use Rattle.chv_tests_control.proofs.FullBanks.{HasLeft}
use Rattle.chv_tests_control.proofs.full_banks.use_places.Given as goal

abbrev pub invariant-loop-done : goal.invariant-loop-done
invariant-loop-done l = record {
  left : HasLeft (l.count - l.done) (known_at l.zones.books l.zone 0);
  home : l.zones.lent ≡ [];
  others : OtherZonesStay (known_at l.initial.zones.books) (known_at l.zones.books) l.zone;
}
