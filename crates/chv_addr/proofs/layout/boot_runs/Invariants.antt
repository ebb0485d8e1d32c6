use Rattle.std.proofs.Common.{◌≡◌, ◌*◌, ◌≤◌, ◌++◌, drop}
use Rattle.chv_addr.specs.AddressMap.{boot_runs}
use Rattle.chv_addr.proofs.layout.boot_runs.Given as goal

abbrev pub invariant-loop-zone : goal.invariant-loop-zone
invariant-loop-zone l = record {
  done : l.runs.items ++ boot_runs l.zone l.before (drop l.zone l.zones) ≡ boot_runs 0 0 l.zones;
  small : l.before ≤ 32768 * l.zone;
}
