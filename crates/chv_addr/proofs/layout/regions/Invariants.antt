use Rattle.std.proofs.Common.{◌≡◌, ◌+◌, ◌*◌, ◌≤◌, ◌^◌, ◌++◌, drop}
use Rattle.chv_addr.specs.AddressMap.{regions_from}
use Rattle.chv_addr.proofs.layout.regions.Given as goal

abbrev pub invariant-loop-config : goal.invariant-loop-config
invariant-loop-config l = record {
  done : l.regions.items ++ regions_from l.before (drop l.config-index l.zones) ≡ regions_from l.end l.zones;
  small : l.before ≤ 2 ^ 40 + 2 ^ 37 * l.config-index;
}
