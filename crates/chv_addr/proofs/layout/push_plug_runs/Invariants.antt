use Rattle.std.proofs.Common.{◌≡◌, ◌+◌, ◌*◌, ◌≤◌, ◌^◌, ◌++◌, drop}
use Rattle.chv_addr.specs.AddressMap.{plug_runs}
use Rattle.chv_addr.proofs.layout.push_plug_runs.Given as goal

abbrev pub invariant-loop-zone : goal.invariant-loop-zone
invariant-loop-zone l = record {
  done : l.runs.items ++ plug_runs l.zone l.before (drop l.zone l.zones) ≡ l.initial.runs.items ++ plug_runs 0 l.end l.zones;
  small : l.before ≤ 2 ^ 40 + 2 ^ 37 * l.zone;
}
