use Rattle.std.proofs.Common.{◌∙◌, ap, length}
use Rattle.chv_addr.proofs.Zones.{length-regions, map-built}
use Rattle.chv_addr.proofs.map.AddrMap.build.Goals as goal

pub invariant_of-result : goal.invariant_of-result
invariant_of-result c =
    map-built c.args.checked.now.zones c.as_slice-zones.result.now c.in_ok-runs.runs.items c.push_plug_runs.new.runs.items c.boot_end-end.result
    c.as_slice-zones.ensures c.in_ok-runs.ensures c.boot_end-end.ensures.value c.in_ok-push_plug_runs.ensures c.requires

pub returns-clause-regions : goal.returns-clause-regions
returns-clause-regions c =
    ap length c.in_ok-regions.ensures ∙ length-regions c.boot_end-end.result c.as_slice-zones.result.now ∙ ap length c.as_slice-zones.ensures
