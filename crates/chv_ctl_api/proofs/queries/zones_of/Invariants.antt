use Rattle.std.proofs.Common.{◌≡◌, map, take}
use Rattle.chv_defs_control.specs.Shown.{shown_zone}
use Rattle.chv_ctl_api.proofs.queries.zones_of.Given as goal

abbrev pub invariant-loop-zone : goal.invariant-loop-zone
invariant-loop-zone l = l.shown ≡ map shown_zone (take l.zone-index l.zones)
