use Rattle.std.proofs.Common.{◌≡◌, take}
use Rattle.std.specs.Prelude.{map}
use Rattle.chv_config.proofs.memory.zone_ids.Given as goal

abbrev pub invariant-loop-zone : goal.invariant-loop-zone
invariant-loop-zone l = l.ids.items ≡ map (λ zone. zone.id) (take l.zone-index l.zones)
