use Rattle.std.proofs.Common.{◌≡◌, true, List, subst, sym}
use Rattle.chv_defs_api.specs.declared.config.ZoneConfig.{ZoneConfig}
use Rattle.chv_addr.specs.AddressMap.{is_within_limits}
use Rattle.chv_ctl_mem.proofs.PlanSteps.{within-of}
use Rattle.chv_ctl_mem.proofs.room.zones_in_effect.Goals as goal

pub returns-in-Some-clause-limits : goal.returns-in-Some-clause-limits
returns-in-Some-clause-limits c =
    let P : List ZoneConfig → Type 0 = λ zones. is_within_limits zones ≡ true in
    subst P (sym c.as_slice.ensures) (within-of c.args.machine.now.config c.in-Some.checked c.in-Some.is c.requires)
