-- The answer of a call that is refused wherever there is a machine, and the rules by which a disk is not added.
use Rattle.std.specs.Prelude.{ℕ, List, Option, Some, None, if◌then◌else◌}
use Rattle.std.specs.Option.{option_or}
use Rattle.chv_defs_control.specs.declared.machine.Machine.{Machine}
use Rattle.chv_defs_control.specs.declared.machine.Life.{Life}
use Rattle.chv_defs_base.specs.declared.rule.Rule.{Rule}
use Rattle.chv_defs_base.specs.declared.rule.Rule.TheVariants.{NotBuilt, NotCreated, SlotsFull}
use Rattle.chv_defs_api.specs.declared.config.Checked.{Checked}
use Rattle.chv_defs_api.specs.declared.config.DiskConfig.{DiskConfig}
use Rattle.chv_defs_api.specs.declared.control.ControlReply.{ControlReply}
use Rattle.chv_defs_api.specs.declared.control.ControlReply.TheVariants as reply
use Rattle.chv_defs_api.specs.ConfigRules.{first_broken, further_disk_rules}
use Rattle.chv_defs_control.specs.ApiStep.{has_full_slots, is_booted, is_uncreated}

-- refused: there is no machine, or else this rule is broken
abbrev pub refused_by : Machine → Rule → ControlReply
refused_by m rule = reply.Ruled (if is_uncreated m then NotCreated else rule)

-- the rule by which no place is left for a further disk: all slots are used, or else the machine is booted
abbrev pub place_rule : Checked → Life → Option Rule
place_rule now l = if has_full_slots now then Some SlotsFull else (if is_booted l then Some NotBuilt else None)

-- the rule by which a further disk is not added, where disks of these names stand by: one on disks, or else one on its place
abbrev pub disk_rule : List (List ℕ) → Checked → Life → DiskConfig → Option Rule
disk_rule names now l disk = option_or (first_broken (further_disk_rules names now disk)) (place_rule now l)
