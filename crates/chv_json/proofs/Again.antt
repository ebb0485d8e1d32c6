-- What is written of a configuration means that configuration.
use Rattle.std.proofs.Common.{◌≡◌, List, [], ◌∷◌, map, Result, Ok, Some, None, refl}
use Rattle.serde_json.specs.Data.{Data}
use Rattle.serde_json.specs.View.{items_of}
use Rattle.chv_defs_api.specs.JsonBodies.{each, zone_in, memory_in, disk_in, config_in}
use Rattle.chv_defs_api.specs.JsonTexts.{zone_value, memory_value, disk_value, config_value}
use Rattle.chv_defs_base.specs.declared.rule.Rule.{Rule}
use Rattle.chv_defs_api.specs.declared.config.VmConfig.{VmConfig}
use Rattle.chv_defs_api.specs.declared.config.MemConfig.{MemConfig}
use Rattle.chv_defs_api.specs.declared.config.ZoneConfig.{ZoneConfig}
use Rattle.chv_defs_api.specs.declared.config.DiskConfig.{DiskConfig}
use Rattle.chv_defs_api.specs.declared.config.Hotplug.TheVariants.{Acpi, VirtioMem}

each_again : {A : Type 0} (value : A → Data) (meaning : Data → Result A Rule) → ((x : A) → meaning (value x) ≡ Ok x) → (xs : List A) → each meaning (items_of (map value xs)) ≡ Ok xs
each_again value meaning again [] = refl
each_again value meaning again (x ∷ xs) = rw (again x) (rw (each_again value meaning again xs) refl)

zone_again : (z : ZoneConfig) → zone_in (zone_value z) ≡ Ok z
zone_again z = refl

pub disk_again : (d : DiskConfig) → disk_in (disk_value d) ≡ Ok d
disk_again d = elim d.id as (λ id. disk_in (disk_value (record d { id = id })) ≡ Ok (record d { id = id })) [ None ↦ refl | Some id ↦ refl ]

memory_again : (m : MemConfig) → memory_in (memory_value m) ≡ Ok m
memory_again m =
    let zones = each_again zone_value zone_in zone_again m.zones in
    elim m.way as (λ way. memory_in (memory_value (record m { way = way })) ≡ Ok (record m { way = way })) [ Acpi ↦ rw zones refl | VirtioMem ↦ rw zones refl ]

pub config_again : (c : VmConfig) → config_in (config_value c) ≡ Ok c
config_again c = rw (memory_again c.memory) (rw (each_again disk_value disk_in disk_again c.disks) refl)
