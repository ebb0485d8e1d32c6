-- The rules that a machine's configuration keeps, the order in which they are asked, and the configuration that is
-- kept: every disk with its id, and the zones in effect. The rules and the default names are this project's own; what
-- they speak of is the `VmConfig` of the Cloud Hypervisor REST API v1.
use Rattle.std.specs.Prelude.{◌≡◌, ℕ, ◌+◌, ◌*◌, ◌%◌, ◌^◌, ◌==◌, ◌&&◌, ◌||◌, Bool, true, false, not, nat_lt, if◌then◌else◌, List, [], ◌∷◌, ◌++◌, length, map, filter, find, Option, None, Some, unwrap_or, Result, Ok, Err, codes}
use Rattle.std.specs.List.{list_any, filter_map, after_last, range_with_len, enumerate_from}
use Rattle.std.specs.Option.{option_map_or}
use Rattle.std.specs.Str.{bytes_eq}
use Rattle.std.specs.Fmt.{decimal}
use Rattle.chv_defs_base.specs.Id.{is_id}
use Rattle.chv_defs_api.specs.declared.config.VmConfig.{VmConfig}
use Rattle.chv_defs_api.specs.declared.config.MemConfig.{MemConfig}
use Rattle.chv_defs_api.specs.declared.config.ZoneConfig.{ZoneConfig}
use Rattle.chv_defs_api.specs.declared.config.DiskConfig.{DiskConfig}
use Rattle.chv_defs_api.specs.declared.config.Checked.{Checked}
use Rattle.chv_defs_api.specs.declared.config.Hotplug.{Hotplug}
use Rattle.chv_defs_api.specs.declared.config.Hotplug.TheVariants.{Acpi, VirtioMem}
use Rattle.chv_defs_api.specs.declared.context.DeviceKind.{DeviceKind}
use Rattle.chv_defs_api.specs.declared.context.DeviceKind.TheVariants.{Disk, Memory}
use Rattle.chv_defs_base.specs.declared.rule.Rule.{Rule}
use Rattle.chv_defs_base.specs.declared.rule.Rule.TheVariants.{BootZero, BootAboveMax, VcpusAboveLimit, ZonesNeedSizeZero, ZonesOwnHotplug, SizeZero, TooManyZones, ZoneIdBad, ZoneIdTwice, SizeUnaligned, ZoneTooLarge, HotpluggedAbove, WayForZones, WayAcpi, DiskUnknown, DiskTwice, DeviceIdBad, DeviceIdTwice, QueueShape, TooManyDevices}

-- ---- texts

-- whether the text is one of the texts
abbrev pub has_text : List (List ℕ) → List ℕ → Bool
has_text texts text = list_any (bytes_eq text) texts

-- whether two of the texts are equal
abbrev pub has_twice : List (List ℕ) → Bool
has_twice [] = false
has_twice (text ∷ texts) = has_text texts text || has_twice texts

-- the last component of a path: what follows the last `/`, or the whole path where there is none
abbrev pub last_component : List ℕ → List ℕ
last_component path = after_last (λ byte. byte == 47) path

-- ---- zones, disks and devices

-- a zone that grows: memory can be plugged beyond its boot memory
abbrev pub grows : ZoneConfig → Bool
grows zone = nat_lt 0 zone.hotplug

-- the memory's own sizes, as a zone
abbrev pub own_zone : MemConfig → ZoneConfig
own_zone memory = record { id = codes "mem0"; size = memory.size; hotplug = memory.hotplug; hotplugged = memory.hotplugged }

-- whether zones are configured
abbrev pub has_zones : MemConfig → Bool
has_zones memory = not (length memory.zones == 0)

-- the zones in effect: the configured ones, or the one zone `mem0` with the memory's own sizes
abbrev pub zones_in_effect : MemConfig → List ZoneConfig
zones_in_effect memory = if has_zones memory then memory.zones else own_zone memory ∷ []

-- every size that is given: the memory's own ones, and those of the configured zones
abbrev pub all_sizes : MemConfig → List ZoneConfig
all_sizes memory = own_zone memory ∷ memory.zones

-- the name of a disk: the last component of its path
abbrev pub disk_name : DiskConfig → List ℕ
disk_name disk = last_component disk.path

-- the id of the memory device of a zone that grows
abbrev pub memory_device_id : ZoneConfig → List ℕ
memory_device_id zone = codes "_mem_" ++ zone.id

-- the ids of the memory devices: one for each of the zones that grows
abbrev pub memory_device_ids : List ZoneConfig → List (List ℕ)
memory_device_ids zones = map memory_device_id (filter grows zones)

-- the ids that disks are given
abbrev pub given_ids : List DiskConfig → List (List ℕ)
given_ids disks = filter_map (λ disk. disk.id) disks

-- the ids of all devices of these zones and disks: the memory devices, then the disks
abbrev pub ids_of : List ZoneConfig → List DiskConfig → List (List ℕ)
ids_of zones disks = memory_device_ids zones ++ given_ids disks

-- ---- the rules: each is broken where its condition holds

-- `boot_vcpus` is 0
abbrev pub boot_zero : VmConfig → Bool
boot_zero config = config.cpus.boot == 0

-- `boot_vcpus` is above `max_vcpus`
abbrev pub boot_above_max : VmConfig → Bool
boot_above_max config = nat_lt config.cpus.max config.cpus.boot

-- `max_vcpus` is above 16
abbrev pub vcpus_above_limit : VmConfig → Bool
vcpus_above_limit config = nat_lt 16 config.cpus.max

-- there are zones, and the memory's own `size` is not 0
abbrev pub zones_need_size_zero : VmConfig → Bool
zones_need_size_zero config = has_zones config.memory && not (config.memory.size == 0)

-- there are zones, and the memory's own `hotplug_size` or `hotplugged_size` is not 0
abbrev pub zones_own_hotplug : VmConfig → Bool
zones_own_hotplug config = has_zones config.memory && (not (config.memory.hotplug == 0) || not (config.memory.hotplugged == 0))

-- there are no zones and the memory's `size` is 0, or a zone's `size` is 0
abbrev pub size_zero : VmConfig → Bool
size_zero config = (not (has_zones config.memory) && config.memory.size == 0) || list_any (λ zone. zone.size == 0) config.memory.zones

-- there are more than 8 zones
abbrev pub too_many_zones : VmConfig → Bool
too_many_zones config = nat_lt 8 (length config.memory.zones)

-- a zone's id is no identifier of at most 24 bytes
abbrev pub zone_id_bad : VmConfig → Bool
zone_id_bad config = list_any (λ zone. not (is_id zone.id) || nat_lt 24 (length zone.id)) config.memory.zones

-- two zones have one id
abbrev pub zone_id_twice : VmConfig → Bool
zone_id_twice config = has_twice (map (λ zone. zone.id) config.memory.zones)

-- a size is no multiple of 2 MiB
abbrev pub is_unaligned : ℕ → Bool
is_unaligned size = not (size % 2097152 == 0)

-- a `size`, `hotplug_size` or `hotplugged_size` is no multiple of 2 MiB
abbrev pub size_unaligned : VmConfig → Bool
size_unaligned config = list_any (λ zone. is_unaligned zone.size || is_unaligned zone.hotplug || is_unaligned zone.hotplugged) (all_sizes config.memory)

-- `size` and `hotplug_size` of a zone in effect sum above 64 GiB
abbrev pub zone_too_large : VmConfig → Bool
zone_too_large config = list_any (λ zone. nat_lt (64 * 2 ^ 30) (zone.size + zone.hotplug)) (zones_in_effect config.memory)

-- a `hotplugged_size` is above its `hotplug_size`
abbrev pub hotplugged_above : VmConfig → Bool
hotplugged_above config = list_any (λ zone. nat_lt zone.hotplug zone.hotplugged) (all_sizes config.memory)

-- whether memory is plugged by ACPI memory modules
abbrev pub is_acpi : Hotplug → Bool
is_acpi Acpi = true
is_acpi VirtioMem = false

-- a configured zone grows, and the method is Acpi
abbrev pub way_for_zones : VmConfig → Bool
way_for_zones config = list_any grows config.memory.zones && is_acpi config.memory.way

-- there are no zones, `hotplug_size` is above 0, and the method is Acpi
abbrev pub way_acpi : VmConfig → Bool
way_acpi config = not (has_zones config.memory) && nat_lt 0 config.memory.hotplug && is_acpi config.memory.way

-- no disk that stands by has the name of this one
abbrev pub is_unknown : List (List ℕ) → DiskConfig → Bool
is_unknown names disk = not (has_text names (disk_name disk))

-- a disk has a name that no disk that stands by has
abbrev pub disk_unknown : List (List ℕ) → VmConfig → Bool
disk_unknown names config = list_any (is_unknown names) config.disks

-- two disks have one name
abbrev pub disk_twice : VmConfig → Bool
disk_twice config = has_twice (map disk_name config.disks)

-- the id that a disk is given is no identifier
abbrev pub has_bad_id : DiskConfig → Bool
has_bad_id disk = option_map_or (λ id. not (is_id id)) disk.id false

-- an id that a disk is given is no identifier
abbrev pub device_id_bad : VmConfig → Bool
device_id_bad config = list_any has_bad_id config.disks

-- two devices have one id, memory devices included; a default id is never one that is used
abbrev pub device_id_twice : VmConfig → Bool
device_id_twice config = has_twice (ids_of (zones_in_effect config.memory) config.disks)

-- the sizes that a queue may have: the powers of two from 1 to 1,024
abbrev pub queue_sizes : List ℕ
queue_sizes = 1 ∷ 2 ∷ 4 ∷ 8 ∷ 16 ∷ 32 ∷ 64 ∷ 128 ∷ 256 ∷ 512 ∷ 1024 ∷ []

-- `num_queues` is not 1, or `queue_size` is no power of two from 1 to 1,024
abbrev pub has_odd_queue : DiskConfig → Bool
has_odd_queue disk = not (disk.queues == 1) || not (list_any (λ size. size == disk.queue_size) queue_sizes)

-- a disk has a queue of another shape
abbrev pub queue_shape : VmConfig → Bool
queue_shape config = list_any has_odd_queue config.disks

-- zones in effect that grow and disks are more than 31
abbrev pub too_many_devices : VmConfig → Bool
too_many_devices config = nat_lt 31 (length (filter grows (zones_in_effect config.memory)) + length config.disks)

-- ---- the verdict

-- the rules on vCPUs, in their order, each beside its condition
abbrev pub cpu_rules : VmConfig → List (Bool × Rule)
cpu_rules config =
    (boot_zero config, BootZero)
    ∷ (boot_above_max config, BootAboveMax)
    ∷ (vcpus_above_limit config, VcpusAboveLimit)
    ∷ []

-- the rules on memory, in their order
abbrev pub memory_rules : VmConfig → List (Bool × Rule)
memory_rules config =
    (zones_need_size_zero config, ZonesNeedSizeZero)
    ∷ (zones_own_hotplug config, ZonesOwnHotplug)
    ∷ (size_zero config, SizeZero)
    ∷ (too_many_zones config, TooManyZones)
    ∷ (zone_id_bad config, ZoneIdBad)
    ∷ (zone_id_twice config, ZoneIdTwice)
    ∷ (size_unaligned config, SizeUnaligned)
    ∷ (zone_too_large config, ZoneTooLarge)
    ∷ (hotplugged_above config, HotpluggedAbove)
    ∷ (way_for_zones config, WayForZones)
    ∷ (way_acpi config, WayAcpi)
    ∷ []

-- the rules on disks and devices, in their order
abbrev pub device_rules : List (List ℕ) → VmConfig → List (Bool × Rule)
device_rules names config =
    (disk_unknown names config, DiskUnknown)
    ∷ (disk_twice config, DiskTwice)
    ∷ (device_id_bad config, DeviceIdBad)
    ∷ (device_id_twice config, DeviceIdTwice)
    ∷ (queue_shape config, QueueShape)
    ∷ (too_many_devices config, TooManyDevices)
    ∷ []

-- the first rule whose condition holds
abbrev pub first_broken : List (Bool × Rule) → Option Rule
first_broken [] = None
first_broken (row ∷ rows) = if row.0 then Some row.1 else first_broken rows

-- the rules of a configuration where disks of these names stand by, in their order, each beside its condition
abbrev pub config_rules : List (List ℕ) → VmConfig → List (Bool × Rule)
config_rules names config = cpu_rules config ++ memory_rules config ++ device_rules names config

-- the verdict of a configuration where disks of these names stand by: the lowest rule that it breaks, if it breaks one
abbrev pub verdict : List (List ℕ) → VmConfig → Option Rule
verdict names config = first_broken (config_rules names config)

-- ---- default ids, and the configuration that is kept

-- the id `_diskK`
abbrev pub default_id : ℕ → List ℕ
default_id k = codes "_disk" ++ decimal k

-- whether no device has the id `_diskK`
abbrev pub is_free : List (List ℕ) → ℕ → Bool
is_free ids k = not (has_text ids (default_id k))

-- the lowest K for which no device has the id `_diskK`; of the numbers from 0 to the number of devices one at least is
-- such
abbrev pub lowest_free : List (List ℕ) → ℕ
lowest_free ids = unwrap_or (find (is_free ids) (range_with_len 0 (length ids))) (length ids)

-- the id of a disk beside devices with these ids: the one that it is given, else the lowest default id that is free
abbrev pub id_beside : List (List ℕ) → DiskConfig → List ℕ
id_beside ids disk = unwrap_or disk.id (default_id (lowest_free ids))

-- a disk with its id set
abbrev pub with_id : List (List ℕ) → DiskConfig → DiskConfig
with_id ids disk = record disk { id = Some (id_beside ids disk) }

-- disks in order, each with its id set beside devices with these ids and the disks before it
abbrev pub with_ids : List (List ℕ) → List DiskConfig → List DiskConfig
with_ids ids [] = []
with_ids ids (disk ∷ disks) = with_id ids disk ∷ with_ids (ids ++ id_beside ids disk ∷ []) disks

-- a configuration as it is kept: every disk has its id, given ids counting before default ones, and the zones in effect
-- stand beside it
abbrev pub checked_of : VmConfig → Checked
checked_of config =
    let zones = zones_in_effect config.memory in
    record { config = record config { disks = with_ids (ids_of zones config.disks) config.disks }; zones = zones }

-- a refusal, or else a value
abbrev pub unless_refused : {T : Type 0} → Option Rule → T → Result T Rule
unless_refused None value = Ok value
unless_refused (Some rule) value = Err rule

-- the answer to a configuration
abbrev pub check_answer : List (List ℕ) → VmConfig → Result Checked Rule
check_answer names config = unless_refused (verdict names config) (checked_of config)

-- a checked configuration: the answer to some configuration, where disks of some names stand by
pub record IsChecked (checked : Checked) : Type 0 where
  pub names : List (List ℕ)
  pub config : VmConfig
  pub answer : check_answer names config ≡ Ok checked

-- ---- devices, and one further disk

-- the ids of the devices of a configuration that is kept
abbrev pub device_ids : Checked → List (List ℕ)
device_ids now = ids_of now.zones now.config.disks

-- a checked configuration with a further disk behind the others
abbrev pub with_disk : Checked → DiskConfig → Checked
with_disk now disk = record now { config = record now.config { disks = now.config.disks ++ disk ∷ [] } }

-- the memory devices with their places among the zones in effect: one for each zone that grows
abbrev pub memory_devices : List ZoneConfig → List (DeviceKind × List ℕ)
memory_devices zones = map (λ p. (Memory p.0, memory_device_id p.1)) (filter (λ p. grows p.1) (enumerate_from 0 zones))

-- the disks with their places
abbrev pub disk_devices : List DiskConfig → List (DeviceKind × List ℕ)
disk_devices disks = map (λ p. (Disk p.0, unwrap_or p.1.id [])) (enumerate_from 0 disks)

-- the devices of a configuration that is kept, in their order, each with its id
abbrev pub devices_of : Checked → List (DeviceKind × List ℕ)
devices_of now = memory_devices now.zones ++ disk_devices now.config.disks

-- the rules on one further disk, in their order
abbrev pub further_disk_rules : List (List ℕ) → Checked → DiskConfig → List (Bool × Rule)
further_disk_rules names now disk =
    (is_unknown names disk, DiskUnknown)
    ∷ (has_text (map disk_name now.config.disks) (disk_name disk), DiskTwice)
    ∷ (has_bad_id disk, DeviceIdBad)
    ∷ (option_map_or (has_text (device_ids now)) disk.id false, DeviceIdTwice)
    ∷ (has_odd_queue disk, QueueShape)
    ∷ []

-- the answer to one further disk: a refusal, or else the disk with its id set
abbrev pub check_disk_answer : List (List ℕ) → Checked → DiskConfig → Result DiskConfig Rule
check_disk_answer names now disk = unless_refused (first_broken (further_disk_rules names now disk)) (with_id (device_ids now) disk)
