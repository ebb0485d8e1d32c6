-- The JSON values that chv writes (RFC 8259), and their texts: compact, the keys of each object in byte order.
use Rattle.std.specs.Prelude.{ℕ, List, [], ◌∷◌, ◌++◌, map, codes, Option, None, Some}
use Rattle.serde_json.specs.Data.{Data, unsigned, boolean, number, string, array, object, Members, no_members, member, put}
use Rattle.serde_json.specs.View.{items_of}
use Rattle.serde_json.specs.Written.{compact_text}
use Rattle.chv_defs_base.specs.Numbers.{pair}
use Rattle.chv_defs_api.specs.declared.config.VmConfig.{VmConfig}
use Rattle.chv_defs_api.specs.declared.config.CpuConfig.{CpuConfig}
use Rattle.chv_defs_api.specs.declared.config.MemConfig.{MemConfig}
use Rattle.chv_defs_api.specs.declared.config.ZoneConfig.{ZoneConfig}
use Rattle.chv_defs_api.specs.declared.config.DiskConfig.{DiskConfig}
use Rattle.chv_defs_api.specs.declared.config.Hotplug.{Hotplug}
use Rattle.chv_defs_api.specs.declared.config.Hotplug.TheVariants.{Acpi, VirtioMem}
use Rattle.chv_defs_api.specs.declared.context.CountOf.{CountOf}
use Rattle.chv_defs_api.specs.declared.context.DiskCount.{DiskCount}
use Rattle.chv_defs_api.specs.declared.info.Info.{Info}
use Rattle.chv_defs_api.specs.declared.info.DeviceInfo.{DeviceInfo}
use Rattle.chv_defs_api.specs.declared.info.ZoneInfo.{ZoneInfo}
use Rattle.chv_defs_api.specs.declared.info.ShownState.{ShownState}
use Rattle.chv_defs_api.specs.declared.info.ShownState.TheVariants.{Created, Running, Paused, Shutdown}

-- a text as a JSON string (RFC 8259, 7)
abbrev pub quoted : List ℕ → List ℕ
quoted text = compact_text (string text)

-- these members, in this order
abbrev pub members_of : List (List ℕ × Data) → Members
members_of [] = no_members
members_of (m ∷ ms) = member m.0 m.1 (members_of ms)

-- an object with these members
abbrev pub with_keys : List (List ℕ × Data) → Data
with_keys ms = object (members_of ms)

-- an array of what f makes of each item
abbrev pub array_of : {A : Type 0} → (A → Data) → List A → Data
array_of f xs = array (items_of (map f xs))

-- a number
abbrev pub whole : ℕ → Data
whole n = number (unsigned n)

-- ---- a configuration (Cloud Hypervisor REST API v1, VmConfig)

-- how memory is plugged
abbrev pub method_value : Hotplug → Data
method_value Acpi = string (codes "Acpi")
method_value VirtioMem = string (codes "VirtioMem")

-- the vCPUs
abbrev pub cpus_value : CpuConfig → Data
cpus_value c = with_keys ((codes "boot_vcpus", whole c.boot) ∷ (codes "max_vcpus", whole c.max) ∷ [])

-- a configured zone
abbrev pub zone_value : ZoneConfig → Data
zone_value z = with_keys ((codes "hotplug_size", whole z.hotplug) ∷ (codes "hotplugged_size", whole z.hotplugged) ∷ (codes "id", string z.id) ∷ (codes "size", whole z.size) ∷ [])

-- the memory
abbrev pub memory_value : MemConfig → Data
memory_value m = with_keys ((codes "hotplug_method", method_value m.way) ∷ (codes "hotplug_size", whole m.hotplug) ∷ (codes "hotplugged_size", whole m.hotplugged) ∷ (codes "size", whole m.size) ∷ (codes "zones", array_of zone_value m.zones) ∷ [])

-- a disk that was given no id has no key for it
abbrev pub id_member : Option (List ℕ) → List (List ℕ × Data)
id_member None = []
id_member (Some id) = (codes "id", string id) ∷ []

-- a disk
abbrev pub disk_value : DiskConfig → Data
disk_value d = with_keys (id_member d.id ++ ((codes "num_queues", whole d.queues) ∷ (codes "path", string d.path) ∷ (codes "queue_size", whole d.queue_size) ∷ (codes "readonly", boolean d.readonly) ∷ []))

-- a configuration
abbrev pub config_value : VmConfig → Data
config_value c = with_keys ((codes "cpus", cpus_value c.cpus) ∷ (codes "disks", array_of disk_value c.disks) ∷ (codes "memory", memory_value c.memory) ∷ [])

-- ---- what vm.info shows

-- a PCI address: segment, bus, the slot in two hexadecimal digits, and function
abbrev pub bdf_text : ℕ → List ℕ
bdf_text slot = codes "0000:00:" ++ (pair slot ++ codes ".0")

-- a device and where it stands
abbrev pub device_value : DeviceInfo → Data
device_value d = with_keys ((codes "bdf", string (bdf_text d.slot)) ∷ (codes "id", string d.id) ∷ [])

-- a zone in effect
abbrev pub zone_info_value : ZoneInfo → Data
zone_info_value z = with_keys ((codes "id", string z.id) ∷ (codes "plugged_size", whole z.plugged_size) ∷ (codes "requested_size", whole z.requested_size) ∷ [])

-- the state of a machine
abbrev pub state_value : ShownState → Data
state_value Created = string (codes "Created")
state_value Running = string (codes "Running")
state_value Paused = string (codes "Paused")
state_value Shutdown = string (codes "Shutdown")

-- all that vm.info shows
abbrev pub info_value : Info → Data
info_value i = with_keys ((codes "config", config_value i.config) ∷ (codes "devices", array_of device_value i.devices) ∷ (codes "memory_actual_size", whole i.actual_size) ∷ (codes "state", state_value i.state) ∷ (codes "vcpus", array_of whole i.vcpus) ∷ (codes "zones", array_of zone_info_value i.zones) ∷ [])

-- ---- what vm.counters shows

-- what a disk has done
abbrev pub count_value : DiskCount → Data
count_value c = with_keys ((codes "read_bytes", whole c.read_bytes) ∷ (codes "read_ops", whole c.reads) ∷ (codes "write_bytes", whole c.write_bytes) ∷ (codes "write_ops", whole c.writes) ∷ [])

-- the members with a member for each disk, each at its place in byte order
abbrev pub with_counts : Members → List CountOf → Members
with_counts ms [] = ms
with_counts ms (c ∷ cs) = with_counts (put c.id (count_value c.count) ms) cs

-- all that vm.counters shows
abbrev pub counters_value : List CountOf → Data
counters_value cs = object (with_counts no_members cs)

-- ---- the texts

-- the text of a configuration
unfoldable pub config_text : VmConfig → List ℕ
config_text c = compact_text (config_value c)

-- the text of a disk
unfoldable pub disk_text : DiskConfig → List ℕ
disk_text d = compact_text (disk_value d)

-- the text of a device and where it stands, which answers a disk that was added to a machine that is booted
unfoldable pub device_text : DeviceInfo → List ℕ
device_text d = compact_text (device_value d)

-- the text that vm.info shows
unfoldable pub info_text : Info → List ℕ
info_text i = compact_text (info_value i)

-- the text that vm.counters shows
unfoldable pub counters_text : List CountOf → List ℕ
counters_text cs = compact_text (counters_value cs)
