-- What the body of a request means: the JSON value that it spells (RFC 8259), and what each reader takes from that
-- value. Fields are read in the order in which they stand here, and the first rule that is broken is the answer.
use Rattle.std.specs.Prelude.{ℕ, ◌||◌, ◌==◌, Bool, false, if◌then◌else◌, List, [], ◌∷◌, length, codes, is_some, unwrap_or, Option, None, Some, option_and_then, Result, Ok, Err}
use Rattle.std.specs.Option.{ok_or}
use Rattle.std.specs.Str.{bytes_eq, is_utf8}
use Rattle.serde_json.specs.Data.{Data, object, Items, no_items, item, no_members}
use Rattle.serde_json.specs.Read.{read}
use Rattle.serde_json.specs.Find.{get, as_null, as_bool, as_number, as_str, as_array, as_object, as_u64}
use Rattle.chv_defs_base.specs.declared.rule.Rule.{Rule}
use Rattle.chv_defs_base.specs.declared.rule.Rule.TheVariants.{NotJson, Missing, NotObject, NotList, NotText, NotWhole, NotBool}
use Rattle.chv_defs_api.specs.declared.config.VmConfig.{VmConfig}
use Rattle.chv_defs_api.specs.declared.config.CpuConfig.{CpuConfig}
use Rattle.chv_defs_api.specs.declared.config.MemConfig.{MemConfig}
use Rattle.chv_defs_api.specs.declared.config.ZoneConfig.{ZoneConfig}
use Rattle.chv_defs_api.specs.declared.config.DiskConfig.{DiskConfig}
use Rattle.chv_defs_api.specs.declared.config.Hotplug.{Hotplug}
use Rattle.chv_defs_api.specs.declared.config.Hotplug.TheVariants.{Acpi, VirtioMem}

-- the next step, where the one before broke no rule
infixl 10 ◌>>=◌
abbrev pub ◌>>=◌ : {A B : Type 0} → Result A Rule → (A → Result B Rule) → Result B Rule
Ok x >>= f = f x
Err rule >>= f = Err rule

-- The value that the bytes spell, where they are UTF-8 and one JSON text with at most 127 levels, in which each number
-- is within the range of a float and each surrogate escape stands in a pair (RFC 8259, sections 6, 8.2 and 9, leaves
-- these to the reader). Of a key that stands twice in an object the last one counts.
abbrev pub value_of : List ℕ → Result Data Rule
value_of bytes = ok_or (if is_utf8 bytes then read bytes else None) NotJson

-- ---- kinds

-- an object
abbrev pub an_object : Data → Result Data Rule
an_object d = if is_some (as_object d) then Ok d else Err NotObject

-- a list
abbrev pub a_list : Data → Result Items Rule
a_list d = ok_or (as_array d) NotList

-- a text
abbrev pub a_text : Data → Result (List ℕ) Rule
a_text d = ok_or (as_str d) NotText

-- an integer from 0 to 2^64 - 1 that is written as digits alone: without a sign, a fraction or an exponent
abbrev pub a_whole : Data → Result ℕ Rule
a_whole d = ok_or (option_and_then as_u64 (as_number d)) NotWhole

-- true or false
abbrev pub a_bool : Data → Result Bool Rule
a_bool d = ok_or (as_bool d) NotBool

-- ---- fields of an object

-- null counts as absent
abbrev pub unless_null : Data → Option Data
unless_null d = if is_some (as_null d) then None else Some d

-- the value of a key
abbrev pub field : List ℕ → Data → Option Data
field key d = option_and_then unless_null (get key d)

-- what the value of a key is, or what stands for an absent one
abbrev pub if_present : {A : Type 0} → (Data → Result A Rule) → Result A Rule → Option Data → Result A Rule
if_present kind absent None = absent
if_present kind absent (Some d) = kind d

-- a field that has to stand there
abbrev pub needed : {A : Type 0} → (Data → Result A Rule) → List ℕ → Data → Result A Rule
needed kind key d = if_present kind (Err Missing) (field key d)

-- a field with a default
abbrev pub defaulted : {A : Type 0} → (Data → Result A Rule) → A → List ℕ → Data → Result A Rule
defaulted kind default key d = if_present kind (Ok default) (field key d)

-- a field that may be absent
abbrev pub given : {A : Type 0} → (Data → Result A Rule) → List ℕ → Data → Result (Option A) Rule
given kind key d = if_present (λ v. kind v >>= λ x. Ok (Some x)) (Ok None) (field key d)

-- a list's items, one after another
abbrev pub each : {A : Type 0} → (Data → Result A Rule) → Items → Result (List A) Rule
each kind no_items = Ok []
each kind (item d ds) = do
  x ← kind d
  xs ← each kind ds
  Ok (x ∷ xs)

-- a list that is empty where it is absent
abbrev pub list_of : {A : Type 0} → (Data → Result A Rule) → List ℕ → Data → Result (List A) Rule
list_of kind key d = do
  items ← defaulted a_list no_items key d
  each kind items

-- ---- a configuration

-- how memory is plugged, by its two names each
abbrev pub method_named : List ℕ → Result Hotplug Rule
method_named text =
    if bytes_eq text (codes "Acpi") || bytes_eq text (codes "acpi") then Ok Acpi
    else if bytes_eq text (codes "VirtioMem") || bytes_eq text (codes "virtio-mem") then Ok VirtioMem
    else Err NotText

-- a text that names how memory is plugged
abbrev pub a_method : Data → Result Hotplug Rule
a_method d = a_text d >>= method_named

-- the vCPUs: as many as at boot, where no largest number is given
abbrev pub cpus_in : Data → Result CpuConfig Rule
cpus_in d = do
  boot ← defaulted a_whole 1 (codes "boot_vcpus") d
  max ← defaulted a_whole boot (codes "max_vcpus") d
  Ok (record { boot = boot; max = max })

-- a zone
abbrev pub zone_in : Data → Result ZoneConfig Rule
zone_in d = do
  zone ← an_object d
  id ← needed a_text (codes "id") zone
  size ← needed a_whole (codes "size") zone
  hotplug ← defaulted a_whole 0 (codes "hotplug_size") zone
  hotplugged ← defaulted a_whole 0 (codes "hotplugged_size") zone
  Ok (record { id = id; size = size; hotplug = hotplug; hotplugged = hotplugged })

-- the memory's size where none is given: 512 MiB, or 0 beside zones
abbrev pub default_size : List ZoneConfig → ℕ
default_size zones = if length zones == 0 then 536870912 else 0

-- the memory
abbrev pub memory_in : Data → Result MemConfig Rule
memory_in d = do
  size ← given a_whole (codes "size") d
  hotplug ← defaulted a_whole 0 (codes "hotplug_size") d
  hotplugged ← defaulted a_whole 0 (codes "hotplugged_size") d
  way ← defaulted a_method Acpi (codes "hotplug_method") d
  zones ← list_of zone_in (codes "zones") d
  Ok (record { size = unwrap_or size (default_size zones); hotplug = hotplug; hotplugged = hotplugged; way = way; zones = zones })

-- a disk
abbrev pub disk_in : Data → Result DiskConfig Rule
disk_in d = do
  disk ← an_object d
  path ← needed a_text (codes "path") disk
  id ← given a_text (codes "id") disk
  readonly ← defaulted a_bool false (codes "readonly") disk
  queues ← defaulted a_whole 1 (codes "num_queues") disk
  queue_size ← defaulted a_whole 128 (codes "queue_size") disk
  Ok (record { path = path; id = id; readonly = readonly; queues = queues; queue_size = queue_size })

-- an object without a key
abbrev pub empty_object : Data
empty_object = object no_members

-- a configuration
abbrev pub config_in : Data → Result VmConfig Rule
config_in d = do
  config ← an_object d
  cpus_object ← defaulted an_object empty_object (codes "cpus") config
  cpus ← cpus_in cpus_object
  memory_object ← defaulted an_object empty_object (codes "memory") config
  memory ← memory_in memory_object
  disks ← list_of disk_in (codes "disks") config
  Ok (record { cpus = cpus; memory = memory; disks = disks })

-- ---- the other bodies

-- the vCPUs and the bytes of memory that vm.resize asks for
abbrev pub resize_in : Data → Result (Option ℕ × Option ℕ) Rule
resize_in d = do
  body ← an_object d
  vcpus ← given a_whole (codes "desired_vcpus") body
  ram ← given a_whole (codes "desired_ram") body
  Ok (vcpus, ram)

-- the zone and its bytes of memory that vm.resize-zone asks for
abbrev pub zone_resize_in : Data → Result (List ℕ × ℕ) Rule
zone_resize_in d = do
  body ← an_object d
  id ← needed a_text (codes "id") body
  ram ← needed a_whole (codes "desired_ram") body
  Ok (id, ram)

-- the text that stands at one key
abbrev pub text_in : List ℕ → Data → Result (List ℕ) Rule
text_in key d = do
  body ← an_object d
  needed a_text key body

-- ---- bodies

-- the configuration in the body of vm.create
unfoldable pub config_of : List ℕ → Result VmConfig Rule
config_of body = value_of body >>= config_in

-- the disk in the body of vm.add-disk
unfoldable pub disk_of : List ℕ → Result DiskConfig Rule
disk_of body = value_of body >>= disk_in

-- what the body of vm.resize asks for
unfoldable pub resize_of : List ℕ → Result (Option ℕ × Option ℕ) Rule
resize_of body = value_of body >>= resize_in

-- what the body of vm.resize-zone asks for
unfoldable pub zone_of : List ℕ → Result (List ℕ × ℕ) Rule
zone_of body = value_of body >>= zone_resize_in

-- the text at the one key of a body
unfoldable pub text_of : List ℕ → List ℕ → Result (List ℕ) Rule
text_of body key = value_of body >>= text_in key
