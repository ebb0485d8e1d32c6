-- No value that is written has a float.
use Rattle.std.proofs.Common.{◌≡◌, ℕ, List, [], ◌∷◌, map, false, refl, None, Some, nat_cmp}
use Rattle.std.proofs.lemmas.Bool.{or_parts}
use Rattle.std.specs.Cmp.Lexicographic.{slice_cmp}
use Rattle.serde_json.specs.Data.{Data, Members, no_members, member, put}
use Rattle.serde_json.specs.View.{items_of}
use Rattle.serde_json.specs.Written.{has_float, items_have_float, members_have_float}
use Rattle.std.specs.Ordering.{match_ordering}
use Rattle.std.specs.declared.cmp.Ordering.{Ordering}
use Rattle.std.specs.declared.cmp.Ordering.TheVariants.{Less, Equal, Greater}
use Rattle.chv_defs_api.specs.JsonTexts.{whole, method_value, zone_value, disk_value, config_value, device_value, zone_info_value, state_value, info_value, count_value, with_counts, counters_value}
use Rattle.chv_defs_api.specs.declared.config.VmConfig.{VmConfig}
use Rattle.chv_defs_api.specs.declared.config.ZoneConfig.{ZoneConfig}
use Rattle.chv_defs_api.specs.declared.config.DiskConfig.{DiskConfig}
use Rattle.chv_defs_api.specs.declared.config.Hotplug.{Hotplug}
use Rattle.chv_defs_api.specs.declared.config.Hotplug.TheVariants.{Acpi, VirtioMem}
use Rattle.chv_defs_api.specs.declared.context.CountOf.{CountOf}
use Rattle.chv_defs_api.specs.declared.info.Info.{Info}
use Rattle.chv_defs_api.specs.declared.info.DeviceInfo.{DeviceInfo}
use Rattle.chv_defs_api.specs.declared.info.ZoneInfo.{ZoneInfo}
use Rattle.chv_defs_api.specs.declared.info.ShownState.{ShownState}
use Rattle.chv_defs_api.specs.declared.info.ShownState.TheVariants.{Created, Running, Paused, Shutdown}

floatless_items : {A : Type 0} (f : A → Data) → ((x : A) → has_float (f x) ≡ false) → (xs : List A) → items_have_float (items_of (map f xs)) ≡ false
floatless_items f h [] = refl
floatless_items f h (x ∷ xs) = rw (h x) (floatless_items f h xs)

floatless_zone : (z : ZoneConfig) → has_float (zone_value z) ≡ false
floatless_zone z = refl

pub floatless_disk : (d : DiskConfig) → has_float (disk_value d) ≡ false
floatless_disk d = elim d.id as (λ id. has_float (disk_value (record d { id = id })) ≡ false) [ None ↦ refl | Some id ↦ refl ]

floatless_method : (w : Hotplug) → has_float (method_value w) ≡ false
floatless_method Acpi = refl
floatless_method VirtioMem = refl

pub floatless_config : (c : VmConfig) → has_float (config_value c) ≡ false
floatless_config c = rw (floatless_items disk_value floatless_disk c.disks) (rw (floatless_method c.memory.way) (rw (floatless_items zone_value floatless_zone c.memory.zones) refl))

floatless_device : (d : DeviceInfo) → has_float (device_value d) ≡ false
floatless_device d = refl

floatless_zone_info : (z : ZoneInfo) → has_float (zone_info_value z) ≡ false
floatless_zone_info z = refl

floatless_state : (s : ShownState) → has_float (state_value s) ≡ false
floatless_state Created = refl
floatless_state Running = refl
floatless_state Paused = refl
floatless_state Shutdown = refl

pub floatless_info : (i : Info) → has_float (info_value i) ≡ false
floatless_info i =
    rw (floatless_config i.config) (rw (floatless_items device_value floatless_device i.devices) (rw (floatless_state i.state) (rw (floatless_items whole (λ n. refl) i.vcpus) (rw (floatless_items zone_info_value floatless_zone_info i.zones) refl))))

-- one member more
floatless_choice : (o : Ordering) (a b c : Members) → members_have_float a ≡ false → members_have_float b ≡ false → members_have_float c ≡ false → members_have_float (match_ordering o a b c) ≡ false
floatless_choice Less a b c ha hb hc = ha
floatless_choice Equal a b c ha hb hc = hb
floatless_choice Greater a b c ha hb hc = hc

floatless_put : (k : List ℕ) (d : Data) (ms : Members) → has_float d ≡ false → members_have_float ms ≡ false → members_have_float (put k d ms) ≡ false
floatless_put k d no_members hd h = rw hd refl
floatless_put k d (member l e ms) hd h =
    let parts = or_parts (has_float e) (members_have_float ms) h in
    floatless_choice (slice_cmp nat_cmp k l) _ _ _ (rw hd h) (rw hd parts.1) (rw parts.0 (floatless_put k d ms hd parts.1))

floatless_counts : (cs : List CountOf) (ms : Members) → members_have_float ms ≡ false → members_have_float (with_counts ms cs) ≡ false
floatless_counts [] ms h = h
floatless_counts (c ∷ cs) ms h = floatless_counts cs _ (floatless_put c.id (count_value c.count) ms refl h)

pub floatless_counters : (cs : List CountOf) → has_float (counters_value cs) ≡ false
floatless_counters cs = floatless_counts cs no_members refl
