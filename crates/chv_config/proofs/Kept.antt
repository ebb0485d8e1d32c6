-- A configuration that breaks no rule, and its devices.
use Rattle.std.proofs.Common.{◌≡◌, ℕ, ◌+◌, ◌<◌, ◌≤◌, ◌^◌, Bool, true, false, List, [], ◌∷◌, ◌++◌, Option, None, Some, refl, sym, ◌∙◌, ap, arith, length, drop, append_assoc, suc, cond}
use Rattle.std.specs.Prelude.{unwrap_or, ◌||◌, map, filter, is_some}
use Rattle.std.specs.List.{list_all, filter_map, enumerate_from}
use Rattle.std.specs.Str.{bytes_eq}
use Rattle.std.proofs.lemmas.List.{length-append, length-map, map-append}
use Rattle.std.proofs.lemmas.List.Folds.{list_any-append}
use Rattle.std.proofs.lemmas.Bool.{false_from_ne_true, ltb-false, not-true, or_from, or_left, or_parts, or_right}
use Rattle.chv_defs_base.specs.declared.rule.Rule.{Rule}
use Rattle.chv_defs_base.specs.declared.rule.Rule.TheVariants.{DiskUnknown, DiskTwice, DeviceIdBad, DeviceIdTwice, QueueShape, TooManyDevices}
use Rattle.chv_defs_api.specs.declared.config.ZoneConfig.{ZoneConfig}
use Rattle.chv_defs_api.specs.declared.config.DiskConfig.{DiskConfig}
use Rattle.chv_defs_api.specs.declared.config.VmConfig.{VmConfig}
use Rattle.chv_defs_api.specs.declared.context.DeviceKind.{DeviceKind}
use Rattle.chv_defs_api.specs.declared.context.DeviceKind.TheVariants.{Disk, Memory}
use Rattle.chv_defs_api.specs.ConfigRules.{has_text, has_twice, lowest_free, default_id, given_ids, with_ids, id_beside, memory_device_id, memory_device_ids, memory_devices, disk_devices, grows, first_broken, cpu_rules, memory_rules, device_rules, disk_unknown, disk_twice, device_id_bad, device_id_twice, queue_shape, too_many_devices, verdict, ids_of, zones_in_effect, devices_of, device_ids, checked_of}
use Rattle.chv_config.proofs.Firsts.{first_broken-parts}
use Rattle.chv_config.proofs.Twice.{bytes_eq_comm}
use Rattle.chv_config.proofs.DefaultIds.{lowest_free-is}

-- ---- the ids of disks, as a list of those that are given and those that are not

-- the ids of disks, of which some are given, beside devices with these ids
abbrev pub named : List (List ℕ) → List (Option (List ℕ)) → List (List ℕ)
named ids [] = []
named ids (given ∷ rest) =
    let id = unwrap_or given (default_id (lowest_free ids)) in
    id ∷ named (ids ++ id ∷ []) rest

-- those that are given
abbrev pub given_of : List (Option (List ℕ)) → List (List ℕ)
given_of options = filter_map (λ option. option) options

pub given_ids-with_ids : (ids : List (List ℕ)) (disks : List DiskConfig) → given_ids (with_ids ids disks) ≡ named ids (map (λ disk. disk.id) disks)
given_ids-with_ids ids [] = refl
given_ids-with_ids ids (disk ∷ disks) =
    ap (λ rest. id_beside ids disk ∷ rest) (given_ids-with_ids (ids ++ id_beside ids disk ∷ []) disks)

pub given_ids-is : (disks : List DiskConfig) → given_ids disks ≡ given_of (map (λ disk. disk.id) disks)
given_ids-is [] = refl
given_ids-is (disk ∷ disks) = by disk.id (given_ids-is disks)
  where
    by : (o : Option (List ℕ)) → given_ids disks ≡ given_of (map (λ disk. disk.id) disks) → Rattle.std.specs.List.cons_option o (given_ids disks) ≡ given_of (o ∷ map (λ disk. disk.id) disks)
    by None e = e
    by (Some id) e = ap (λ rest. id ∷ rest) e

-- a text that is new is put among texts of which none stands twice
pub has_twice-put : (xs ys : List (List ℕ)) (x : List ℕ) → has_twice (xs ++ ys) ≡ false → has_text xs x ≡ false → has_text ys x ≡ false → has_twice (xs ++ x ∷ ys) ≡ false
has_twice-put [] ys x h before after = or_from (has_text ys x) (has_twice ys) after h
has_twice-put (z ∷ zs) ys x h before after =
    let parts : (has_text (zs ++ ys) z ≡ false) × (has_twice (zs ++ ys) ≡ false) = or_parts (has_text (zs ++ ys) z) (has_twice (zs ++ ys)) h in
    let first : (bytes_eq x z ≡ false) × (has_text zs x ≡ false) = or_parts (bytes_eq x z) (has_text zs x) before in
    let among : (has_text zs z ≡ false) × (has_text ys z ≡ false) = or_parts (has_text zs z) (has_text ys z) (sym (list_any-append (bytes_eq z) zs ys) ∙ parts.0) in
    let apart : bytes_eq z x ≡ false = bytes_eq_comm z x ∙ first.0 in
    let new : has_text (zs ++ x ∷ ys) z ≡ false = rw (list_any-append (bytes_eq z) zs (x ∷ ys), among.0, apart, among.1) refl in
    or_from (has_text (zs ++ x ∷ ys) z) (has_twice (zs ++ x ∷ ys)) new (has_twice-put zs ys x parts.1 first.1 after)

-- each of the first texts is one of the others
abbrev pub AreAmong : List (List ℕ) → List (List ℕ) → Type 0
AreAmong texts others = (q : List ℕ) → has_text texts q ≡ true → has_text others q ≡ true

or_map : (a b c d : Bool) → (a ≡ true → c ≡ true) → (b ≡ true → d ≡ true) → (a || b) ≡ true → (c || d) ≡ true
or_map true b c d f g h = or_left c d (f refl)
or_map false b c d f g h = or_right c d (g h)

-- the same text put at the end of both
among-snoc : (xs ys : List (List ℕ)) (x : List ℕ) → AreAmong xs ys → AreAmong (xs ++ x ∷ []) (ys ++ x ∷ [])
among-snoc xs ys x among q h =
    list_any-append (bytes_eq q) ys (x ∷ [])
    ∙ or_map (has_text xs q) (has_text (x ∷ []) q) (has_text ys q) (has_text (x ∷ []) q) (among q) (λ e. e) (sym (list_any-append (bytes_eq q) xs (x ∷ [])) ∙ h)

among-more : (xs ys : List (List ℕ)) (x : List ℕ) → AreAmong xs ys → AreAmong xs (ys ++ x ∷ [])
among-more xs ys x among q h = list_any-append (bytes_eq q) ys (x ∷ []) ∙ or_left (has_text ys q) (has_text (x ∷ []) q) (among q h)

-- a text that is not among others is not among the first
not_among : (xs ys : List (List ℕ)) (x : List ℕ) → AreAmong xs ys → has_text ys x ≡ false → has_text xs x ≡ false
not_among xs ys x among h = false_from_ne_true (has_text xs x) (λ e. let there : has_text ys x ≡ true = among x e in cc)

-- given ids of which none stands twice stay so when the default ones join them
pub named-distinct : (before ids : List (List ℕ)) (options : List (Option (List ℕ))) → AreAmong before ids → AreAmong (given_of options) ids → has_twice (before ++ given_of options) ≡ false → length ids + length options < 2 ^ 64 → has_twice (before ++ named ids options) ≡ false
named-distinct before ids [] known given h small = h
named-distinct before ids (Some id ∷ options) known given h small =
    let rest : AreAmong (given_of options) ids = λ q e. given q (or_right (bytes_eq q id) (has_text (given_of options) q) e) in
    let moved : has_twice ((before ++ id ∷ []) ++ given_of options) ≡ false = ap has_twice (append_assoc before (id ∷ []) (given_of options)) ∙ h in
    let fits : length (ids ++ id ∷ []) + length options < 2 ^ 64 = omega (arith, length-append ids (id ∷ []), small) in
    let all : has_twice ((before ++ id ∷ []) ++ named (ids ++ id ∷ []) options) ≡ false =
    named-distinct (before ++ id ∷ []) (ids ++ id ∷ []) options (among-snoc before ids id known) (among-more (given_of options) ids id rest) moved fits in
    sym (ap has_twice (append_assoc before (id ∷ []) (named (ids ++ id ∷ []) options))) ∙ all
named-distinct before ids (None ∷ options) known given h small =
    let id = default_id (lowest_free ids) in
    let free : has_text ids id ≡ false = not-true (has_text ids id) (lowest_free-is ids (omega arith)).0 in
    let put : has_twice (before ++ id ∷ given_of options) ≡ false =
    has_twice-put before (given_of options) id h (not_among before ids id known free) (not_among (given_of options) ids id given free) in
    let moved : has_twice ((before ++ id ∷ []) ++ given_of options) ≡ false = ap has_twice (append_assoc before (id ∷ []) (given_of options)) ∙ put in
    let fits : length (ids ++ id ∷ []) + length options < 2 ^ 64 = omega (arith, length-append ids (id ∷ []), small) in
    let all : has_twice ((before ++ id ∷ []) ++ named (ids ++ id ∷ []) options) ≡ false =
    named-distinct (before ++ id ∷ []) (ids ++ id ∷ []) options (among-snoc before ids id known) (among-more (given_of options) ids id given) moved fits in
    sym (ap has_twice (append_assoc before (id ∷ []) (named (ids ++ id ∷ []) options))) ∙ all

-- ---- what holds where no rule is broken

pub broken_none : (b : Bool) (rule : Rule) (rest : List (Bool × Rule)) → first_broken ((b, rule) ∷ rest) ≡ None → (b ≡ false) × (first_broken rest ≡ None)
broken_none true rule rest h = cc
broken_none false rule rest h = (refl, h)

-- the rules on disks and devices, kept
pub record KeepsDeviceRules (names : List (List ℕ)) (config : VmConfig) : Type 0 where
  pub known : disk_unknown names config ≡ false
  pub names_once : disk_twice config ≡ false
  pub good_ids : device_id_bad config ≡ false
  pub ids_once : device_id_twice config ≡ false
  pub good_queues : queue_shape config ≡ false
  pub few : too_many_devices config ≡ false

pub keeps_device_rules : (names : List (List ℕ)) (config : VmConfig) → verdict names config ≡ None → KeepsDeviceRules names config
keeps_device_rules names config h =
    let all : first_broken (device_rules names config) ≡ None = (first_broken-parts (cpu_rules config ++ memory_rules config) (device_rules names config) h).1 in
    let rules = device_rules names config in
    let a = broken_none (disk_unknown names config) DiskUnknown (drop 1 rules) all in
    let b = broken_none (disk_twice config) DiskTwice (drop 2 rules) a.1 in
    let d = broken_none (device_id_bad config) DeviceIdBad (drop 3 rules) b.1 in
    let e = broken_none (device_id_twice config) DeviceIdTwice (drop 4 rules) d.1 in
    let f = broken_none (queue_shape config) QueueShape (drop 5 rules) e.1 in
    let g = broken_none (too_many_devices config) TooManyDevices (drop 6 rules) f.1 in
    record { known = a.0; names_once = b.0; good_ids = d.0; ids_once = e.0; good_queues = f.0; few = g.0 }

-- ---- the devices of a configuration that is kept

pub with_ids-set : (ids : List (List ℕ)) (disks : List DiskConfig) → list_all (λ disk. is_some disk.id) (with_ids ids disks) ≡ true
with_ids-set ids [] = refl
with_ids-set ids (disk ∷ disks) = with_ids-set (ids ++ id_beside ids disk ∷ []) disks

length-named : (ids : List (List ℕ)) (options : List (Option (List ℕ))) → length (named ids options) ≡ length options
length-named ids [] = refl
length-named ids (option ∷ options) = ap suc (length-named (ids ++ unwrap_or option (default_id (lowest_free ids)) ∷ []) options)

length-given : (ids : List (List ℕ)) (disks : List DiskConfig) → length (given_ids (with_ids ids disks)) ≡ length disks
length-given ids disks =
    ap length (given_ids-with_ids ids disks)
    ∙ length-named ids (map (λ disk. disk.id) disks)
    ∙ length-map disks (λ disk. disk.id)

-- at most 31 devices stand
pub devices_are_few : (config : VmConfig) → too_many_devices config ≡ false → length (ids_of (zones_in_effect config.memory) (with_ids (ids_of (zones_in_effect config.memory) config.disks) config.disks)) ≤ 31
devices_are_few config h =
    let zones = zones_in_effect config.memory in
    let ids = ids_of zones config.disks in
    let few : length (filter grows zones) + length config.disks ≤ 31 = ltb-false 31 (length (filter grows zones) + length config.disks) h in
    omega (arith, few, length-append (memory_device_ids zones) (given_ids (with_ids ids config.disks)), length-map (filter grows zones) memory_device_id, length-given ids config.disks)

length-given_of : (options : List (Option (List ℕ))) → length (given_of options) ≤ length options
length-given_of [] = omega arith
length-given_of (None ∷ options) = omega (arith, length-given_of options)
length-given_of (Some id ∷ options) = omega (arith, length-given_of options)

-- no two devices have one id
pub devices_are_distinct : (config : VmConfig) → device_id_twice config ≡ false → too_many_devices config ≡ false → has_twice (ids_of (zones_in_effect config.memory) (with_ids (ids_of (zones_in_effect config.memory) config.disks) config.disks)) ≡ false
devices_are_distinct config once few =
    let zones = zones_in_effect config.memory in
    let before = memory_device_ids zones in
    let ids = ids_of zones config.disks in
    let options = map (λ disk. disk.id) config.disks in
    let same : given_ids config.disks ≡ given_of options = given_ids-is config.disks in
    let known : AreAmong before ids = λ q h. list_any-append (bytes_eq q) before (given_ids config.disks) ∙ or_left (has_text before q) (has_text (given_ids config.disks) q) h in
    let given : AreAmong (given_of options) ids = λ q h. list_any-append (bytes_eq q) before (given_ids config.disks) ∙ or_right (has_text before q) (has_text (given_ids config.disks) q) (ap (λ texts. has_text texts q) same ∙ h) in
    let start : has_twice (before ++ given_of options) ≡ false = ap (λ texts. has_twice (before ++ texts)) (sym same) ∙ once in
    let small : length (filter grows zones) + length config.disks ≤ 31 = ltb-false 31 (length (filter grows zones) + length config.disks) few in
    let fits : length ids + length options < 2 ^ 64 =
    omega (arith, small, length-append before (given_ids config.disks), length-map (filter grows zones) memory_device_id, length-map config.disks (λ disk. disk.id), ap length same, length-given_of options) in
    ap (λ texts. has_twice (before ++ texts)) (given_ids-with_ids ids config.disks) ∙ named-distinct before ids options known given start fits

-- the memory devices carry the ids of the zones that grow
memory_devices-ids : (n : ℕ) (zones : List ZoneConfig) → map (λ (device : DeviceKind × List ℕ). device.1) (map (λ (p : ℕ × ZoneConfig). (Memory p.0, memory_device_id p.1)) (filter (λ (p : ℕ × ZoneConfig). grows p.1) (enumerate_from n zones))) ≡ memory_device_ids zones
memory_devices-ids n [] = refl
memory_devices-ids n (zone ∷ zones) = by (grows zone) (memory_devices-ids (n + 1) zones)
  where
    by : (b : Bool) → map (λ (device : DeviceKind × List ℕ). device.1) (map (λ (p : ℕ × ZoneConfig). (Memory p.0, memory_device_id p.1)) (filter (λ (p : ℕ × ZoneConfig). grows p.1) (enumerate_from (n + 1) zones))) ≡ memory_device_ids zones →
        map (λ (device : DeviceKind × List ℕ). device.1) (map (λ (p : ℕ × ZoneConfig). (Memory p.0, memory_device_id p.1)) (cond b ((n, zone) ∷ filter (λ (p : ℕ × ZoneConfig). grows p.1) (enumerate_from (n + 1) zones)) (filter (λ (p : ℕ × ZoneConfig). grows p.1) (enumerate_from (n + 1) zones))))
        ≡ map memory_device_id (cond b (zone ∷ filter grows zones) (filter grows zones))
    by true e = ap (λ rest. memory_device_id zone ∷ rest) e
    by false e = e

-- the disks carry their ids
disk_devices-ids : (n : ℕ) (ids : List (List ℕ)) (disks : List DiskConfig) → map (λ (device : DeviceKind × List ℕ). device.1) (map (λ (p : ℕ × DiskConfig). (Disk p.0, unwrap_or p.1.id [])) (enumerate_from n (with_ids ids disks))) ≡ given_ids (with_ids ids disks)
disk_devices-ids n ids [] = refl
disk_devices-ids n ids (disk ∷ disks) = ap (λ rest. id_beside ids disk ∷ rest) (disk_devices-ids (n + 1) (ids ++ id_beside ids disk ∷ []) disks)

-- the devices in their order carry the ids of the devices
pub devices_are_named : (config : VmConfig) → map (λ (device : DeviceKind × List ℕ). device.1) (devices_of (checked_of config)) ≡ device_ids (checked_of config)
devices_are_named config =
    let zones = zones_in_effect config.memory in
    let disks = with_ids (ids_of zones config.disks) config.disks in
    map-append (λ (device : DeviceKind × List ℕ). device.1) (memory_devices zones) (disk_devices disks)
    ∙ ap (λ first. first ++ map (λ (device : DeviceKind × List ℕ). device.1) (disk_devices disks)) (memory_devices-ids 0 zones)
    ∙ ap (λ last. memory_device_ids zones ++ last) (disk_devices-ids 0 (ids_of zones config.disks) config.disks)
