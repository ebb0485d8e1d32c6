-- What holds of a checked configuration, and says that it is one: so it is still one with a further disk that the rules let
-- through, and without some of its disks.
use Rattle.std.proofs.Common.{◌≡◌, ℕ, ◌+◌, ◌<◌, ◌≤◌, ◌^◌, Bool, true, false, List, [], ◌∷◌, ◌++◌, Option, None, Some, Ok, refl, sym, ◌∙◌, ap, subst, arith, length, drop, append_assoc, suc}
use Rattle.std.specs.Prelude.{unwrap_or, not, ◌||◌, map, filter, is_some, nat_lt, nat_le}
use Rattle.std.specs.List.{list_any, list_all, cons_option}
use Rattle.std.specs.Option.{option_map_or}
use Rattle.std.specs.Str.{bytes_eq}
use Rattle.std.proofs.lemmas.Bool.{and_from, and_parts, or_right, or_from, not-true, ltb-false}
use Rattle.std.proofs.lemmas.Bool.Decides.{nat_tests}
use Rattle.std.proofs.lemmas.Slice.Eq.{bytes_eq-Decides}
use Rattle.std.proofs.lemmas.List.{length-append, length-map, map-append}
use Rattle.std.proofs.lemmas.List.Folds.{list_any-append, list_all-append}
use Rattle.std.proofs.lemmas.List.Elements.{filter_map-append}
use Rattle.chv_defs_base.specs.declared.rule.Rule.{Rule}
use Rattle.chv_defs_base.specs.declared.rule.Rule.TheVariants.{DiskUnknown, DiskTwice, DeviceIdBad, DeviceIdTwice, QueueShape, TooManyDevices}
use Rattle.chv_defs_api.specs.declared.config.Checked.{Checked}
use Rattle.chv_defs_api.specs.declared.config.ZoneConfig.{ZoneConfig}
use Rattle.chv_defs_api.specs.declared.config.DiskConfig.{DiskConfig}
use Rattle.chv_defs_api.specs.declared.config.VmConfig.{VmConfig}
use Rattle.chv_defs_api.specs.ConfigRules.{IsChecked, checked_of, cpu_rules, default_id, device_id_bad, device_id_twice, device_ids, device_rules, disk_name, disk_twice, disk_unknown, first_broken, further_disk_rules, given_ids, grows, has_bad_id, has_odd_queue, has_text, has_twice, id_beside, ids_of, is_unknown, lowest_free, memory_device_id, memory_device_ids, memory_rules, queue_shape, too_many_devices, unless_refused, verdict, with_disk, with_id, with_ids, zones_in_effect}
use Rattle.chv_config.proofs.DefaultIds.{lowest_free-is}
use Rattle.chv_config.proofs.Fewer.{ids-filter, length-filter-le, list_all-filter, list_any-filter, names-filter}
use Rattle.chv_config.proofs.Firsts.{first_broken-none, first_broken-parts}
use Rattle.chv_config.proofs.GoodIds.{good_id-with_id, good_ids-with_ids}
use Rattle.chv_config.proofs.Kept.{KeepsDeviceRules, broken_none, devices_are_distinct, keeps_device_rules, with_ids-set}
use Rattle.chv_config.proofs.Twice.{has_twice-none, known_disks}

-- What holds of a checked configuration: the zones in effect stand beside it, each disk has its id, and it breaks no rule,
-- whether its disks stand by left aside.
pub record KeepsRules (now : Checked) : Type 0 where
  pub in_effect : now.zones ≡ zones_in_effect now.config.memory
  pub has_ids : list_all (λ (disk : DiskConfig). is_some disk.id) now.config.disks ≡ true
  pub cpus : first_broken (cpu_rules now.config) ≡ None
  pub memory : first_broken (memory_rules now.config) ≡ None
  pub names_once : disk_twice now.config ≡ false
  pub good_ids : device_id_bad now.config ≡ false
  pub ids_once : device_id_twice now.config ≡ false
  pub good_queues : queue_shape now.config ≡ false
  pub few : too_many_devices now.config ≡ false

-- ---- a checked configuration has them

names-with_ids : (ids : List (List ℕ)) (disks : List DiskConfig) → map disk_name (with_ids ids disks) ≡ map disk_name disks
names-with_ids ids [] = refl
names-with_ids ids (disk ∷ disks) = ap (λ rest. disk_name disk ∷ rest) (names-with_ids (ids ++ id_beside ids disk ∷ []) disks)

queues-with_ids : (ids : List (List ℕ)) (disks : List DiskConfig) → list_any has_odd_queue (with_ids ids disks) ≡ list_any has_odd_queue disks
queues-with_ids ids [] = refl
queues-with_ids ids (disk ∷ disks) = ap (λ b. has_odd_queue disk || b) (queues-with_ids (ids ++ id_beside ids disk ∷ []) disks)

length-with_ids : (ids : List (List ℕ)) (disks : List DiskConfig) → length (with_ids ids disks) ≡ length disks
length-with_ids ids [] = refl
length-with_ids ids (disk ∷ disks) = ap suc (length-with_ids (ids ++ id_beside ids disk ∷ []) disks)

length-given_ids : (disks : List DiskConfig) → length (given_ids disks) ≤ length disks
length-given_ids [] = omega arith
length-given_ids (disk ∷ disks) = by disk.id (length-given_ids disks)
  where
    by : (given : Option (List ℕ)) → length (given_ids disks) ≤ length disks → length (cons_option given (given_ids disks)) ≤ length (disk ∷ disks)
    by None rest = omega (arith, rest)
    by (Some id) rest = omega (arith, rest)

-- devices have few ids
few_ids : (zones : List ZoneConfig) (disks : List DiskConfig) → nat_lt 31 (length (filter grows zones) + length disks) ≡ false → length (ids_of zones disks) + length disks < 2 ^ 64
few_ids zones disks few =
    let small : length (filter grows zones) + length disks ≤ 31 = ltb-false 31 (length (filter grows zones) + length disks) few in
    omega (arith, small, length-append (memory_device_ids zones) (given_ids disks), length-map (filter grows zones) memory_device_id, length-given_ids disks)

pub KeepsRules-checked_of : (names : List (List ℕ)) (config : VmConfig) → verdict names config ≡ None → KeepsRules (checked_of config)
KeepsRules-checked_of names config none =
    let zones = zones_in_effect config.memory in
    let ids = ids_of zones config.disks in
    let rules : KeepsDeviceRules names config = keeps_device_rules names config none in
    let parts = first_broken-parts (cpu_rules config) (memory_rules config ++ device_rules names config) none in
    record {
      in_effect = refl;
      has_ids = with_ids-set ids config.disks;
      cpus = parts.0;
      memory = (first_broken-parts (memory_rules config) (device_rules names config) parts.1).0;
      names_once = ap has_twice (names-with_ids ids config.disks) ∙ rules.names_once;
      good_ids = good_ids-with_ids ids config.disks (few_ids zones config.disks rules.few) rules.good_ids;
      ids_once = devices_are_distinct config rules.ids_once rules.few;
      good_queues = queues-with_ids ids config.disks ∙ rules.good_queues;
      few = ap (λ n. nat_lt 31 (length (filter grows zones) + n)) (length-with_ids ids config.disks) ∙ rules.few;
    }

answered : (found : Option Rule) (value now : Checked) → unless_refused found value ≡ Ok now → (found ≡ None) × (value ≡ now)
answered None value now e = (refl, cc)
answered (Some rule) value now e = cc

-- a checked configuration is what is kept of one that breaks no rule
pub IsChecked-parts : (now : Checked) (checked : IsChecked now) → (verdict checked.names checked.config ≡ None) × (checked_of checked.config ≡ now)
IsChecked-parts now checked = answered (verdict checked.names checked.config) (checked_of checked.config) now checked.answer

pub KeepsRules-from : (now : Checked) → IsChecked now → KeepsRules now
KeepsRules-from now checked =
    let parts = IsChecked-parts now checked in
    subst (λ (c : Checked). KeepsRules c) parts.1 (KeepsRules-checked_of checked.names checked.config parts.0)

-- ---- and where they hold, it is its own check

pass : (b : Bool) (rule : Rule) (rest : List (Bool × Rule)) → b ≡ false → first_broken rest ≡ None → first_broken ((b, rule) ∷ rest) ≡ None
pass true rule rest kept none = cc
pass false rule rest kept none = none

-- each text is one of those behind others
each_among : (front texts : List (List ℕ)) → list_all (has_text (front ++ texts)) texts ≡ true
each_among front [] = refl
each_among front (text ∷ texts) =
    let first : has_text (text ∷ texts) text ≡ true = ap (λ b. b || has_text texts text) ((bytes_eq-Decides text text).1 refl) in
    let here : has_text (front ++ text ∷ texts) text ≡ true = list_any-append (bytes_eq text) front (text ∷ texts) ∙ or_right (has_text front text) (has_text (text ∷ texts) text) first in
    let rest : list_all (has_text (front ++ text ∷ texts)) texts ≡ true = subst (λ (all : List (List ℕ)). list_all (has_text all) texts ≡ true) (append_assoc front (text ∷ []) texts) (each_among (front ++ text ∷ []) texts) in
    and_from (has_text (front ++ text ∷ texts) text) (list_all (has_text (front ++ text ∷ texts)) texts) here rest

-- disks are known where disks of their own names stand by
own_known : (disks : List DiskConfig) → list_any (is_unknown (map disk_name disks)) disks ≡ false
own_known disks = sym (known_disks (map disk_name disks) disks) ∙ ap not (each_among [] (map disk_name disks))

-- a disk that has its id keeps it
with_id-same : (ids : List (List ℕ)) (disk : DiskConfig) → is_some disk.id ≡ true → with_id ids disk ≡ disk
with_id-same ids disk some =
    let put : Option (List ℕ) → DiskConfig = λ id. record disk { id = id } in
    ap put (same disk.id (default_id (lowest_free ids)) some)
  where
    same : (given : Option (List ℕ)) (other : List ℕ) → is_some given ≡ true → Some (unwrap_or given other) ≡ given
    same None other some = cc
    same (Some id) other some = refl

with_ids-same : (ids : List (List ℕ)) (disks : List DiskConfig) → list_all (λ (disk : DiskConfig). is_some disk.id) disks ≡ true → with_ids ids disks ≡ disks
with_ids-same ids [] all = refl
with_ids-same ids (disk ∷ disks) all =
    let parts : (is_some disk.id ≡ true) × (list_all (λ (other : DiskConfig). is_some other.id) disks ≡ true) = and_parts (is_some disk.id) (list_all (λ (other : DiskConfig). is_some other.id) disks) all in
    let next : List (List ℕ) = ids ++ id_beside ids disk ∷ [] in
    ap (λ (first : DiskConfig). first ∷ with_ids next disks) (with_id-same ids disk parts.0)
    ∙ ap (λ (rest : List DiskConfig). disk ∷ rest) (with_ids-same next disks parts.1)

-- what is kept of it is itself
checked_of-same : (now : Checked) → KeepsRules now → checked_of now.config ≡ now
checked_of-same now kept =
    let zones = zones_in_effect now.config.memory in
    let with_disks : List DiskConfig → Checked = λ disks. record { config = record now.config { disks = disks }; zones = zones } in
    let with_zones : List ZoneConfig → Checked = λ zones. record { config = now.config; zones = zones } in
    ap with_disks (with_ids-same (ids_of zones now.config.disks) now.config.disks kept.has_ids) ∙ ap with_zones (sym kept.in_effect)

-- it breaks no rule where disks of its own names stand by
own_verdict : (now : Checked) → KeepsRules now → verdict (map disk_name now.config.disks) now.config ≡ None
own_verdict now kept =
    let names = map disk_name now.config.disks in
    let config : VmConfig = now.config in
    let rules = device_rules names config in
    let devices : first_broken (device_rules names config) ≡ None =
    pass (disk_unknown names config) DiskUnknown (drop 1 rules) (own_known config.disks)
    (pass (disk_twice config) DiskTwice (drop 2 rules) kept.names_once
    (pass (device_id_bad config) DeviceIdBad (drop 3 rules) kept.good_ids
    (pass (device_id_twice config) DeviceIdTwice (drop 4 rules) kept.ids_once
    (pass (queue_shape config) QueueShape (drop 5 rules) kept.good_queues
    (pass (too_many_devices config) TooManyDevices (drop 6 rules) kept.few refl))))) in
    first_broken-none (cpu_rules config) (memory_rules config ++ device_rules names config) kept.cpus
    ∙ first_broken-none (memory_rules config) (device_rules names config) kept.memory
    ∙ devices

answer_of : (found : Option Rule) (value now : Checked) → found ≡ None → value ≡ now → unless_refused found value ≡ Ok now
answer_of None value now none same = cc
answer_of (Some rule) value now none same = cc

pub IsChecked-from : (now : Checked) → KeepsRules now → IsChecked now
IsChecked-from now kept = record {
  names = map disk_name now.config.disks;
  config = now.config;
  answer = answer_of (verdict (map disk_name now.config.disks) now.config) (checked_of now.config) now (own_verdict now kept) (checked_of-same now kept);
}

-- what is kept of a configuration that breaks no rule is checked
pub IsChecked-checked_of : (names : List (List ℕ)) (config : VmConfig) → verdict names config ≡ None → IsChecked (checked_of config)
IsChecked-checked_of names config none = record {
  names = names;
  config = config;
  answer = answer_of (verdict names config) (checked_of config) (checked_of config) none refl;
}

-- ---- with a further disk

-- a further disk that the rules let through
record IsLetThrough (now : Checked) (disk : DiskConfig) : Type 0 where
  other_name : has_text (map disk_name now.config.disks) (disk_name disk) ≡ false
  good_id : has_bad_id disk ≡ false
  other_id : option_map_or (has_text (device_ids now)) disk.id false ≡ false
  good_queue : has_odd_queue disk ≡ false

let_through : (names : List (List ℕ)) (now : Checked) (disk : DiskConfig) → first_broken (further_disk_rules names now disk) ≡ None → IsLetThrough now disk
let_through names now disk none =
    let rules = further_disk_rules names now disk in
    let a = broken_none (is_unknown names disk) DiskUnknown (drop 1 rules) none in
    let b = broken_none (has_text (map disk_name now.config.disks) (disk_name disk)) DiskTwice (drop 2 rules) a.1 in
    let d = broken_none (has_bad_id disk) DeviceIdBad (drop 3 rules) b.1 in
    let e = broken_none (option_map_or (has_text (device_ids now)) disk.id false) DeviceIdTwice (drop 4 rules) d.1 in
    let f = broken_none (has_odd_queue disk) QueueShape (drop 5 rules) e.1 in
    record { other_name = b.0; good_id = d.0; other_id = e.0; good_queue = f.0 }

-- the id that a further disk gets is that of no other device
new_id : (ids : List (List ℕ)) (given : Option (List ℕ)) → length ids < 2 ^ 64 → option_map_or (has_text ids) given false ≡ false → has_text ids (unwrap_or given (default_id (lowest_free ids))) ≡ false
new_id ids None small other = not-true (has_text ids (default_id (lowest_free ids))) (lowest_free-is ids small).0
new_id ids (Some id) small other = other

-- one more device, where not all slots are used
one_more : (growing count more : ℕ) → more ≡ count + 1 → nat_le 31 (growing + count) ≡ false → nat_lt 31 (growing + more) ≡ false
one_more growing count more e free = grind (arith, nat_tests)

ids_of-more : (zones : List ZoneConfig) (disks : List DiskConfig) (disk : DiskConfig) (id : List ℕ) → disk.id ≡ Some id → ids_of zones (disks ++ disk ∷ []) ≡ ids_of zones disks ++ id ∷ []
ids_of-more zones disks disk id given =
    let all : given_ids (disks ++ disk ∷ []) ≡ given_ids disks ++ id ∷ [] = filter_map-append (λ (d : DiskConfig). d.id) disks (disk ∷ []) ∙ ap (λ (o : Option (List ℕ)). given_ids disks ++ cons_option o []) given in
    ap (λ (given : List (List ℕ)). memory_device_ids zones ++ given) all ∙ sym (append_assoc (memory_device_ids zones) (given_ids disks) (id ∷ []))

with_disk-keeps : (names : List (List ℕ)) (now : Checked) (disk : DiskConfig) → KeepsRules now → first_broken (further_disk_rules names now disk) ≡ None → nat_le 31 (length (filter grows now.zones) + length now.config.disks) ≡ false → KeepsRules (with_disk now (with_id (device_ids now) disk))
with_disk-keeps names now disk kept none free =
    let zones = zones_in_effect now.config.memory in
    let disks = now.config.disks in
    let ids = device_ids now in
    let new = with_id ids disk in
    let id = id_beside ids disk in
    let through : IsLetThrough now disk = let_through names now disk none in
    let known : ids ≡ ids_of zones disks = ap (λ (z : List ZoneConfig). ids_of z disks) kept.in_effect in
    let fits : length (ids_of zones disks) + length disks < 2 ^ 64 = few_ids zones disks kept.few in
    let small : length ids < 2 ^ 64 = omega (arith, ap length known, fits) in
    let other : has_text (ids_of zones disks) id ≡ false = subst (λ (texts : List (List ℕ)). has_text texts id ≡ false) known (new_id ids disk.id small through.other_id) in
    let places : nat_le 31 (length (filter grows zones) + length disks) ≡ false = subst (λ (z : List ZoneConfig). nat_le 31 (length (filter grows z) + length disks) ≡ false) kept.in_effect free in
    record {
      in_effect = kept.in_effect;
      has_ids = list_all-append (λ (d : DiskConfig). is_some d.id) disks (new ∷ []) ∙ and_from (list_all (λ (d : DiskConfig). is_some d.id) disks) true kept.has_ids refl;
      cpus = kept.cpus;
      memory = kept.memory;
      names_once = ap has_twice (map-append disk_name disks (new ∷ [])) ∙ has_twice-none (map disk_name disks) (disk_name disk) kept.names_once through.other_name;
      good_ids = list_any-append has_bad_id disks (new ∷ []) ∙ or_from (list_any has_bad_id disks) (list_any has_bad_id (new ∷ [])) kept.good_ids (or_from (has_bad_id new) false (good_id-with_id ids disk small through.good_id) refl);
      ids_once = ap has_twice (ids_of-more zones disks new id refl) ∙ has_twice-none (ids_of zones disks) id kept.ids_once other;
      good_queues = list_any-append has_odd_queue disks (new ∷ []) ∙ or_from (list_any has_odd_queue disks) (list_any has_odd_queue (new ∷ [])) kept.good_queues (or_from (has_odd_queue disk) false through.good_queue refl);
      few = one_more (length (filter grows zones)) (length disks) (length (disks ++ new ∷ [])) (length-append disks (new ∷ [])) places;
    }

-- a checked configuration with a further disk that its rules let through, while not all slots are used, is a checked one
pub IsChecked-with_disk : (names : List (List ℕ)) (now : Checked) (disk : DiskConfig) → IsChecked now → first_broken (further_disk_rules names now disk) ≡ None → nat_le 31 (length (filter grows now.zones) + length now.config.disks) ≡ false → IsChecked (with_disk now (with_id (device_ids now) disk))
IsChecked-with_disk names now disk checked none free =
    IsChecked-from (with_disk now (with_id (device_ids now) disk)) (with_disk-keeps names now disk (KeepsRules-from now checked) none free)

-- ---- without some disks

no_more : (growing count fewer : ℕ) → fewer ≤ count → nat_lt 31 (growing + count) ≡ false → nat_lt 31 (growing + fewer) ≡ false
no_more growing count fewer le few = grind (arith, nat_tests)

filter-keeps : (now : Checked) (keep : DiskConfig → Bool) → KeepsRules now → KeepsRules (record now { config = record now.config { disks = filter keep now.config.disks } })
filter-keeps now keep kept =
    let zones = zones_in_effect now.config.memory in
    let disks = now.config.disks in
    record {
      in_effect = kept.in_effect;
      has_ids = list_all-filter (λ (disk : DiskConfig). is_some disk.id) keep disks kept.has_ids;
      cpus = kept.cpus;
      memory = kept.memory;
      names_once = names-filter keep disks [] kept.names_once;
      good_ids = list_any-filter has_bad_id keep disks kept.good_ids;
      ids_once = ids-filter keep disks (memory_device_ids zones) kept.ids_once;
      good_queues = list_any-filter has_odd_queue keep disks kept.good_queues;
      few = no_more (length (filter grows zones)) (length disks) (length (filter keep disks)) (length-filter-le keep disks) kept.few;
    }

-- a checked configuration of which only some disks are kept is a checked one
pub IsChecked-filter : (now : Checked) (keep : DiskConfig → Bool) → IsChecked now → IsChecked (record now { config = record now.config { disks = filter keep now.config.disks } })
IsChecked-filter now keep checked =
    IsChecked-from (record now { config = record now.config { disks = filter keep now.config.disks } }) (filter-keeps now keep (KeepsRules-from now checked))
