-- Ids of devices, asked one device after another.
use Rattle.std.proofs.Common.{◌≡◌, ℕ, Bool, true, false, List, [], ◌∷◌, Option, None, Some, refl, ◌∙◌, ap, filter, map}
use Rattle.std.specs.Prelude.{◌&&◌, ◌||◌, nat_lt, cond}
use Rattle.std.specs.List.{list_any, cons_option}
use Rattle.std.specs.Str.{bytes_eq}
use Rattle.chv_defs_api.specs.declared.config.ZoneConfig.{ZoneConfig}
use Rattle.chv_defs_api.specs.declared.config.DiskConfig.{DiskConfig}
use Rattle.chv_defs_api.specs.ConfigRules.{given_ids, grows, has_text, memory_device_id, memory_device_ids}

-- whether a disk was given this id
abbrev pub is_given : List ℕ → DiskConfig → Bool
is_given id disk = has_text (given_ids (disk ∷ [])) id

-- whether the memory device of this zone has this id
abbrev pub is_memory : List ℕ → ZoneConfig → Bool
is_memory id zone = nat_lt 0 zone.hotplug && bytes_eq id (memory_device_id zone)

by_option : (id : List ℕ) (given : Option (List ℕ)) (rest : List (List ℕ)) → has_text (cons_option given []) id || has_text rest id ≡ has_text (cons_option given rest) id
by_option id None rest = refl
by_option id (Some x) rest = ap (λ b. b || has_text rest id) (or_nothing (bytes_eq id x))
  where
    or_nothing : (b : Bool) → b || false ≡ b
    or_nothing true = refl
    or_nothing false = refl

pub has_text-given : (id : List ℕ) (disks : List DiskConfig) → list_any (is_given id) disks ≡ has_text (given_ids disks) id
has_text-given id [] = refl
has_text-given id (disk ∷ disks) = ap (λ b. is_given id disk || b) (has_text-given id disks) ∙ by_option id disk.id (given_ids disks)

by_growth : (id : List ℕ) (b here : Bool) (zone : ZoneConfig) (rest : List ZoneConfig) → here ≡ bytes_eq id (memory_device_id zone) → (b && here) || has_text (map memory_device_id rest) id ≡ has_text (map memory_device_id (cond b (zone ∷ rest) rest)) id
by_growth id true here zone rest e = ap (λ h. h || has_text (map memory_device_id rest) id) e
by_growth id false here zone rest e = refl

pub has_text-memory : (id : List ℕ) (zones : List ZoneConfig) → list_any (is_memory id) zones ≡ has_text (memory_device_ids zones) id
has_text-memory id [] = refl
has_text-memory id (zone ∷ zones) =
    ap (λ b. is_memory id zone || b) (has_text-memory id zones)
    ∙ by_growth id (grows zone) (bytes_eq id (memory_device_id zone)) zone (filter grows zones) refl
