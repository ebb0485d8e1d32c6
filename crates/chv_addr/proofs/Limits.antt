-- The zones of a checked configuration are within the limits of an address map.
use Rattle.std.proofs.Common.{◌≡◌, ℕ, ◌+◌, ◌*◌, ◌<◌, ◌^◌, Bool, true, false, List, [], ◌∷◌, Option, None, Some, refl, sym, ◌∙◌, ap, subst, arith, suc, zero, length, get_or}
use Rattle.std.specs.Prelude.{nat_le, nat_lt, Ok}
use Rattle.std.specs.List.{list_all, list_any}
use Rattle.std.proofs.lemmas.Bool.Decides.{nat_tests}
use Rattle.chv_defs_api.specs.declared.config.Checked.{Checked}
use Rattle.chv_defs_api.specs.declared.config.MemConfig.{MemConfig}
use Rattle.chv_defs_api.specs.declared.config.VmConfig.{VmConfig}
use Rattle.chv_defs_api.specs.declared.config.ZoneConfig.{ZoneConfig}
use Rattle.chv_defs_base.specs.declared.rule.Rule.{Rule}
use Rattle.chv_defs_base.specs.declared.rule.Rule.TheVariants.{BootZero}
use Rattle.chv_defs_api.specs.ConfigRules.{IsChecked, checked_of, config_rules, first_broken, has_zones, own_zone, too_many_zones, unless_refused, verdict, zone_too_large, zones_in_effect}
use Rattle.chv_addr.specs.AddressMap.{is_within_limits}

-- where no rule is broken, none of them is
none-broken : (rows : List (Bool × Rule)) (k : ℕ) (d : Bool × Rule) → k < length rows → first_broken rows ≡ None → (get_or rows k d).0 ≡ false
none-broken [] k d h e = absurd (omega arith)
none-broken (row ∷ rows) zero d h e = by row.0 refl
  where
    by : (b : Bool) → row.0 ≡ b → row.0 ≡ false
    by true q = let broken : first_broken (row ∷ rows) ≡ Some row.1 = rw q refl in cc
    by false q = q
none-broken (row ∷ rows) (suc k) d h e = by (none-broken rows k d (omega arith)) row.0 refl
  where
    by : (first_broken rows ≡ None → (get_or rows k d).0 ≡ false) → (b : Bool) → row.0 ≡ b → (get_or rows k d).0 ≡ false
    by further true q = let broken : first_broken (row ∷ rows) ≡ Some row.1 = rw q refl in cc
    by further false q = let rest : first_broken (row ∷ rows) ≡ first_broken rows = rw q refl in further (sym rest ∙ e)

small-of : (zones : List ZoneConfig) → list_any (λ zone. nat_lt (64 * 2 ^ 30) (zone.size + zone.hotplug)) zones ≡ false → list_all (λ zone. nat_le (zone.size + zone.hotplug) (64 * 2 ^ 30)) zones ≡ true
small-of [] e = refl
small-of (zone ∷ zones) e = by (small-of zones) (nat_lt (64 * 2 ^ 30) (zone.size + zone.hotplug)) refl
  where
    by : (list_any (λ zone. nat_lt (64 * 2 ^ 30) (zone.size + zone.hotplug)) zones ≡ false → list_all (λ zone. nat_le (zone.size + zone.hotplug) (64 * 2 ^ 30)) zones ≡ true) → (b : Bool) → nat_lt (64 * 2 ^ 30) (zone.size + zone.hotplug) ≡ b → list_all (λ zone. nat_le (zone.size + zone.hotplug) (64 * 2 ^ 30)) (zone ∷ zones) ≡ true
    by further true q =
        let large : list_any (λ zone. nat_lt (64 * 2 ^ 30) (zone.size + zone.hotplug)) (zone ∷ zones) ≡ true = rw q refl in
        cc
    by further false q =
        let rest : list_any (λ zone. nat_lt (64 * 2 ^ 30) (zone.size + zone.hotplug)) (zone ∷ zones) ≡ list_any (λ zone. nat_lt (64 * 2 ^ 30) (zone.size + zone.hotplug)) zones = rw q refl in
        let small : nat_le (zone.size + zone.hotplug) (64 * 2 ^ 30) ≡ true = grind (arith, nat_tests) in
        rw small (further (sym rest ∙ e))

few-of : (memory : MemConfig) → nat_lt 8 (length memory.zones) ≡ false → nat_le (length (zones_in_effect memory)) 8 ≡ true
few-of memory e = by (has_zones memory) refl
  where
    by : (b : Bool) → has_zones memory ≡ b → nat_le (length (zones_in_effect memory)) 8 ≡ true
    by true q =
        let few : nat_le (length memory.zones) 8 ≡ true = grind (arith, nat_tests) in
        let same : zones_in_effect memory ≡ memory.zones = rw q refl in
        ap (λ l. nat_le (length l) 8) same ∙ few
    by false q =
        let same : zones_in_effect memory ≡ own_zone memory ∷ [] = rw q refl in
        ap (λ l. nat_le (length l) 8) same

within : (names : List (List ℕ)) (config : VmConfig) → verdict names config ≡ None → is_within_limits (zones_in_effect config.memory) ≡ true
within names config e =
    let few : too_many_zones config ≡ false = none-broken (config_rules names config) 6 (false, BootZero) (omega arith) e in
    let small : zone_too_large config ≡ false = none-broken (config_rules names config) 10 (false, BootZero) (omega arith) e in
    rw (few-of config.memory few) (small-of (zones_in_effect config.memory) small)

answered : (o : Option Rule) (value checked : Checked) → unless_refused o value ≡ Ok checked → (o ≡ None) × (value ≡ checked)
answered None value checked e = (refl, cc)
answered (Some rule) value checked e = cc

pub checked-within : (checked : Checked) → IsChecked checked → is_within_limits checked.zones ≡ true
checked-within checked h =
    let parts : (verdict h.names h.config ≡ None) × (checked_of h.config ≡ checked) = answered (verdict h.names h.config) (checked_of h.config) checked h.answer in
    let P : Checked → Type 0 = λ c. is_within_limits c.zones ≡ true in
    subst P parts.1 (within h.names h.config parts.0)
