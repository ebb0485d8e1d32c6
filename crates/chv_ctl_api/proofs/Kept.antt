-- What a call leaves is well formed.
use Rattle.std.proofs.Common.{◌≡◌, ◌≤◌, ◌<◌, ◌+◌, ◌*◌, ◌^◌, ◌↔◌, ℕ, Bool, true, false, List, [], ◌∷◌, ◌++◌, length, if◌then◌else◌, nat_lt, ◌==◌, None, Some, Option, refl, subst, arith}
use Rattle.std.specs.Prelude.{sum_by, not, is_some, unwrap_or}
use Rattle.std.specs.List.{list_any}
use Rattle.std.proofs.lemmas.Bool.{or_parts}
use Rattle.std.proofs.lemmas.Bool.Decides.{nat_tests}
use Rattle.std.proofs.lemmas.List.Sums.{sum_by-cons}
use Rattle.chv_defs_control.specs.declared.machine.Machine.{Machine}
use Rattle.chv_defs_control.specs.declared.machine.Life.{Life}
use Rattle.chv_defs_control.specs.declared.machine.Life.TheVariants as life
use Rattle.chv_defs_api.specs.declared.config.Checked.{Checked}
use Rattle.chv_defs_api.specs.declared.config.VmConfig.{VmConfig}
use Rattle.chv_defs_api.specs.declared.config.MemConfig.{MemConfig}
use Rattle.chv_defs_api.specs.declared.config.ZoneConfig.{ZoneConfig}
use Rattle.chv_defs_api.specs.declared.config.DiskConfig.{DiskConfig}
use Rattle.chv_defs_api.specs.declared.shelf.OnShelf.{OnShelf}
use Rattle.chv_defs_base.specs.declared.rule.Rule.{Rule}
use Rattle.chv_defs_base.specs.declared.rule.Rule.TheVariants.{AlreadyCreated, NotBuilt, NotCreated, SlotsFull}
use Rattle.chv_defs_api.specs.declared.control.Goal.TheVariants.{Shutdown, Delete}
use Rattle.chv_defs_api.specs.declared.control.ControlCall.{ControlCall}
use Rattle.chv_defs_api.specs.declared.control.ControlCall.TheVariants as call
use Rattle.chv_defs_api.specs.declared.control.ControlReply.{ControlReply}
use Rattle.chv_defs_api.specs.declared.control.ControlReply.TheVariants as reply
use Rattle.chv_defs_control.specs.Machine.{AreSessionsAbove, HasChecked, IsWellFormed, RunsBare}
use Rattle.chv_defs_control.specs.ApiStep.{after, device_count, has_devices, has_full_slots, has_id, is_booted, is_uncreated, names_of, now_of, refusal_of, reply_to, rules_of, with_new_disk, with_number, without_disk}
use Rattle.chv_defs_control.specs.ControlStep.{MayCall}
use Rattle.chv_defs_api.specs.ConfigRules.{IsChecked, checked_of, config_rules, first_broken, further_disk_rules, has_zones, own_zone, zones_in_effect, verdict}
use Rattle.chv_defs_api.specs.DefaultConfig.{default_config}
use Rattle.chv_config.proofs.Fewer.{length-filter-le}
use Rattle.chv_config.proofs.Firsts.{first_broken-parts}
use Rattle.chv_config.proofs.Recheck.{IsChecked-checked_of, IsChecked-filter, IsChecked-parts, IsChecked-with_disk}
use Rattle.chv_ctl_api.proofs.Verdicts.{none-from_done, none-broken}

choose : (P : List ℕ → Type 0) (b c : Bool) (x y z : List ℕ) → (b ≡ true → P x) → (b ≡ false → c ≡ true → P y) → (b ≡ false → c ≡ false → P z) → P (if b then x else (if c then y else z))
choose P true c x y z p q r = p refl
choose P false true x y z p q r = q refl refl
choose P false false x y z p q r = r refl refl

-- one more session is among the ended ones
AreSessionsAbove-with_number : (low n : ℕ) (callers : List ℕ) → AreSessionsAbove low callers → low < n → n ≤ 16 → AreSessionsAbove low (with_number n callers)
AreSessionsAbove-with_number low n [] all above below = (above, below, tt)
AreSessionsAbove-with_number low n (m ∷ ms) all above below =
    choose (AreSessionsAbove low) (nat_lt n m) (n == m) _ _ _
    (λ e. (above, below, (grind (arith, nat_tests), all.1, all.2)))
    (λ e f. all)
    (λ e f. (all.0, all.1, AreSessionsAbove-with_number m n ms all.2 (grind (arith, nat_tests)) below))

-- zones of at most 64 GiB each
total-bound : (zones : List ZoneConfig) → list_any (λ (zone : ZoneConfig). nat_lt 68719476736 (zone.size + zone.hotplug)) zones ≡ false → sum_by (λ (zone : ZoneConfig). zone.size) zones ≤ length zones * 68719476736
total-bound [] small = omega arith
total-bound (zone ∷ zones) small =
    let parts = or_parts (nat_lt 68719476736 (zone.size + zone.hotplug)) (list_any (λ (z : ZoneConfig). nat_lt 68719476736 (z.size + z.hotplug)) zones) small in
    let here : zone.size + zone.hotplug ≤ 68719476736 = not_lt _ _ parts.0 in
    let rest : sum_by (λ (z : ZoneConfig). z.size) zones ≤ length zones * 68719476736 = total-bound zones parts.1 in
    rw (sum_by-cons (λ (z : ZoneConfig). z.size) zone zones) (omega (arith, here, rest))
  where
    not_lt : (a b : ℕ) → nat_lt a b ≡ false → b ≤ a
    not_lt a b e = grind (arith, nat_tests)

-- at most eight zones of at most 64 GiB each
few_small : (zones : List ZoneConfig) → length zones ≤ 8 → list_any (λ (zone : ZoneConfig). nat_lt 68719476736 (zone.size + zone.hotplug)) zones ≡ false → sum_by (λ (zone : ZoneConfig). zone.size) zones < 18446744073709551616
few_small zones few small =
    let bound = total-bound zones small in
    omega (arith, bound)

either : (memory : MemConfig) (b : Bool) → length memory.zones ≤ 8 → length (if b then memory.zones else own_zone memory ∷ []) ≤ 8
either memory true few = few
either memory false few = omega arith

-- a configuration that keeps the rules has small zones
small_checked : (names : List (List ℕ)) (config : VmConfig) → verdict names config ≡ None → sum_by (λ (zone : ZoneConfig). zone.size) (checked_of config).zones < 2 ^ 64
small_checked names config none =
    let broken = none-broken (config_rules names config) none in
    few_small (zones_in_effect config.memory) (either config.memory (has_zones config.memory) (at_most _ _ broken.1.1.1.1.1.1.0)) broken.1.1.1.1.1.1.1.1.1.1.0
  where
    at_most : (a b : ℕ) → nat_lt a b ≡ false → b ≤ a
    at_most a b e = grind (arith, nat_tests)

-- the sizes of the zones of a checked configuration, in bytes, sum below 2^64
small_zones : (now : Checked) → IsChecked now → sum_by (λ (zone : ZoneConfig). zone.size) now.zones < 2 ^ 64
small_zones now checked =
    let parts = IsChecked-parts now checked in
    subst (λ (c : Checked). sum_by (λ (zone : ZoneConfig). zone.size) c.zones < 2 ^ 64) parts.1 (small_checked checked.names checked.config parts.0)

-- a configuration that keeps the rules has at most 16 vCPUs at boot
few_checked : (names : List (List ℕ)) (config : VmConfig) → verdict names config ≡ None → (checked_of config).config.cpus.boot ≤ 16
few_checked names config none =
    let broken = none-broken (config_rules names config) none in
    few config.cpus.boot config.cpus.max broken.1.0 broken.1.1.0
  where
    few : (boot max : ℕ) → nat_lt max boot ≡ false → nat_lt 16 max ≡ false → boot ≤ 16
    few boot max e f = grind (arith, nat_tests)

few_vcpus : (now : Checked) → IsChecked now → now.config.cpus.boot ≤ 16
few_vcpus now checked =
    let parts = IsChecked-parts now checked in
    subst (λ (c : Checked). c.config.cpus.boot ≤ 16) parts.1 (few_checked checked.names checked.config parts.0)

-- so has the configuration that is there
pub few_there : (config : Option Checked) (now : Checked) → config ≡ Some now → HasChecked config → now.config.cpus.boot ≤ 16
few_there config now there checked = few_vcpus now (subst (λ (c : Option Checked). HasChecked c) there checked)

-- so do those of the configuration that is there
pub small_there : (config : Option Checked) (now : Checked) → config ≡ Some now → HasChecked config → sum_by (λ (zone : ZoneConfig). zone.size) now.zones < 2 ^ 64
small_there config now there checked = small_zones now (subst (λ (c : Option Checked). HasChecked c) there checked)

-- where there is a machine, its life is not None
some_left : (m : Machine) (now : Checked) → IsWellFormed m → is_uncreated m ≡ false → (m.life ≡ life.None) ↔ (Some now ≡ None)
some_left m now formed some = (λ l. absurd (let h : not (is_some {T = Checked} None) ≡ false = subst (λ (c : Option Checked). not (is_some c) ≡ false) (formed.life_and_config.0 l) some in cc), λ e. absurd (cc))

-- a configuration that is there, with a further disk
checked_with : (config : Option Checked) (other : Checked) (names : List (List ℕ)) (disk : DiskConfig) → not (is_some config) ≡ false → HasChecked config → first_broken (further_disk_rules names (unwrap_or config other) disk) ≡ None → has_full_slots (unwrap_or config other) ≡ false → IsChecked (with_new_disk (unwrap_or config other) disk)
checked_with None other names disk some checked none free = cc
checked_with (Some now) other names disk some checked none free = IsChecked-with_disk names now disk checked none free

-- a configuration that is there, without a disk
checked_without : (config : Option Checked) (other : Checked) (id : List ℕ) → not (is_some config) ≡ false → HasChecked config → IsChecked (without_disk (unwrap_or config other) id)
checked_without None other id some checked = cc
checked_without (Some now) other id some checked = IsChecked-filter now (λ (disk : DiskConfig). not (has_id id disk)) checked

-- a call that no rule refuses, where a machine is asked for first
created_first : (m : Machine) (rows : List (Bool × Rule)) → first_broken ((is_uncreated m, NotCreated) ∷ rows) ≡ None → (is_uncreated m ≡ false) × (first_broken rows ≡ None)
created_first m rows none =
    let parts = first_broken-parts ((is_uncreated m, NotCreated) ∷ []) rows none in
    ((none-broken ((is_uncreated m, NotCreated) ∷ []) parts.0).0, parts.1)

-- what an AddDisk leaves
checked_added : (shelf : List OnShelf) (m : Machine) (disk : DiskConfig) → HasChecked m.config → refusal_of shelf m (call.AddDisk disk) ≡ None → IsChecked (with_new_disk (now_of m) disk)
checked_added shelf m disk checked none =
    let rules = further_disk_rules (names_of shelf) (now_of m) disk in
    let slots : List (Bool × Rule) = (has_full_slots (now_of m), SlotsFull) ∷ (is_booted m.life, NotBuilt) ∷ [] in
    let created = created_first m (rules ++ slots) none in
    let parts = first_broken-parts rules slots created.1 in
    checked_with m.config (checked_of default_config) (names_of shelf) disk created.0 checked parts.0 (none-broken slots parts.1).0

-- a machine to which a disk is added is not booted
unbooted_added : (shelf : List OnShelf) (m : Machine) (disk : DiskConfig) → refusal_of shelf m (call.AddDisk disk) ≡ None → is_booted m.life ≡ false
unbooted_added shelf m disk none =
    let rules = further_disk_rules (names_of shelf) (now_of m) disk in
    let slots : List (Bool × Rule) = (has_full_slots (now_of m), SlotsFull) ∷ (is_booted m.life, NotBuilt) ∷ [] in
    let created = created_first m (rules ++ slots) none in
    (none-broken slots (first_broken-parts rules slots created.1).1).1.0

-- of a machine that is not booted nothing is asked
bare_unbooted : (l : Life) (now : Option Checked) → is_booted l ≡ false → RunsBare l now
bare_unbooted life.None now e = tt
bare_unbooted life.Created now e = tt
bare_unbooted life.Running now e = cc
bare_unbooted (life.Hold holder goal) now e = cc
bare_unbooted life.Paused now e = cc
bare_unbooted life.Shutdown now e = tt

-- a removed disk makes no device
bare_without : (l : Life) (config : Option Checked) (other : Checked) (id : List ℕ) → not (is_some config) ≡ false → RunsBare l config → RunsBare l (Some (without_disk (unwrap_or config other) id))
bare_without life.Running (Some now) other id some bare = omega (arith, bare, length-filter-le (λ (disk : DiskConfig). not (has_id id disk)) now.config.disks)
bare_without life.Running None other id some bare = cc
bare_without life.None config other id some bare = tt
bare_without life.Created config other id some bare = tt
bare_without (life.Hold holder goal) config other id some bare = tt
bare_without life.Paused config other id some bare = tt
bare_without life.Shutdown config other id some bare = tt

-- a machine that boots has no device
bare_booted : (config : Option Checked) (other : Checked) → has_devices (unwrap_or config other) ≡ false → RunsBare life.Running config
bare_booted None other none = tt
bare_booted (Some now) other none = nothing (device_count now) none
  where
    nothing : (n : ℕ) → nat_lt 0 n ≡ false → n ≡ 0
    nothing n e = grind (arith, nat_tests)

-- a machine that is there is not None's
some_config : (m : Machine) → is_uncreated m ≡ false → m.config ≡ None → ⊥
some_config m some none = let h : not (is_some {T = Checked} None) ≡ false = subst (λ (c : Option Checked). not (is_some c) ≡ false) none some in cc

behind_created : (b : Bool) (found : Option Rule) → (if b then Some AlreadyCreated else found) ≡ None → found ≡ None
behind_created true found e = cc
behind_created false found e = e

kept : (shelf : List OnShelf) (m : Machine) (caller : ℕ) (c : ControlCall) (r : ControlReply) → r ≡ reply_to shelf m c → IsWellFormed m → MayCall m caller c → IsWellFormed (after m caller c r)
kept shelf m caller (call.Create config) reply.Done e formed may = record {
  life_and_config = (λ x. absurd (cc), λ x. absurd (cc));
  unpaused = tt;
  bare = tt;
  checked = IsChecked-checked_of (names_of shelf) config (behind_created (is_some m.config) (verdict (names_of shelf) config) (none-from_done (refusal_of shelf m (call.Create config)) e));
  sessions = formed.sessions;
}
kept shelf m caller call.Boot reply.Done e formed may = record {
  life_and_config = (λ x. absurd (cc), λ x. absurd (some_config m ((none-broken (rules_of shelf m call.Boot) (none-from_done (refusal_of shelf m call.Boot) e)).0) x));
  unpaused = tt;
  bare = bare_booted m.config (checked_of default_config) (none-broken (rules_of shelf m call.Boot) (none-from_done (refusal_of shelf m call.Boot) e)).1.1.1.0;
  checked = formed.checked;
  sessions = formed.sessions;
}
kept shelf m caller (call.Begin Delete) reply.Done e formed may = record {
  life_and_config = (λ x. refl, λ x. refl);
  unpaused = tt;
  bare = tt;
  checked = tt;
  sessions = formed.sessions;
}
kept shelf m caller (call.Begin Shutdown) reply.Done e formed may = record {
  life_and_config = (λ x. absurd (cc), λ x. absurd (some_config m ((none-broken (rules_of shelf m (call.Begin Shutdown)) (none-from_done (refusal_of shelf m (call.Begin Shutdown)) e)).0) x));
  unpaused = tt;
  bare = tt;
  checked = formed.checked;
  sessions = formed.sessions;
}
kept shelf m caller (call.AddDisk disk) reply.Done e formed may = record {
  life_and_config = some_left m _ formed ((none-broken (rules_of shelf m (call.AddDisk disk)) (none-from_done (refusal_of shelf m (call.AddDisk disk)) e)).0);
  unpaused = formed.unpaused;
  bare = bare_unbooted m.life _ (unbooted_added shelf m disk (none-from_done (refusal_of shelf m (call.AddDisk disk)) e));
  checked = checked_added shelf m disk formed.checked (none-from_done (refusal_of shelf m (call.AddDisk disk)) e);
  sessions = formed.sessions;
}
kept shelf m caller (call.Remove id) reply.Done e formed may = record {
  life_and_config = some_left m _ formed ((none-broken (rules_of shelf m (call.Remove id)) (none-from_done (refusal_of shelf m (call.Remove id)) e)).0);
  unpaused = formed.unpaused;
  bare = bare_without m.life m.config (checked_of default_config) id ((none-broken (rules_of shelf m (call.Remove id)) (none-from_done (refusal_of shelf m (call.Remove id)) e)).0) formed.bare;
  checked = checked_without m.config (checked_of default_config) id ((none-broken (rules_of shelf m (call.Remove id)) (none-from_done (refusal_of shelf m (call.Remove id)) e)).0) formed.checked;
  sessions = formed.sessions;
}
kept shelf m caller call.Bye reply.Done e formed may = record {
  life_and_config = formed.life_and_config;
  unpaused = formed.unpaused;
  bare = formed.bare;
  checked = formed.checked;
  sessions = AreSessionsAbove-with_number 0 caller m.ended formed.sessions (omega arith) may.0.1;
}
kept shelf m caller call.Stop reply.Done e formed may = record {
  life_and_config = formed.life_and_config;
  unpaused = formed.unpaused;
  bare = formed.bare;
  checked = formed.checked;
  sessions = formed.sessions;
}
kept shelf m caller c r e formed may = formed

pub IsWellFormed-after : (shelf : List OnShelf) (m : Machine) (caller : ℕ) (c : ControlCall) → IsWellFormed m → MayCall m caller c → IsWellFormed (after m caller c (reply_to shelf m c))
IsWellFormed-after shelf m caller c formed may = kept shelf m caller c (reply_to shelf m c) refl formed may
