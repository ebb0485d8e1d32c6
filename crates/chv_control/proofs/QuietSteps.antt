-- Each control call leaves the banks as they are between control turns.
use Rattle.std.proofs.Common.{◌≡◌, ℕ, Bool, false, List, [], ◌∷◌, Option, None, Some, refl, sym, ap, subst}
use Rattle.std.specs.Prelude.{not, is_some, slice_get, unwrap_or}
use Rattle.chv_defs_api.specs.declared.config.Checked.{Checked}
use Rattle.chv_defs_api.specs.declared.config.DiskConfig.{DiskConfig}
use Rattle.chv_defs_api.specs.declared.config.VmConfig.{VmConfig}
use Rattle.chv_defs_api.specs.declared.config.ZoneConfig.{ZoneConfig}
use Rattle.chv_defs_api.specs.declared.shelf.OnShelf.{OnShelf}
use Rattle.chv_defs_api.specs.declared.control.Goal.TheVariants.{Shutdown, Delete}
use Rattle.chv_defs_api.specs.declared.control.ControlCall.{ControlCall}
use Rattle.chv_defs_api.specs.declared.control.ControlCall.TheVariants as call
use Rattle.chv_defs_api.specs.declared.control.ControlReply.{ControlReply}
use Rattle.chv_defs_api.specs.declared.control.ControlReply.TheVariants as reply
use Rattle.chv_defs_api.specs.ConfigRules.{checked_of, config_rules}
use Rattle.chv_defs_api.specs.DefaultConfig.{default_config}
use Rattle.chv_defs_base.specs.declared.rule.Rule.TheVariants.{AlreadyCreated}
use Rattle.chv_defs_memory.specs.declared.bank.BankCall.{BankCall}
use Rattle.chv_defs_memory.specs.Zones.{Known}
use Rattle.chv_defs_control.specs.declared.machine.Life.{Life}
use Rattle.chv_defs_control.specs.declared.machine.Life.TheVariants as life
use Rattle.chv_defs_control.specs.declared.machine.Machine.{Machine}
use Rattle.chv_defs_control.specs.ApiStep.{after, is_booted, is_paused, is_running_or_paused, names_of, refusal_of, reply_to, rules_of, with_new_disk, without_disk}
use Rattle.chv_defs_control.specs.OwnerCalls.{calls_in, calls_where, owner_calls, zones_in, zones_of, IsLeft}
use Rattle.chv_config.proofs.Firsts.{first_broken-parts}
use Rattle.chv_ctl_api.proofs.Verdicts.{none-broken, none-from_done}
use Rattle.chv_control.specs.Rest.{IsQuiet}
use Rattle.chv_control.proofs.QuietBanks.{left-same, quiet-booted, quiet-nowhere, quiet-wiped, shape_calls, wipe_calls, IsQuietSo}

-- ---- the machine's part

-- a quiet bank, by what of the machine's state it depends on
so-of : (m : Machine) (zone bank : ℕ) (known : Known) → IsQuiet m zone bank known → IsQuietSo (is_paused m.life) (is_booted m.life) (slice_get (zones_of m) zone) bank known
so-of m zone bank known quiet = record { rest = quiet.rest; frozen = quiet.frozen; opened = quiet.opened; unsealed = quiet.unsealed }

of-so : (m : Machine) (zone bank : ℕ) (known : Known) → IsQuietSo (is_paused m.life) (is_booted m.life) (slice_get (zones_of m) zone) bank known → IsQuiet m zone bank known
of-so m zone bank known quiet = record { rest = quiet.rest; frozen = quiet.frozen; opened = quiet.opened; unsealed = quiet.unsealed }

-- where neither the machine's life nor its zones are changed
quiet-same : (m n : Machine) (zone bank : ℕ) (old new : Known) → n.life ≡ m.life → zones_of n ≡ zones_of m → new ≡ old → IsQuiet m zone bank old → IsQuiet n zone bank new
quiet-same m n zone bank old new lives zones stays quiet =
    let there : Life → List ZoneConfig → Type 0 = λ l zs. IsQuietSo (is_paused l) (is_booted l) (slice_get zs zone) bank old in
    let first : there n.life (zones_of m) = subst (λ (l : Life). there l (zones_of m)) (sym lives) (so-of m zone bank old quiet) in
    let second : there n.life (zones_of n) = subst (there n.life) (sym zones) first in
    subst (IsQuiet n zone bank) (sym stays) (of-so n zone bank old second)

-- ---- what is known where a call is done

-- there was no configuration before a Create that is done
uncreated : (shelf : List OnShelf) (m : Machine) (config : VmConfig) → reply.Done ≡ reply_to shelf m (call.Create config) → m.config ≡ None
uncreated shelf m config done =
    let rules = first_broken-parts ((is_some m.config, AlreadyCreated) ∷ []) (config_rules (names_of shelf) config) (none-from_done (refusal_of shelf m (call.Create config)) done) in
    is-none m.config (none-broken ((is_some m.config, AlreadyCreated) ∷ []) rules.0).0
  where
    is-none : (o : Option Checked) → is_some o ≡ false → o ≡ None
    is-none None e = refl
    is-none (Some checked) e = cc

-- a machine is not paused before a Boot that is done
unpaused : (shelf : List OnShelf) (m : Machine) → reply.Done ≡ reply_to shelf m call.Boot → is_paused m.life ≡ false
unpaused shelf m done = not-paused m.life (none-broken (rules_of shelf m call.Boot) (none-from_done (refusal_of shelf m call.Boot) done)).1.1.0
  where
    not-paused : (l : Life) → is_running_or_paused l ≡ false → is_paused l ≡ false
    not-paused life.Paused e = cc
    not-paused l e = refl

-- a further disk changes no zone
zones-with : (config : Option Checked) (other : Checked) (disk : DiskConfig) → not (is_some config) ≡ false → zones_in (Some (with_new_disk (unwrap_or config other) disk)) ≡ zones_in config
zones-with None other disk some = cc
zones-with (Some now) other disk some = refl

-- nor does a disk that is taken away
zones-without : (config : Option Checked) (other : Checked) (id : List ℕ) → not (is_some config) ≡ false → zones_in (Some (without_disk (unwrap_or config other) id)) ≡ zones_in config
zones-without None other id some = cc
zones-without (Some now) other id some = refl

-- ---- the owner's calls

-- where a call asks for none in any zone
no-calls : (zone_config : Option ZoneConfig) (m : Machine) (zone bank : ℕ) (c : ControlCall) (r : ControlReply) → ((config : ZoneConfig) → calls_in m config zone bank c r ≡ []) → calls_where zone_config m zone bank c r ≡ []
no-calls None m zone bank c r none = refl
no-calls (Some config) m zone bank c r none = none config

-- in a zone in effect
calls-there : (zone_config : Option ZoneConfig) (m : Machine) (zone bank : ℕ) (c : ControlCall) (r : ControlReply) (config : ZoneConfig) → zone_config ≡ Some config → calls_where zone_config m zone bank c r ≡ calls_in m config zone bank c r
calls-there zone_config m zone bank c r config there = ap (λ (o : Option ZoneConfig). calls_where o m zone bank c r) there

-- ---- each call

-- a call that makes none of the owner's leaves every bank as it was
stays : (m : Machine) (c : ControlCall) (r : ControlReply) (zone bank : ℕ) (old new : Known) → ((config : ZoneConfig) → calls_in m config zone bank c r ≡ []) → IsQuiet m zone bank old → IsLeft (slice_get (zones_of m) zone) [] bank old (owner_calls m c r zone bank) new → new ≡ old
stays m c r zone bank old new none quiet left =
    left-same (slice_get (zones_of m) zone) bank old new (owner_calls m c r zone bank) quiet.rest (no-calls (slice_get (zones_of m) zone) m zone bank c r none) left

-- the banks behind a Create
created : (shelf : List OnShelf) (m : Machine) (caller : ℕ) (config : VmConfig) (zone bank : ℕ) (old new : Known) → reply.Done ≡ reply_to shelf m (call.Create config) → IsQuiet m zone bank old → new ≡ old → IsQuiet (after m caller (call.Create config) reply.Done) zone bank new
created shelf m caller config zone bank old new done quiet same =
    let left : Machine = after m caller (call.Create config) reply.Done in
    let nowhere : slice_get (zones_of m) zone ≡ None = ap (λ (o : Option Checked). slice_get (zones_in o) zone) (uncreated shelf m config done) in
    of-so left zone bank new (subst (IsQuietSo false false (slice_get (zones_of left) zone) bank) (sym same)
    (quiet-nowhere (is_paused m.life) (is_booted m.life) (slice_get (zones_of m) zone) (slice_get (zones_of left) zone) bank old nowhere (so-of m zone bank old quiet)))

-- the banks behind a Boot
booted : (shelf : List OnShelf) (m : Machine) (caller : ℕ) (zone bank : ℕ) (old new : Known) → reply.Done ≡ reply_to shelf m call.Boot → IsQuiet m zone bank old
    → IsLeft (slice_get (zones_of m) zone) [] bank old (owner_calls m call.Boot reply.Done zone bank) new → IsQuiet (after m caller call.Boot reply.Done) zone bank new
booted shelf m caller zone bank old new done quiet left =
    let here : Option ZoneConfig = slice_get (zones_of m) zone in
    let so : (config : ZoneConfig) → here ≡ Some config → owner_calls m call.Boot reply.Done zone bank ≡ shape_calls config = λ config there. calls-there here m zone bank call.Boot reply.Done config there in
    of-so (after m caller call.Boot reply.Done) zone bank new
    (quiet-booted (is_paused m.life) (is_booted m.life) here bank old new (owner_calls m call.Boot reply.Done zone bank) (unpaused shelf m done) so (so-of m zone bank old quiet) left)

-- what a shutdown or a delete leaves, which makes the calls of a wipe
wiped : (m n : Machine) (zone bank : ℕ) (old new : Known) (calls : List BankCall) → is_paused n.life ≡ false → is_booted n.life ≡ false → ((config : ZoneConfig) → slice_get (zones_of m) zone ≡ Some config → calls ≡ wipe_calls (is_paused m.life))
    → IsQuiet m zone bank old → IsLeft (slice_get (zones_of m) zone) [] bank old calls new → IsQuiet n zone bank new
wiped m n zone bank old new calls unpaused unbooted so quiet left =
    let there : Option ZoneConfig = slice_get (zones_of n) zone in
    let so_quiet : IsQuietSo false false there bank new = quiet-wiped (is_paused m.life) (is_booted m.life) (slice_get (zones_of m) zone) there bank old new calls so (so-of m zone bank old quiet) left in
    let first : IsQuietSo (is_paused n.life) false there bank new = subst (λ (b : Bool). IsQuietSo b false there bank new) (sym unpaused) so_quiet in
    of-so n zone bank new (subst (λ (b : Bool). IsQuietSo (is_paused n.life) b there bank new) (sym unbooted) first)

-- what a control call leaves in a bank
pub quiet-after : (shelf : List OnShelf) (m : Machine) (caller : ℕ) (c : ControlCall) (r : ControlReply) (zone bank : ℕ) (old new : Known) → r ≡ reply_to shelf m c → IsQuiet m zone bank old
    → IsLeft (slice_get (zones_of m) zone) [] bank old (owner_calls m c r zone bank) new → IsQuiet (after m caller c r) zone bank new
quiet-after shelf m caller (call.Create config) reply.Done zone bank old new e quiet left =
    created shelf m caller config zone bank old new e quiet (stays m (call.Create config) reply.Done zone bank old new (λ x. refl) quiet left)
quiet-after shelf m caller call.Boot reply.Done zone bank old new e quiet left = booted shelf m caller zone bank old new e quiet left
quiet-after shelf m caller (call.Begin Shutdown) reply.Done zone bank old new e quiet left =
    wiped m (after m caller (call.Begin Shutdown) reply.Done) zone bank old new (owner_calls m (call.Begin Shutdown) reply.Done zone bank) refl refl (λ config there. calls-there _ m zone bank (call.Begin Shutdown) reply.Done config there) quiet left
quiet-after shelf m caller (call.Begin Delete) reply.Done zone bank old new e quiet left =
    wiped m (after m caller (call.Begin Delete) reply.Done) zone bank old new (owner_calls m (call.Begin Delete) reply.Done zone bank) refl refl (λ config there. calls-there _ m zone bank (call.Begin Delete) reply.Done config there) quiet left
quiet-after shelf m caller (call.AddDisk disk) reply.Done zone bank old new e quiet left =
    let some : not (is_some m.config) ≡ false = (none-broken (rules_of shelf m (call.AddDisk disk)) (none-from_done (refusal_of shelf m (call.AddDisk disk)) e)).0 in
    quiet-same m (after m caller (call.AddDisk disk) reply.Done) zone bank old new refl (zones-with m.config (checked_of default_config) disk some) (stays m (call.AddDisk disk) reply.Done zone bank old new (λ x. refl) quiet left) quiet
quiet-after shelf m caller (call.Remove id) reply.Done zone bank old new e quiet left =
    let some : not (is_some m.config) ≡ false = (none-broken (rules_of shelf m (call.Remove id)) (none-from_done (refusal_of shelf m (call.Remove id)) e)).0 in
    quiet-same m (after m caller (call.Remove id) reply.Done) zone bank old new refl (zones-without m.config (checked_of default_config) id some) (stays m (call.Remove id) reply.Done zone bank old new (λ x. refl) quiet left) quiet
quiet-after shelf m caller call.Bye reply.Done zone bank old new e quiet left =
    quiet-same m (after m caller call.Bye reply.Done) zone bank old new refl refl (stays m call.Bye reply.Done zone bank old new (λ x. refl) quiet left) quiet
quiet-after shelf m caller call.Stop reply.Done zone bank old new e quiet left =
    quiet-same m (after m caller call.Stop reply.Done) zone bank old new refl refl (stays m call.Stop reply.Done zone bank old new (λ x. refl) quiet left) quiet
quiet-after shelf m caller c r zone bank old new e quiet left =
    quiet-same m m zone bank old new refl refl (stays m c r zone bank old new (λ x. refl) quiet left) quiet
