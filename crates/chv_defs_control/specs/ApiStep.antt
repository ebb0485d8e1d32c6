-- The calls of the API on a machine that is not booted, or that runs and has no device: by which rule a call is refused, what
-- it is answered, and what it leaves. The calls are those of the Cloud Hypervisor REST API v1; the rules and their order are
-- this project's own. Not built yet are the boot of a machine with a device (a disk, or a zone that grows), a restore, and the
-- pause of a machine that runs, its resizing and the adding of a disk to it: where none of their rules holds, they are refused
-- as NotBuilt. No machine can be paused so far, so that what a pause, a resume and a snapshot that are done leave is not written
-- yet: the catch-all lines of `success_of` and `after` say nothing true of them.
use Rattle.std.specs.Prelude.{ℕ, ◌+◌, ◌==◌, ◌&&◌, ◌||◌, Bool, true, false, not, nat_le, nat_lt, List, [], ◌∷◌, ◌++◌, length, map, filter, find, Option, Some, None, is_some, unwrap_or, if◌then◌else◌}
use Rattle.std.specs.Str.{bytes_eq}
use Rattle.chv_defs_control.specs.declared.machine.Machine.{Machine}
use Rattle.chv_defs_control.specs.declared.machine.Life.{Life}
use Rattle.chv_defs_control.specs.declared.machine.Life.TheVariants as life
use Rattle.chv_defs_api.specs.declared.config.Checked.{Checked}
use Rattle.chv_defs_api.specs.declared.config.DiskConfig.{DiskConfig}
use Rattle.chv_defs_api.specs.declared.config.ZoneConfig.{ZoneConfig}
use Rattle.chv_defs_api.specs.declared.shelf.OnShelf.{OnShelf}
use Rattle.chv_defs_base.specs.declared.rule.Rule.{Rule}
use Rattle.chv_defs_base.specs.declared.rule.Rule.TheVariants.{NotCreated, AlreadyCreated, Held, NotBooted, AlreadyBooted, NotRunning, NotPaused, VcpuCount, ByZone, ZoneUnknown, RamRange, DeviceUnknown, DeviceFixed, SlotsFull, NotBuilt}
use Rattle.chv_defs_api.specs.declared.control.Goal.TheVariants.{Pause, Shutdown, Delete}
use Rattle.chv_defs_api.specs.declared.control.ControlCall.{ControlCall}
use Rattle.chv_defs_api.specs.declared.control.ControlCall.TheVariants as call
use Rattle.chv_defs_api.specs.declared.control.ControlReply.{ControlReply}
use Rattle.chv_defs_api.specs.declared.control.ControlReply.TheVariants as reply
use Rattle.chv_defs_control.specs.Shown.{shown}
use Rattle.chv_defs_api.specs.ConfigRules.{checked_of, config_rules, device_ids, first_broken, further_disk_rules, grows, has_text, has_zones, is_unaligned, memory_device_ids, own_zone, with_disk, with_id}
use Rattle.chv_defs_api.specs.DefaultConfig.{default_config}

-- ---- conditions

-- the names of the disks that stand by
abbrev pub names_of : List OnShelf → List (List ℕ)
names_of shelf = map (λ (disk : OnShelf). disk.name) shelf

-- there is no configuration
abbrev pub is_uncreated : Machine → Bool
is_uncreated m = not (is_some m.config)

-- a pause, a shutdown or a delete is under way
abbrev pub is_on_hold : Life → Bool
is_on_hold (life.Hold holder goal) = true
is_on_hold _ = false

-- the machine was created or shut down: it is there, and not booted
abbrev pub is_created_or_shut_down : Life → Bool
is_created_or_shut_down life.Created = true
is_created_or_shut_down life.Shutdown = true
is_created_or_shut_down _ = false

-- the machine runs, or is paused
abbrev pub is_running_or_paused : Life → Bool
is_running_or_paused life.Running = true
is_running_or_paused life.Paused = true
is_running_or_paused _ = false

-- the machine runs
abbrev pub is_running : Life → Bool
is_running life.Running = true
is_running _ = false

-- the machine is paused
abbrev pub is_paused : Life → Bool
is_paused life.Paused = true
is_paused _ = false

-- the machine is booted: it runs, waits for a pause, a shutdown or a delete, or is paused
abbrev pub is_booted : Life → Bool
is_booted life.Running = true
is_booted (life.Hold holder goal) = true
is_booted life.Paused = true
is_booted _ = false

-- The configuration. (It is asked of no state that has none.)
abbrev pub now_of : Machine → Checked
now_of m = unwrap_or m.config (checked_of default_config)

-- how many devices a configuration has: one for each zone in effect that grows, and its disks
abbrev pub device_count : Checked → ℕ
device_count now = length (filter grows now.zones) + length now.config.disks

-- a configuration has a device
abbrev pub has_devices : Checked → Bool
has_devices now = nat_lt 0 (device_count now)

-- all 31 slots for devices would be used at boot
abbrev pub has_full_slots : Checked → Bool
has_full_slots now = nat_le 31 (device_count now)

-- whether a number is given, and passes a test
abbrev pub is_given_and : Option ℕ → (ℕ → Bool) → Bool
is_given_and None test = false
is_given_and (Some n) test = test n

-- there cannot be so many vCPUs: none, or more than the configuration has at most
abbrev pub is_bad_vcpu_count : Checked → ℕ → Bool
is_bad_vcpu_count now count = count == 0 || nat_lt now.config.cpus.max count

-- a zone cannot have so many bytes: fewer than its boot memory, more than it can grow to, or no whole number of blocks
abbrev pub is_out_of_range : ZoneConfig → ℕ → Bool
is_out_of_range zone ram = nat_lt ram zone.size || nat_lt (zone.size + zone.hotplug) ram || is_unaligned ram

-- the configured zone of this id
abbrev pub zone_named : Checked → List ℕ → Option ZoneConfig
zone_named now id = find (λ (zone : ZoneConfig). bytes_eq zone.id id) now.config.memory.zones

-- there is such a zone, and it cannot have so many bytes
abbrev pub is_zone_out_of_range : Option ZoneConfig → ℕ → Bool
is_zone_out_of_range None ram = false
is_zone_out_of_range (Some zone) ram = is_out_of_range zone ram

-- ---- the rules of each call

-- The rules of a call in their order, each beside its condition, where these disks stand by.
abbrev pub rules_of : List OnShelf → Machine → ControlCall → List (Bool × Rule)
rules_of shelf m call.Info =
    (is_uncreated m, NotCreated)
    ∷ []
rules_of shelf m call.Counters =
    (is_uncreated m, NotCreated)
    ∷ (is_created_or_shut_down m.life, NotBooted)
    ∷ []
rules_of shelf m (call.Create config) =
    (is_some m.config, AlreadyCreated)
    ∷ config_rules (names_of shelf) config
rules_of shelf m call.Boot =
    (is_uncreated m, NotCreated)
    ∷ (is_on_hold m.life, Held)
    ∷ (is_running_or_paused m.life, AlreadyBooted)
    ∷ (has_devices (now_of m), NotBuilt)
    ∷ []
rules_of shelf m (call.Begin Pause) =
    (is_uncreated m, NotCreated)
    ∷ (is_on_hold m.life, Held)
    ∷ (not (is_running m.life), NotRunning)
    ∷ (true, NotBuilt)
    ∷ []
rules_of shelf m (call.Begin Shutdown) =
    (is_uncreated m, NotCreated)
    ∷ (is_on_hold m.life, Held)
    ∷ (is_created_or_shut_down m.life, NotBooted)
    ∷ []
rules_of shelf m (call.Begin Delete) =
    (is_uncreated m, NotCreated)
    ∷ (is_on_hold m.life, Held)
    ∷ []
rules_of shelf m call.Resume =
    (is_uncreated m, NotCreated)
    ∷ (is_on_hold m.life, Held)
    ∷ (not (is_paused m.life), NotPaused)
    ∷ []
-- (No vCPU's removal can be asked for yet, so that RemovalPending is not asked.)
rules_of shelf m (call.Resize vcpus ram) =
    (is_uncreated m, NotCreated)
    ∷ (is_created_or_shut_down m.life, NotBooted)
    ∷ (is_given_and vcpus (is_bad_vcpu_count (now_of m)), VcpuCount)
    ∷ (is_some ram && has_zones (now_of m).config.memory, ByZone)
    ∷ (is_given_and ram (is_out_of_range (own_zone (now_of m).config.memory)), RamRange)
    ∷ (true, NotBuilt)
    ∷ []
rules_of shelf m (call.ResizeZone zone ram) =
    (is_uncreated m, NotCreated)
    ∷ (is_created_or_shut_down m.life, NotBooted)
    ∷ (not (is_some (zone_named (now_of m) zone)), ZoneUnknown)
    ∷ (is_zone_out_of_range (zone_named (now_of m) zone) ram, RamRange)
    ∷ (true, NotBuilt)
    ∷ []
rules_of shelf m (call.AddDisk disk) =
    (is_uncreated m, NotCreated)
    ∷ (further_disk_rules (names_of shelf) (now_of m) disk
    ++ (has_full_slots (now_of m), SlotsFull)
    ∷ (is_booted m.life, NotBuilt)
    ∷ [])
-- (No device of a machine that runs can be leaving, as it has none, so that DeviceLeaving is not asked.)
rules_of shelf m (call.Remove id) =
    (is_uncreated m, NotCreated)
    ∷ (not (has_text (device_ids (now_of m)) id), DeviceUnknown)
    ∷ (has_text (memory_device_ids (now_of m).zones) id, DeviceFixed)
    ∷ []
-- (the vault is asked where a machine is paused)
rules_of shelf m (call.Snapshot name) =
    (is_uncreated m, NotCreated)
    ∷ (is_on_hold m.life, Held)
    ∷ (not (is_paused m.life), NotPaused)
    ∷ []
rules_of shelf m (call.Restore name) =
    (is_some m.config, AlreadyCreated)
    ∷ (true, NotBuilt)
    ∷ []
-- (Ping, Bye and Stop are never refused; `MayCall` of `ControlStep` lets no other call be made so far.)
rules_of shelf m _ = []

-- the rule by which a call is refused: the first whose condition holds
abbrev pub refusal_of : List OnShelf → Machine → ControlCall → Option Rule
refusal_of shelf m c = first_broken (rules_of shelf m c)

-- ---- answers

-- The answer to a call that no rule refuses. (No disk is placed so far, so that none is counted.)
abbrev pub success_of : Machine → ControlCall → ControlReply
success_of m call.Info = reply.Shown (shown m)
success_of m call.Counters = reply.Counted []
success_of m _ = reply.Done

-- a refusal by rule, or else the success
abbrev pub refused_or : Option Rule → ControlReply → ControlReply
refused_or (Some rule) success = reply.Ruled rule
refused_or None success = success

-- the answer to a call
abbrev pub reply_to : List OnShelf → Machine → ControlCall → ControlReply
reply_to shelf m c = refused_or (refusal_of shelf m c) (success_of m c)

-- ---- what calls leave

-- ascending numbers, with one that is there from now on
abbrev pub with_number : ℕ → List ℕ → List ℕ
with_number n [] = n ∷ []
with_number n (m ∷ ms) = if nat_lt n m then n ∷ m ∷ ms else (if n == m then m ∷ ms else m ∷ with_number n ms)

-- whether a disk has this id; every disk of a configuration that is kept has one
abbrev pub has_id : List ℕ → DiskConfig → Bool
has_id id disk = bytes_eq (unwrap_or disk.id []) id

-- a configuration without the disk of this id, the disks behind it moving up
abbrev pub without_disk : Checked → List ℕ → Checked
without_disk now id = record now { config = record now.config { disks = filter (λ disk. not (has_id id disk)) now.config.disks } }

-- a configuration with a further disk behind the others, its id set
abbrev pub with_new_disk : Checked → DiskConfig → Checked
with_new_disk now disk = with_disk now (with_id (device_ids now) disk)

-- What a call leaves, with its answer. A call that is refused leaves the state as it was, and so does one that only asks.
abbrev pub after : Machine → ℕ → ControlCall → ControlReply → Machine
after m caller (call.Create config) reply.Done = record m { life = life.Created; config = Some (checked_of config) }
after m caller call.Boot reply.Done = record m { life = life.Running }
after m caller (call.Begin Shutdown) reply.Done = record m { life = life.Shutdown }
after m caller (call.Begin Delete) reply.Done = record m { life = life.None; config = None }
after m caller (call.AddDisk disk) reply.Done = record m { config = Some (with_new_disk (now_of m) disk) }
after m caller (call.Remove id) reply.Done = record m { config = Some (without_disk (now_of m) id) }
after m caller call.Bye reply.Done = record m { ended = with_number caller m.ended }
after m caller call.Stop reply.Done = record m { stopped = true }
after m caller _ _ = m
