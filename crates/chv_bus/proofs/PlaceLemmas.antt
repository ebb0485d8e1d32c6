-- What lies in RAM, by the map of zones within the limits, lies in a block that a zone can have; and what lies in a window lies in
-- that of one of the slots.
use Rattle.std.proofs.Common.{◌≡◌, ℕ, zero, suc, ◌+◌, ◌-◌, ◌*◌, ◌/◌, ◌%◌, ◌<◌, ◌≤◌, ◌^◌, Bool, true, false, List, [], ◌∷◌, Option, None, Some, length, refl, arith}
use Rattle.std.specs.Prelude.{◌==◌, ◌||◌, ◌&&◌, nat_le, nat_lt, All}
use Rattle.std.specs.List.{list_all, range_with_len}
use Rattle.std.proofs.lemmas.Bool.{and_parts}
use Rattle.std.proofs.lemmas.Bool.Decides.{nat_tests}
use Rattle.std.proofs.lemmas.List.Elements.{All-cons, All-tail, All-append}
use Rattle.chv_defs_api.specs.declared.config.ZoneConfig.{ZoneConfig}
use Rattle.chv_defs_base.specs.Sizes.{block_bytes, blocks_in}
use Rattle.chv_defs_memory.specs.BankState.{most_blocks}
use Rattle.chv_defs_memory.specs.Zones.{most_zones}
use Rattle.chv_addr.specs.declared.place.Place.{Place}
use Rattle.chv_addr.specs.declared.place.Place.TheVariants as place
use Rattle.chv_addr.specs.declared.run.Run.{Run}
use Rattle.chv_defs_api.specs.Registers.{LiesInWindow, window_bytes, window_start}
use Rattle.chv_addr.specs.AddressMap.{bar_place, bare_place, below_hole, boot_end, boot_runs, holds, is_within_limits, map_of, no_ram, no_window, past_hole, place_by, place_of, plug_runs, ram_place, region_start, run_at, run_bytes, slot_at, slots, with_run}
use Rattle.chv_addr.proofs.RunSearch.{find-in, find-passes}
use Rattle.chv_addr.proofs.Zones.{AreSmall, small-zones}

-- blocks that a zone can have, of a zone that there can be
abbrev pub IsOfZone : Run → Type 0
IsOfZone run = (run.zone < most_zones) × (run.first + run.count ≤ most_blocks)

with_run-all : (run : Run) (rest : List Run) → IsOfZone run → All IsOfZone rest → All IsOfZone (with_run run rest)
with_run-all run rest here further = by (run.count == 0) refl
  where
    by : (b : Bool) → (run.count == 0) ≡ b → All IsOfZone (with_run run rest)
    by true e = rw e further
    by false e = rw e (All-cons IsOfZone run rest here further)

small-head : (config : ZoneConfig) (configs : List ZoneConfig) → AreSmall (config ∷ configs) → config.size + config.hotplug ≤ 64 * 2 ^ 30
small-head config configs small = small 0 config (omega arith)

boot-of_zone : (zone before : ℕ) (configs : List ZoneConfig) → zone + length configs ≤ most_zones → AreSmall configs → All IsOfZone (boot_runs zone before configs)
boot-of_zone zone before [] few small = λ k d h. absurd (omega arith)
boot-of_zone zone before (config ∷ configs) few small =
    let count : ℕ = blocks_in config.size in
    let low : ℕ = below_hole before count in
    let limit : config.size + config.hotplug ≤ 64 * 2 ^ 30 = small-head config configs small in
    let most : count ≤ most_blocks = omega arith in
    let less : low ≤ count = omega arith in
    let first : IsOfZone (record { zone = zone; first = 0; count = low; addr = before * block_bytes }) = (omega arith, omega arith) in
    let second : IsOfZone (record { zone = zone; first = low; count = count - low; addr = past_hole ((before + low) * block_bytes) }) = (omega arith, omega arith) in
    let further = boot-of_zone (zone + 1) (before + count) configs (omega arith) (All-tail (λ config. config.size + config.hotplug ≤ 64 * 2 ^ 30) config configs small) in
    with_run-all (record { zone = zone; first = 0; count = low; addr = before * block_bytes })
    (with_run (record { zone = zone; first = low; count = count - low; addr = past_hole ((before + low) * block_bytes) }) (boot_runs (zone + 1) (before + count) configs)) first
    (with_run-all (record { zone = zone; first = low; count = count - low; addr = past_hole ((before + low) * block_bytes) }) (boot_runs (zone + 1) (before + count) configs) second further)

plug-of_zone : (zone before : ℕ) (configs : List ZoneConfig) → zone + length configs ≤ most_zones → AreSmall configs → All IsOfZone (plug_runs zone before configs)
plug-of_zone zone before [] few small = λ k d h. absurd (omega arith)
plug-of_zone zone before (config ∷ configs) few small =
    let addr : ℕ = region_start before in
    let limit : config.size + config.hotplug ≤ 64 * 2 ^ 30 = small-head config configs small in
    let most : blocks_in config.size + blocks_in config.hotplug ≤ most_blocks = omega arith in
    let further = plug-of_zone (zone + 1) (addr + config.hotplug) configs (omega arith) (All-tail (λ config. config.size + config.hotplug ≤ 64 * 2 ^ 30) config configs small) in
    with_run-all (record { zone = zone; first = blocks_in config.size; count = blocks_in config.hotplug; addr = addr }) (plug_runs (zone + 1) (addr + config.hotplug) configs) (omega arith, most) further

map-of_zone : (zones : List ZoneConfig) → is_within_limits zones ≡ true → All IsOfZone (map_of zones).runs
map-of_zone zones within =
    let limit : nat_le (length zones) 8 ≡ true = (and_parts (nat_le (length zones) 8) (list_all (λ config. nat_le (config.size + config.hotplug) (64 * 2 ^ 30)) zones) within).0 in
    let few : 0 + length zones ≤ most_zones = grind (arith, nat_tests) in
    let small : AreSmall zones = small-zones zones within in
    All-append IsOfZone (boot_runs 0 0 zones) (plug_runs 0 (boot_end zones) zones) (boot-of_zone 0 0 zones few small) (plug-of_zone 0 (boot_end zones) zones few small)

-- in RAM, so many bytes at least one lie whole in a block that a zone can have; in a window, all of them from the address on
abbrev pub IsInLimits : ℕ → ℕ → Place → Type 0
IsInLimits addr len (place.Ram zone block offset) = (zone < most_zones) × (block < most_blocks) × (1 ≤ len) × (offset + len ≤ block_bytes)
IsInLimits addr len (place.Bar slot offset) = LiesInWindow addr len
IsInLimits addr len _ = Unit {0}

ram-in_limits : (run : Run) (addr len : ℕ) → 1 ≤ len → IsOfZone run → holds run.addr (run_bytes run) addr ≡ true → IsInLimits addr len (ram_place run addr len)
ram-in_limits run addr len some known held = by (nat_le ((addr - run.addr) % block_bytes + len) block_bytes) refl
  where
    by : (b : Bool) → nat_le ((addr - run.addr) % block_bytes + len) block_bytes ≡ b → IsInLimits addr len (ram_place run addr len)
    by false e = rw e tt
    by true e =
        let inside : addr < run.addr + run_bytes run = grind (arith, nat_tests) in
        let fits : (addr - run.addr) % block_bytes + len ≤ block_bytes = grind (arith, nat_tests) in
        let least : run.addr ≤ addr = grind (arith, nat_tests) in
        let block : run.first + (addr - run.addr) / block_bytes < most_blocks = omega (arith, known.1) in
        rw e (known.0, block, some, fits)

-- a slot from 1 to 31
abbrev IsSlot : ℕ → Type 0
IsSlot slot = (1 ≤ slot) × (slot ≤ 31)

are-slots : (k n : ℕ) → 1 ≤ k → k + n ≤ 32 → All IsSlot (range_with_len k n)
are-slots k zero least most = λ i d h. absurd (omega arith)
are-slots k (suc n) least most = All-cons IsSlot k (range_with_len (k + 1) n) (least, omega arith) (are-slots (k + 1) n (omega arith) (omega arith))

all-slots : All IsSlot slots
unfolding slots
all-slots = are-slots 1 31 (omega arith) (omega arith)

bar-in_limits : (slot addr len : ℕ) → IsSlot slot → holds (window_start slot) window_bytes addr ≡ true → IsInLimits addr len (bar_place slot addr len)
bar-in_limits slot addr len known held = by (nat_le (addr - window_start slot + len) window_bytes) refl
  where
    by : (b : Bool) → nat_le (addr - window_start slot + len) window_bytes ≡ b → IsInLimits addr len (bar_place slot addr len)
    by false e = rw e tt
    by true e =
        let least : window_start slot ≤ addr = grind (arith, nat_tests) in
        let fits : addr - window_start slot + len ≤ window_bytes = grind (arith, nat_tests) in
        let to : addr + len ≤ window_start slot + window_bytes = omega arith in
        rw e (record { slot = slot; least = known.0; most = known.1; from = least; to = to })

bare-in_limits : (runs : List Run) (addr len : ℕ) → IsInLimits addr len (bare_place runs addr len)
bare-in_limits runs addr len = by (no_ram runs addr (addr + len) && no_window addr (addr + len)) refl
  where
    by : (b : Bool) → (no_ram runs addr (addr + len) && no_window addr (addr + len)) ≡ b → IsInLimits addr len (bare_place runs addr len)
    by false e = rw e tt
    by true e = rw e tt

by-in_limits : (runs : List Run) (addr len : ℕ) → 1 ≤ len → All IsOfZone runs → (run : Option Run) → run_at runs addr ≡ run → (slot : Option ℕ) → slot_at addr ≡ slot → IsInLimits addr len (place_by run slot runs addr len)
by-in_limits runs addr len some known (Some run) e slot f =
    ram-in_limits run addr len some (find-in IsOfZone (λ run. holds run.addr (run_bytes run) addr) runs run known e) (find-passes (λ run. holds run.addr (run_bytes run) addr) runs run e)
by-in_limits runs addr len some known None e (Some slot) f =
    bar-in_limits slot addr len (find-in IsSlot (λ slot. holds (window_start slot) window_bytes addr) slots slot all-slots f) (find-passes (λ slot. holds (window_start slot) window_bytes addr) slots slot f)
by-in_limits runs addr len some known None e None f = bare-in_limits runs addr len

-- the place of bytes by the map of zones
pub place-in_limits : (zones : List ZoneConfig) (addr len : ℕ) → is_within_limits zones ≡ true → IsInLimits addr len (place_of (map_of zones) addr len)
place-in_limits zones addr len within = by (len == 0 || nat_lt (2 ^ 64) (addr + len)) refl
  where
    by : (b : Bool) → (len == 0 || nat_lt (2 ^ 64) (addr + len)) ≡ b → IsInLimits addr len (place_of (map_of zones) addr len)
    by true e = rw e tt
    by false e =
        let some : 1 ≤ len = grind (arith, nat_tests) in
        rw e (by-in_limits (map_of zones).runs addr len some (map-of_zone zones within) (run_at (map_of zones).runs addr) refl (slot_at addr) refl)
