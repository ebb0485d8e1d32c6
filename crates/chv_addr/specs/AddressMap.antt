-- The guest's addresses: which blocks of which zone lie where, where the devices' windows lie, and in what a stretch of
-- bytes lies. The layout is this project's own.
use Rattle.std.specs.Prelude.{ℕ, ◌+◌, ◌-◌, ◌*◌, ◌/◌, ◌%◌, ◌^◌, ◌≤◌, ◌<◌, ◌==◌, ◌&&◌, ◌||◌, Bool, nat_lt, nat_le, if◌then◌else◌, List, [], ◌∷◌, ◌++◌, length, find, count_by, sum_by, Option, None, Some, All, min, max}
use Rattle.std.specs.List.{list_all, range_with_len}
use Rattle.chv_defs_api.specs.declared.config.ZoneConfig.{ZoneConfig}
use Rattle.chv_addr.specs.declared.region.Region.{Region}
use Rattle.chv_addr.specs.declared.place.Place.{Place}
use Rattle.chv_addr.specs.declared.place.Place.TheVariants.{Ram, Bar, Hole, Crosses}
use Rattle.chv_addr.specs.declared.run.Run.{Run}
use Rattle.chv_defs_base.specs.Sizes.{block_bytes, blocks_in}
use Rattle.chv_defs_api.specs.Registers.{window_bytes, window_start}

-- ---- the layout

-- where boot memory stops, at 3 GiB
abbrev pub hole_start : ℕ
hole_start = 0xc0000000

-- where it goes on, at 4 GiB
abbrev pub hole_end : ℕ
hole_end = 0x100000000

-- the address of boot memory that would lie at this one if nothing were left out: what would lie at or above the hole's
-- start goes on at its end
abbrev pub past_hole : ℕ → ℕ
past_hole addr = if nat_lt addr hole_start then addr else addr + (hole_end - hole_start)

-- how many of a zone's boot blocks lie below the hole, where so many blocks lie before it
abbrev pub below_hole : ℕ → ℕ → ℕ
below_hole before count = min count (blocks_in hole_start - before)

-- a run put before others, if it has a block
abbrev pub with_run : Run → List Run → List Run
with_run run runs = if run.count == 0 then runs else run ∷ runs

-- the boot memory of zones from a number on, behind so many boot blocks of the zones before them: of each zone the blocks
-- below the hole, then the others
abbrev pub boot_runs : ℕ → ℕ → List ZoneConfig → List Run
boot_runs zone before [] = []
boot_runs zone before (config ∷ configs) =
    let count = blocks_in config.size in
    let low = below_hole before count in
    with_run (record { zone = zone; first = 0; count = low; addr = before * block_bytes })
    (with_run (record { zone = zone; first = low; count = count - low; addr = past_hole ((before + low) * block_bytes) })
    (boot_runs (zone + 1) (before + count) configs))

-- where boot memory ends, or the hole's end where it reaches the hole's start
abbrev pub boot_end : List ZoneConfig → ℕ
boot_end zones = past_hole (sum_by (λ config. blocks_in config.size) zones * block_bytes)

-- where a hotplug region begins: at the next multiple of 128 MiB at or above both the hole's end and the end of all before
abbrev pub region_start : ℕ → ℕ
region_start before = (max hole_end before + 0x7ffffff) / 0x8000000 * 0x8000000

-- the hotplug regions of zones, where all before them ends at an address; a zone that does not grow has an empty one
abbrev pub regions_from : ℕ → List ZoneConfig → List Region
regions_from before [] = []
regions_from before (config ∷ configs) =
    let addr = region_start before in
    record { addr = addr; size = config.hotplug } ∷ regions_from (addr + config.hotplug) configs

-- the memory in the hotplug regions of zones from a number on: a zone's blocks there have the numbers behind its boot
-- blocks
abbrev pub plug_runs : ℕ → ℕ → List ZoneConfig → List Run
plug_runs zone before [] = []
plug_runs zone before (config ∷ configs) =
    let addr = region_start before in
    with_run (record { zone = zone; first = blocks_in config.size; count = blocks_in config.hotplug; addr = addr })
    (plug_runs (zone + 1) (addr + config.hotplug) configs)

-- an address map: the runs of RAM, ascending, and the hotplug region of each zone
pub record AddressMap : Type 0 where
  pub runs : List Run
  pub regions : List Region

-- the address map of the zones in effect
abbrev pub map_of : List ZoneConfig → AddressMap
map_of zones = record { runs = boot_runs 0 0 zones ++ plug_runs 0 (boot_end zones) zones; regions = regions_from (boot_end zones) zones }

-- at most 8 zones, each of at most 64 GiB with its hotplug memory
abbrev pub is_within_limits : List ZoneConfig → Bool
is_within_limits zones = nat_le (length zones) 8 && list_all (λ config. nat_le (config.size + config.hotplug) (64 * 2 ^ 30)) zones

-- ---- places

-- the bytes of a run
abbrev pub run_bytes : Run → ℕ
run_bytes run = run.count * block_bytes

-- the slots of devices: 1 to 31
unfoldable pub slots : List ℕ
slots = range_with_len 1 31

-- whether an interval of so many bytes from a start holds an address
abbrev pub holds : ℕ → ℕ → ℕ → Bool
holds start bytes addr = nat_le start addr && nat_lt addr (start + bytes)

-- whether an interval that is not empty has none of the bytes from an address to before an end above it
abbrev pub is_apart : ℕ → ℕ → ℕ → ℕ → Bool
is_apart start bytes addr end = nat_le end start || nat_le (start + bytes) addr

-- the run that holds an address
abbrev pub run_at : List Run → ℕ → Option Run
run_at runs addr = find (λ run. holds run.addr (run_bytes run) addr) runs

-- the slot whose window holds an address
abbrev pub slot_at : ℕ → Option ℕ
slot_at addr = find (λ slot. holds (window_start slot) window_bytes addr) slots

-- the place of bytes of which the first lies in a run: in RAM, if all lie in the block of the first one
abbrev pub ram_place : Run → ℕ → ℕ → Place
ram_place run addr len =
    let from = addr - run.addr in
    if nat_le (from % block_bytes + len) block_bytes then Ram run.zone (run.first + from / block_bytes) (from % block_bytes) else Crosses

-- the place of bytes of which the first lies in the window of a slot
abbrev pub bar_place : ℕ → ℕ → ℕ → Place
bar_place slot addr len =
    let from = addr - window_start slot in
    if nat_le (from + len) window_bytes then Bar slot from else Crosses

-- whether none of the bytes from an address to before an end lies in RAM
abbrev pub no_ram : List Run → ℕ → ℕ → Bool
no_ram runs addr end = list_all (λ run. is_apart run.addr (run_bytes run) addr end) runs

-- whether none of the bytes from an address to before an end lies in a window
abbrev pub no_window : ℕ → ℕ → Bool
no_window addr end = list_all (λ slot. is_apart (window_start slot) window_bytes addr end) slots

-- the place of bytes of which the first lies neither in RAM nor in a window
abbrev pub bare_place : List Run → ℕ → ℕ → Place
bare_place runs addr len = if no_ram runs addr (addr + len) && no_window addr (addr + len) then Hole else Crosses

-- the place of bytes by what the first one lies in
abbrev pub place_by : Option Run → Option ℕ → List Run → ℕ → ℕ → Place
place_by (Some run) slot runs addr len = ram_place run addr len
place_by None (Some slot) runs addr len = bar_place slot addr len
place_by None None runs addr len = bare_place runs addr len

-- the place of `len` bytes from an address on: one block of RAM, one window, a hole, or none of these, also where there
-- are no bytes or where they pass the address space's end
abbrev pub place_of : AddressMap → ℕ → ℕ → Place
place_of map addr len =
    if len == 0 || nat_lt (2 ^ 64) (addr + len) then Crosses
    else place_by (run_at map.runs addr) (slot_at addr) map.runs addr len

-- ---- what every address map has

-- a run lies below the hole or above it
abbrev pub is_clear : Run → Bool
is_clear run = nat_le (run.addr + run_bytes run) hole_start || nat_le hole_end run.addr

-- runs ascend from an address on: each has a block, and none begins before the one before it ends
abbrev pub AreInOrder : ℕ → List Run → Type 0
AreInOrder from [] = Unit {0}
AreInOrder from (run ∷ runs) = (from ≤ run.addr) × (0 < run.count) × AreInOrder (run.addr + run_bytes run) runs

-- whether a run has a block of a zone
abbrev pub has_block : ℕ → ℕ → Run → Bool
has_block zone block run = run.zone == zone && nat_le run.first block && nat_lt block (run.first + run.count)

-- in how many runs a block of a zone stands; in each of them it has one address
abbrev pub addresses_of : List Run → ℕ → ℕ → ℕ
addresses_of runs zone block = count_by (has_block zone block) runs

-- each run's blocks have numbers below 2^32
abbrev pub AreNumbered : List Run → Type 0
AreNumbered runs = All (λ run. run.first + run.count ≤ 2 ^ 32) runs

-- what the runs of a map are: in order from address 0 on, with numbers of blocks that a `u32` holds
pub record IsMap (runs : List Run) : Type 0 where
  pub order : AreInOrder 0 runs
  pub numbered : AreNumbered runs

-- how many runs and windows hold an address
abbrev pub holders : List Run → ℕ → ℕ
holders runs addr = count_by (λ run. holds run.addr (run_bytes run) addr) runs + count_by (λ slot. holds (window_start slot) window_bytes addr) slots

-- the blocks of a zone, boot blocks first
abbrev pub blocks_of : ZoneConfig → ℕ
blocks_of config = blocks_in config.size + blocks_in config.hotplug
