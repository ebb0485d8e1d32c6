-- Laws of the address map: accesses by their single bytes, and where boot blocks and hotplug regions lie.
use Rattle.std.specs.Prelude.{◌≡◌, ◌↔◌, ℕ, ◌+◌, ◌*◌, ◌%◌, ◌^◌, ◌≤◌, ◌<◌, nat_lt, if◌then◌else◌, List, take, slice_get, sum_by, Some}
use Rattle.chv_defs_api.specs.declared.config.ZoneConfig.{ZoneConfig}
use Rattle.chv_defs_base.specs.Sizes.{block_bytes, blocks_in}
use Rattle.chv_addr.specs.declared.region.Region.{Region}
use Rattle.chv_addr.specs.declared.place.Place.TheVariants.{Ram, Bar, Hole}
use Rattle.chv_addr.specs.AddressMap.{AddressMap, map_of, place_of}

-- ---- bytes

-- The place of bytes by those of its single bytes: they lie in a block of RAM, or in a window, from an offset on exactly where
-- each single byte lies there at its own offset, and in a hole exactly where each does. There is one further place, Crosses.
pub record IsPlacedByBytes (map : AddressMap) (addr len : ℕ) : Type 0 where
  pub ram : (zone block offset : ℕ) → (place_of map addr len ≡ Ram zone block offset) ↔ ((i : ℕ) → i < len → place_of map (addr + i) 1 ≡ Ram zone block (offset + i))
  pub bar : (slot offset : ℕ) → (place_of map addr len ≡ Bar slot offset) ↔ ((i : ℕ) → i < len → place_of map (addr + i) 1 ≡ Bar slot (offset + i))
  pub hole : (place_of map addr len ≡ Hole) ↔ ((i : ℕ) → i < len → place_of map (addr + i) 1 ≡ Hole)

-- In a map the place of any bytes, at least one and none past the address space's end, is decided by its single bytes.
abbrev pub BytesLieTogether : AddressMap → Type 0
BytesLieTogether map = (addr len : ℕ) → 0 < len → addr + len ≤ 2 ^ 64 → IsPlacedByBytes map addr len

-- ---- boot blocks

-- how many boot blocks zones have
abbrev pub boot_blocks : List ZoneConfig → ℕ
boot_blocks zones = sum_by (λ config. blocks_in config.size) zones

-- where a boot block begins, by its number among those of all zones: each 2 MiB behind the one before it, from address 0 on,
-- and those that would lie at 3 GiB or above (number 1536 and on) 1 GiB higher
abbrev pub boot_block_start : ℕ → ℕ
boot_block_start number = if nat_lt number 1536 then number * block_bytes else number * block_bytes + 2 ^ 30

-- The boot blocks of all zones, zone by zone, lie there one behind the other: each whole block is RAM, the block of its own
-- number of its zone, from its first byte on.
abbrev pub BootBlocksLieInOrder : List ZoneConfig → Type 0
BootBlocksLieInOrder zones = (zone : ℕ) (config : ZoneConfig) (block : ℕ) → slice_get zones zone ≡ Some config → block < blocks_in config.size
    → place_of (map_of zones) (boot_block_start (boot_blocks (take zone zones) + block)) block_bytes ≡ Ram zone block 0

-- ---- hotplug regions

-- A hotplug region may begin at these addresses: multiples of 128 MiB from 4 GiB on, at or above the end of every boot block
-- and of the regions of the zones before.
pub record MayBegin (zones : List ZoneConfig) (zone addr : ℕ) : Type 0 where
  pub multiple : addr % 0x8000000 ≡ 0
  pub high : 2 ^ 32 ≤ addr
  pub boot : (number : ℕ) → number < boot_blocks zones → boot_block_start number + block_bytes ≤ addr
  pub regions : (before : ℕ) (region : Region) → before < zone → slice_get (map_of zones).regions before ≡ Some region → region.addr + region.size ≤ addr

-- The region of a zone: as large as what the zone may grow by, and it begins at the least address at which it may.
pub record IsRegionOf (zones : List ZoneConfig) (zone : ℕ) (config : ZoneConfig) (region : Region) : Type 0 where
  pub size : region.size ≡ config.hotplug
  pub begins : MayBegin zones zone region.addr
  pub least : (addr : ℕ) → MayBegin zones zone addr → region.addr ≤ addr

-- Each region of the map is that of its zone.
abbrev pub RegionsLieInOrder : List ZoneConfig → Type 0
RegionsLieInOrder zones = (zone : ℕ) (config : ZoneConfig) (region : Region) → slice_get zones zone ≡ Some config → slice_get (map_of zones).regions zone ≡ Some region → IsRegionOf zones zone config region

-- ---- hotplug blocks

-- A zone's blocks behind its boot blocks lie one behind the other in its region, from its first byte on.
abbrev pub PlugBlocksLieInRegions : List ZoneConfig → Type 0
PlugBlocksLieInRegions zones = (zone : ℕ) (config : ZoneConfig) (region : Region) (number : ℕ) → slice_get zones zone ≡ Some config → slice_get (map_of zones).regions zone ≡ Some region → number < blocks_in config.hotplug
    → place_of (map_of zones) (region.addr + number * block_bytes) block_bytes ≡ Ram zone (blocks_in config.size + number) 0
