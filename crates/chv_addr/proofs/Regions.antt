-- Where hotplug regions lie, and the blocks in them.
use Rattle.std.proofs.Common.{◌≡◌, ℕ, ◌+◌, ◌-◌, ◌*◌, ◌%◌, ◌<◌, ◌≤◌, ◌^◌, true, List, [], ◌∷◌, ◌++◌, Some, refl, sym, ◌∙◌, ap, subst, arith, suc, zero, length, inl, inr}
use Rattle.std.specs.Prelude.{slice_get}
use Rattle.std.proofs.lemmas.Bool.{cases_lt}
use Rattle.std.proofs.lemmas.List.Elements.{All-tail}
use Rattle.chv_defs_api.specs.declared.config.ZoneConfig.{ZoneConfig}
use Rattle.chv_defs_base.specs.Sizes.{block_bytes, blocks_in}
use Rattle.chv_addr.specs.declared.region.Region.{Region}
use Rattle.chv_addr.specs.declared.run.Run.{Run}
use Rattle.chv_addr.specs.AddressMap.{below_hole, boot_end, boot_runs, hole_end, hole_start, is_within_limits, map_of, past_hole, plug_runs, region_start, regions_from, with_run}
use Rattle.chv_addr.specs.Layout.{boot_block_start, boot_blocks, MayBegin, PlugBlocksLieInRegions, RegionsLieInOrder}
use Rattle.chv_addr.proofs.Zones.{AreSmall, end_of, past-high, past-low, past-mono, small-zones, with_run-append}
use Rattle.chv_addr.proofs.InOrder.{block-place, blocks-cons, blocks-small, few-zones, found-behind, found-here, found-past-zone, IsFound, start-is}

-- ---- regions

-- an address from which a region may begin that lies behind others, as regions follow each other from an address on
record MayFollow (before : ℕ) (configs : List ZoneConfig) (k addr : ℕ) : Type 0 where
  pub multiple : addr % 0x8000000 ≡ 0
  pub high : hole_end ≤ addr
  pub behind : before ≤ addr
  pub regions : (j : ℕ) (region : Region) → j < k → slice_get (regions_from before configs) j ≡ Some region → region.addr + region.size ≤ addr

-- the region of a zone is the least such
record IsLeast (before : ℕ) (configs : List ZoneConfig) (k : ℕ) (config : ZoneConfig) (region : Region) : Type 0 where
  pub size : region.size ≡ config.hotplug
  pub follows : MayFollow before configs k region.addr
  pub least : (addr : ℕ) → MayFollow before configs k addr → region.addr ≤ addr

start-multiple : (before : ℕ) → (region_start before % 0x8000000 ≡ 0) × (hole_end ≤ region_start before) × (before ≤ region_start before)
start-multiple before = (omega arith, omega arith, omega arith)

start-least : (before addr : ℕ) → addr % 0x8000000 ≡ 0 → hole_end ≤ addr → before ≤ addr → region_start before ≤ addr
start-least before addr multiple high behind = omega arith

region-least : (before : ℕ) (configs : List ZoneConfig) (k : ℕ) (config : ZoneConfig) (region : Region) → slice_get configs k ≡ Some config → slice_get (regions_from before configs) k ≡ Some region → IsLeast before configs k config region
region-least before [] k config region e f = cc
region-least before (here ∷ configs) zero config region e f =
    let own : Region = record { addr = region_start before; size = here.hotplug } in
    let same : own ≡ region = cc in
    let zone : here ≡ config = cc in
    let starts = start-multiple before in
    let made : IsLeast before (here ∷ configs) 0 here own = record {
      size = refl;
      follows = record { multiple = starts.0; high = starts.1; behind = starts.2; regions = λ j r low g. absurd (omega arith) };
      least = λ addr m. start-least before addr m.multiple m.high m.behind;
    } in
    subst (λ c. IsLeast before (here ∷ configs) 0 c region) zone (subst (λ r. IsLeast before (here ∷ configs) 0 here r) same made)
region-least before (here ∷ configs) (suc k) config region e f =
    let end : ℕ = region_start before + here.hotplug in
    let starts = start-multiple before in
    let further : IsLeast end configs k config region = region-least end configs k config region e f in
    let follows : MayFollow before (here ∷ configs) (suc k) region.addr = record {
      multiple = further.follows.multiple;
      high = further.follows.high;
      behind = omega (arith, further.follows.behind, starts.2);
      regions = earlier further.follows;
    } in
    record {
      size = further.size;
      follows = follows;
      least = λ addr m. further.least addr (record {
        multiple = m.multiple;
        high = m.high;
        behind = m.regions 0 (record { addr = region_start before; size = here.hotplug }) (omega arith) refl;
        regions = λ j r low g. m.regions (suc j) r (omega arith) g;
      });
    }
  where
    earlier : MayFollow (region_start before + here.hotplug) configs k region.addr → (j : ℕ) (r : Region) → j < suc k → slice_get (regions_from before (here ∷ configs)) j ≡ Some r → r.addr + r.size ≤ region.addr
    earlier m zero r low g =
        let own : Region = record { addr = region_start before; size = here.hotplug } in
        let same : own ≡ r = cc in
        let P : Region → Type 0 = λ x. x.addr + x.size ≤ region.addr in
        subst P same m.behind
    earlier m (suc j) r low g = m.regions j r (omega arith) g

-- ---- where boot memory ends

last-ends : (zones : List ZoneConfig) (number addr : ℕ) → boot_end zones ≤ addr → number < boot_blocks zones → boot_block_start number + block_bytes ≤ addr
last-ends zones number addr h inside = elim (cases_lt number 1536) [
  | inl low ↦
      let start : boot_block_start number ≡ number * block_bytes = start-is number ∙ past-low (number * block_bytes) (omega arith) in
      let end : (number + 1) * block_bytes ≤ end_of (boot_blocks zones) = elim (cases_lt (boot_blocks zones * block_bytes) hole_start) [
        | inl below ↦ omega (arith, past-low (boot_blocks zones * block_bytes) below)
        | inr above ↦ omega (arith, past-high (boot_blocks zones * block_bytes) above)
      ] in
      omega arith
  | inr high ↦
      let start : boot_block_start number ≡ number * block_bytes + 0x40000000 = start-is number ∙ past-high (number * block_bytes) (omega arith) in
      omega (arith, past-high (boot_blocks zones * block_bytes) (omega arith))
]

-- an address from 4 GiB on at or above the end of each boot block is at or above the end of boot memory
end-under : (zones : List ZoneConfig) (addr : ℕ) → hole_end ≤ addr → ((number : ℕ) → number < boot_blocks zones → boot_block_start number + block_bytes ≤ addr) → boot_end zones ≤ addr
end-under zones addr high all = elim (cases_lt 1536 (boot_blocks zones)) [
  | inl more ↦
      let last : ℕ = boot_blocks zones - 1 in
      let start : boot_block_start last ≡ last * block_bytes + 0x40000000 = start-is last ∙ past-high (last * block_bytes) (omega arith) in
      omega (arith, all last (omega arith), past-high (boot_blocks zones * block_bytes) (omega arith))
  | inr few ↦
      let low : end_of (boot_blocks zones) ≤ end_of 1536 = past-mono (boot_blocks zones * block_bytes) (1536 * block_bytes) (omega arith) in
      omega arith
]

may-begin : (zones : List ZoneConfig) (zone addr : ℕ) → MayFollow (boot_end zones) zones zone addr → MayBegin zones zone addr
may-begin zones zone addr m = record {
  multiple = m.multiple;
  high = m.high;
  boot = λ number inside. last-ends zones number addr m.behind inside;
  regions = m.regions;
}

may-follow : (zones : List ZoneConfig) (zone addr : ℕ) → MayBegin zones zone addr → MayFollow (boot_end zones) zones zone addr
may-follow zones zone addr m = record {
  multiple = m.multiple;
  high = m.high;
  behind = end-under zones addr m.high m.boot;
  regions = m.regions;
}

pub regions-in-order : (zones : List ZoneConfig) → RegionsLieInOrder zones
regions-in-order zones zone config region e f =
    let found : IsLeast (boot_end zones) zones zone config region = region-least (boot_end zones) zones zone config region e f in
    record {
      size = found.size;
      begins = may-begin zones zone region.addr found.follows;
      least = λ addr m. found.least addr (may-follow zones zone addr m);
    }

-- ---- hotplug blocks

-- what lies behind all boot memory is found behind it
found-past-boot : (zone before addr z b : ℕ) (configs : List ZoneConfig) (rest : List Run) → end_of (before + boot_blocks configs) ≤ addr → IsFound rest addr z b → IsFound (boot_runs zone before configs ++ rest) addr z b
found-past-boot zone before addr z b [] rest h further = further
found-past-boot zone before addr z b (here ∷ configs) rest h further =
    let count : ℕ = blocks_in here.size in
    let low : ℕ = below_hole before count in
    let first : Run = record { zone = zone; first = 0; count = low; addr = before * block_bytes } in
    let second : Run = record { zone = zone; first = low; count = count - low; addr = past_hole ((before + low) * block_bytes) } in
    let next : List Run = boot_runs (zone + 1) (before + count) configs in
    let total : before + boot_blocks (here ∷ configs) ≡ before + count + boot_blocks configs = omega (arith, blocks-cons here configs) in
    let end : end_of (before + count + boot_blocks configs) ≤ addr = subst (λ n. end_of n ≤ addr) total h in
    let up : end_of (before + count) ≤ end_of (before + count + boot_blocks configs) = past-mono ((before + count) * block_bytes) ((before + count + boot_blocks configs) * block_bytes) (omega arith) in
    let Q : List Run → Type 0 = λ runs. IsFound runs addr z b in
    subst Q (sym (with_run-append first (with_run second next) rest ∙ ap (with_run first) (with_run-append second next rest)))
    (found-past-zone zone before addr z b here (next ++ rest) (omega arith) (found-past-boot (zone + 1) (before + count) addr z b configs rest end further))

plug-found : (zone before : ℕ) (configs : List ZoneConfig) (k number : ℕ) (config : ZoneConfig) (region : Region) → slice_get configs k ≡ Some config → slice_get (regions_from before configs) k ≡ Some region → number < blocks_in config.hotplug
    → IsFound (plug_runs zone before configs) (region.addr + number * block_bytes) (zone + k) (blocks_in config.size + number)
plug-found zone before [] k number config region e f h = cc
plug-found zone before (here ∷ configs) zero number config region e f h =
    let addr : ℕ = region_start before in
    let run : Run = record { zone = zone; first = blocks_in here.size; count = blocks_in here.hotplug; addr = addr } in
    let own : Region = record { addr = addr; size = here.hotplug } in
    let same : own ≡ region = cc in
    let is : config ≡ here = cc in
    let z : zone ≡ zone + 0 = omega arith in
    let P : ZoneConfig → Type 0 = λ c. number < blocks_in c.hotplug in
    let there : IsFound (with_run run (plug_runs (zone + 1) (addr + here.hotplug) configs)) (own.addr + number * block_bytes) (zone + 0) (blocks_in here.size + number) =
    found-here run (plug_runs (zone + 1) (addr + here.hotplug) configs) (own.addr + number * block_bytes) number (zone + 0) (blocks_in here.size + number) refl (subst P is h) z refl in
    subst (λ c. IsFound (plug_runs zone before (here ∷ configs)) (region.addr + number * block_bytes) (zone + 0) (blocks_in c.size + number)) (sym is)
    (subst (λ r. IsFound (plug_runs zone before (here ∷ configs)) (r.addr + number * block_bytes) (zone + 0) (blocks_in here.size + number)) same there)
plug-found zone before (here ∷ configs) (suc k) number config region e f h =
    let addr : ℕ = region_start before in
    let end : ℕ = addr + here.hotplug in
    let run : Run = record { zone = zone; first = blocks_in here.size; count = blocks_in here.hotplug; addr = addr } in
    let z : zone + 1 + k ≡ zone + suc k = omega arith in
    let behind : end ≤ region.addr = (region-least end configs k config region e f).follows.behind in
    let further = plug-found (zone + 1) end configs k number config region e f h in
    found-behind run (plug_runs (zone + 1) end configs) (region.addr + number * block_bytes) (zone + suc k) (blocks_in config.size + number) (λ some. omega arith)
    (subst (λ n. IsFound (plug_runs (zone + 1) end configs) (region.addr + number * block_bytes) n (blocks_in config.size + number)) z further)

-- regions lie far below the address space's end
next-low : (before size : ℕ) → size ≤ 64 * 2 ^ 30 → region_start before + size ≤ hole_end + before + 2 ^ 37
next-low before size small = omega arith

region-low : (before : ℕ) (configs : List ZoneConfig) (k : ℕ) (region : Region) → AreSmall configs → slice_get (regions_from before configs) k ≡ Some region → region.addr + region.size ≤ before + 2 ^ 38 * (k + 1)
region-low before [] k region small e = cc
region-low before (here ∷ configs) zero region small e =
    let limit : here.size + here.hotplug ≤ 64 * 2 ^ 30 = small 0 here (omega arith) in
    let own : Region = record { addr = region_start before; size = here.hotplug } in
    let same : own ≡ region = cc in
    let P : Region → Type 0 = λ r. r.addr + r.size ≤ before + 2 ^ 38 * (0 + 1) in
    let low : own.addr + own.size ≤ before + 2 ^ 38 * (0 + 1) = omega (arith, next-low before here.hotplug (omega arith)) in
    subst P same low
region-low before (here ∷ configs) (suc k) region small e =
    let limit : here.size + here.hotplug ≤ 64 * 2 ^ 30 = small 0 here (omega arith) in
    omega (arith, next-low before here.hotplug (omega arith), region-low (region_start before + here.hotplug) configs k region (All-tail (λ config. config.size + config.hotplug ≤ 64 * 2 ^ 30) here configs small) e)

get-inside : (zones : List ZoneConfig) (k : ℕ) (config : ZoneConfig) → slice_get zones k ≡ Some config → k < length zones
get-inside [] k config e = cc
get-inside (here ∷ zones) zero config e = omega arith
get-inside (here ∷ zones) (suc k) config e = omega (arith, get-inside zones k config e)

pub plug-in-regions : (zones : List ZoneConfig) → is_within_limits zones ≡ true → PlugBlocksLieInRegions zones
plug-in-regions zones limits zone config region number e f h =
    let addr : ℕ = region.addr + number * block_bytes in
    let is : IsLeast (boot_end zones) zones zone config region = region-least (boot_end zones) zones zone config region e f in
    let behind : boot_end zones ≤ addr = omega (arith, is.follows.behind) in
    let z : 0 + zone ≡ zone = omega arith in
    let end : end_of (0 + boot_blocks zones) ≤ addr = (let n : 0 + boot_blocks zones ≡ boot_blocks zones = omega arith in subst (λ n. end_of n ≤ addr) (sym n) behind) in
    let few : length zones ≤ 8 = few-zones zones limits in
    let inside : zone < length zones = get-inside zones zone config e in
    let small : boot_blocks zones ≤ 32768 * length zones = blocks-small zones (small-zones zones limits) in
    let boot : boot_end zones ≤ end_of 262144 = past-mono (boot_blocks zones * block_bytes) (262144 * block_bytes) (omega arith) in
    let low : region.addr + region.size ≤ boot_end zones + 2 ^ 38 * (zone + 1) = region-low (boot_end zones) zones zone region (small-zones zones limits) f in
    let fits : addr + block_bytes ≤ 2 ^ 64 = omega (arith, is.size) in
    block-place (map_of zones) addr zone (blocks_in config.size + number) fits
    (found-past-boot 0 0 addr zone (blocks_in config.size + number) zones (plug_runs 0 (boot_end zones) zones) end
    (subst (λ k. IsFound (plug_runs 0 (boot_end zones) zones) addr k (blocks_in config.size + number)) z
    (plug-found 0 (boot_end zones) zones zone number config region e f h)))
