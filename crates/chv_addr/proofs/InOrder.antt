-- Where boot blocks lie.
use Rattle.std.proofs.Common.{◌≡◌, ℕ, ◌+◌, ◌-◌, ◌*◌, ◌/◌, ◌%◌, ◌<◌, ◌≤◌, ◌^◌, Bool, true, false, List, [], ◌∷◌, ◌++◌, Some, take, refl, sym, ◌∙◌, ap, subst, arith, suc, zero, length, inl, inr}
use Rattle.std.specs.Prelude.{◌==◌, nat_le, nat_lt, slice_get}
use Rattle.std.proofs.lemmas.Bool.{cases_lt}
use Rattle.std.proofs.lemmas.Bool.Decides.{nat_tests}
use Rattle.std.proofs.lemmas.List.Elements.{All-tail}
use Rattle.std.proofs.lemmas.List.Sums.{sum_by-cons}
use Rattle.chv_defs_api.specs.declared.config.ZoneConfig.{ZoneConfig}
use Rattle.chv_defs_base.specs.Sizes.{block_bytes, blocks_in}
use Rattle.chv_addr.specs.declared.place.Place.TheVariants.{Ram}
use Rattle.chv_addr.specs.declared.run.Run.{Run}
use Rattle.chv_addr.specs.AddressMap.{AddressMap, below_hole, boot_end, boot_runs, hole_start, holds, is_within_limits, map_of, past_hole, place_of, plug_runs, run_at, run_bytes, with_run}
use Rattle.chv_addr.specs.Layout.{boot_block_start, boot_blocks, BootBlocksLieInOrder}
use Rattle.chv_addr.proofs.Apart.{holds-above, holds-in}
use Rattle.chv_addr.proofs.Bytes.{place-in}
use Rattle.chv_addr.proofs.Zones.{AreSmall, end_of, high-fits, low-fits, low-le, past-high, past-low, past-mono, small-zones, with_run-append}

-- ---- a block that is found

-- At an address a run is found, and a block of a zone begins there.
pub record IsFound (runs : List Run) (addr zone block : ℕ) : Type 0 where
  pub run : Run
  pub number : ℕ
  pub found : run_at runs addr ≡ Some run
  pub begins : run.addr + number * block_bytes ≡ addr
  pub zone_is : run.zone ≡ zone
  pub block_is : run.first + number ≡ block

-- a run that ends before, or has no block, does not matter
pub found-behind : (run : Run) (rest : List Run) (addr zone block : ℕ) → (0 < run.count → run.addr + run_bytes run ≤ addr) → IsFound rest addr zone block → IsFound (with_run run rest) addr zone block
found-behind run rest addr zone block ends further = by (run.count == 0) refl
  where
    by : (b : Bool) → (run.count == 0) ≡ b → IsFound (with_run run rest) addr zone block
    by true e = rw e further
    by false e =
        let some : 0 < run.count = grind (arith, nat_tests) in
        let no : holds run.addr (run_bytes run) addr ≡ false = holds-above run.addr (run_bytes run) addr (ends some) in
        let same : run_at (with_run run rest) addr ≡ run_at rest addr = rw (e, no) refl in
        record {
          run = further.run;
          number = further.number;
          found = same ∙ further.found;
          begins = further.begins;
          zone_is = further.zone_is;
          block_is = further.block_is;
        }

-- a block of the first run
pub found-here : (run : Run) (rest : List Run) (addr number zone block : ℕ) → run.addr + number * block_bytes ≡ addr → number < run.count → run.zone ≡ zone → run.first + number ≡ block → IsFound (with_run run rest) addr zone block
found-here run rest addr number zone block begins inside zone_is block_is =
    let some : (run.count == 0) ≡ false = grind (arith, nat_tests) in
    let yes : holds run.addr (run_bytes run) addr ≡ true = holds-in run.addr (run_bytes run) addr (omega arith) (omega arith) in
    record {
      run = run;
      number = number;
      found = rw (some, yes) refl;
      begins = begins;
      zone_is = zone_is;
      block_is = block_is;
    }

-- its bytes lie in it
pub block-place : (map : AddressMap) (addr zone block : ℕ) → addr + block_bytes ≤ 2 ^ 64 → IsFound map.runs addr zone block → place_of map addr block_bytes ≡ Ram zone block 0
block-place map addr zone block fits f =
    let from : addr - f.run.addr ≡ f.number * block_bytes = omega (arith, f.begins) in
    let number : f.number * block_bytes / block_bytes ≡ f.number = omega arith in
    let offset : f.number * block_bytes % block_bytes ≡ 0 = omega arith in
    let found : run_at map.runs addr ≡ Some f.run = f.found in
    let there : place_of map addr block_bytes ≡ Ram f.run.zone (f.run.first + f.number) 0 = place-in map addr block_bytes (omega arith) fits ∙ rw (found, from, number, offset) refl in
    there ∙ ap (λ z. Ram z (f.run.first + f.number) 0) f.zone_is ∙ ap (λ b. Ram zone b 0) f.block_is

-- ---- boot blocks

pub blocks-cons : (config : ZoneConfig) (configs : List ZoneConfig) → boot_blocks (config ∷ configs) ≡ blocks_in config.size + boot_blocks configs
blocks-cons config configs = sum_by-cons (λ (config : ZoneConfig). blocks_in config.size) config configs

-- the blocks below the hole of zones, and those above it, end where the next ones begin
low-ends : (before count addr : ℕ) → end_of (before + count) ≤ addr → 0 < below_hole before count → before * block_bytes + below_hole before count * block_bytes ≤ addr
low-ends before count addr h some =
    let up : end_of (before + below_hole before count) ≤ end_of (before + count) = past-mono ((before + below_hole before count) * block_bytes) ((before + count) * block_bytes) (omega (arith, low-le before count)) in
    omega (arith, (low-fits before count some).1)

high-ends : (before count addr : ℕ) → end_of (before + count) ≤ addr → 0 < count - below_hole before count → past_hole ((before + below_hole before count) * block_bytes) + (count - below_hole before count) * block_bytes ≤ addr
high-ends before count addr h some = omega (arith, (high-fits before count some).0)

-- what lies behind the boot memory of a zone is found behind it
pub found-past-zone : (zone before addr z b : ℕ) (config : ZoneConfig) (rest : List Run) → end_of (before + blocks_in config.size) ≤ addr → IsFound rest addr z b
    → IsFound (with_run (record { zone = zone; first = 0; count = below_hole before (blocks_in config.size); addr = before * block_bytes }) (with_run (record { zone = zone; first = below_hole before (blocks_in config.size); count = blocks_in config.size - below_hole before (blocks_in config.size); addr = past_hole ((before + below_hole before (blocks_in config.size)) * block_bytes) }) rest)) addr z b
found-past-zone zone before addr z b config rest h further =
    let count : ℕ = blocks_in config.size in
    let low : ℕ = below_hole before count in
    let first : Run = record { zone = zone; first = 0; count = low; addr = before * block_bytes } in
    let second : Run = record { zone = zone; first = low; count = count - low; addr = past_hole ((before + low) * block_bytes) } in
    found-behind first (with_run second rest) addr z b (λ some. low-ends before count addr h some)
    (found-behind second rest addr z b (λ some. high-ends before count addr h some) further)

-- a boot block of the first zone
found-in-zone : (zone before block : ℕ) (config : ZoneConfig) (rest : List Run) → block < blocks_in config.size
    → IsFound (with_run (record { zone = zone; first = 0; count = below_hole before (blocks_in config.size); addr = before * block_bytes }) (with_run (record { zone = zone; first = below_hole before (blocks_in config.size); count = blocks_in config.size - below_hole before (blocks_in config.size); addr = past_hole ((before + below_hole before (blocks_in config.size)) * block_bytes) }) rest)) (end_of (before + block)) zone block
found-in-zone zone before block config rest h =
    let count : ℕ = blocks_in config.size in
    let low : ℕ = below_hole before count in
    let first : Run = record { zone = zone; first = 0; count = low; addr = before * block_bytes } in
    let second : Run = record { zone = zone; first = low; count = count - low; addr = past_hole ((before + low) * block_bytes) } in
    elim (cases_lt block low) [
      | inl inside ↦
          let small : (before + block) * block_bytes < hole_start = omega arith in
          found-here first (with_run second rest) (end_of (before + block)) block zone block (omega (arith, past-low ((before + block) * block_bytes) small)) inside refl (omega arith)
      | inr above ↦
          let number : ℕ = block - low in
          let high : hole_start ≤ (before + low) * block_bytes = omega arith in
          let high' : hole_start ≤ (before + block) * block_bytes = omega arith in
          let begins : past_hole ((before + low) * block_bytes) + number * block_bytes ≡ end_of (before + block) = omega (arith, past-high ((before + low) * block_bytes) high, past-high ((before + block) * block_bytes) high') in
          found-behind first (with_run second rest) (end_of (before + block)) zone block
          (λ some. omega (arith, (low-fits before count some).2, past-high ((before + block) * block_bytes) high'))
          (found-here second rest (end_of (before + block)) number zone block begins (omega arith) refl (omega arith))
    ]

boot-found : (zone before : ℕ) (configs : List ZoneConfig) (k block : ℕ) (config : ZoneConfig) (rest : List Run) → slice_get configs k ≡ Some config → block < blocks_in config.size
    → IsFound (boot_runs zone before configs ++ rest) (end_of (before + (boot_blocks (take k configs) + block))) (zone + k) block
boot-found zone before [] k block config rest e h = cc
boot-found zone before (here ∷ configs) zero block config rest e h =
    let same : config ≡ here = cc in
    let count : ℕ = blocks_in here.size in
    let low : ℕ = below_hole before count in
    let first : Run = record { zone = zone; first = 0; count = low; addr = before * block_bytes } in
    let second : Run = record { zone = zone; first = low; count = count - low; addr = past_hole ((before + low) * block_bytes) } in
    let next : List Run = boot_runs (zone + 1) (before + count) configs in
    let P : ZoneConfig → Type 0 = λ c. block < blocks_in c.size in
    let place : before + block ≡ before + (0 + block) = omega arith in
    let z : zone ≡ zone + 0 = omega arith in
    let Q : List Run → Type 0 = λ runs. IsFound runs (end_of (before + block)) zone block in
    let there : Q (boot_runs zone before (here ∷ configs) ++ rest) =
    subst Q (sym (with_run-append first (with_run second next) rest ∙ ap (with_run first) (with_run-append second next rest)))
    (found-in-zone zone before block here (next ++ rest) (subst P same h)) in
    subst (λ n. IsFound (boot_runs zone before (here ∷ configs) ++ rest) (end_of (before + (0 + block))) n block) z
    (subst (λ n. IsFound (boot_runs zone before (here ∷ configs) ++ rest) (end_of n) zone block) place there)
boot-found zone before (here ∷ configs) (suc k) block config rest e h =
    let count : ℕ = blocks_in here.size in
    let low : ℕ = below_hole before count in
    let first : Run = record { zone = zone; first = 0; count = low; addr = before * block_bytes } in
    let second : Run = record { zone = zone; first = low; count = count - low; addr = past_hole ((before + low) * block_bytes) } in
    let next : List Run = boot_runs (zone + 1) (before + count) configs in
    let number : before + count + (boot_blocks (take k configs) + block) ≡ before + (boot_blocks (take (suc k) (here ∷ configs)) + block) = omega (arith, blocks-cons here (take k configs)) in
    let addr : ℕ = end_of (before + (boot_blocks (take (suc k) (here ∷ configs)) + block)) in
    let z : zone + 1 + k ≡ zone + suc k = omega arith in
    let further : IsFound (next ++ rest) addr (zone + suc k) block =
    subst (λ n. IsFound (next ++ rest) addr n block) z
    (subst (λ n. IsFound (next ++ rest) (end_of n) (zone + 1 + k) block) number
    (boot-found (zone + 1) (before + count) configs k block config rest e h)) in
    let up : end_of (before + count) ≤ addr = past-mono ((before + count) * block_bytes) ((before + (boot_blocks (take (suc k) (here ∷ configs)) + block)) * block_bytes) (omega arith) in
    let Q : List Run → Type 0 = λ runs. IsFound runs addr (zone + suc k) block in
    subst Q (sym (with_run-append first (with_run second next) rest ∙ ap (with_run first) (with_run-append second next rest)))
    (found-past-zone zone before addr (zone + suc k) block here (next ++ rest) up further)

-- where boot blocks begin
pub start-is : (number : ℕ) → boot_block_start number ≡ end_of number
start-is number = elim (cases_lt number 1536) [
  | inl low ↦
      let yes : nat_lt number 1536 ≡ true = grind (arith, nat_tests) in
      let here : boot_block_start number ≡ number * block_bytes = rw yes refl in
      here ∙ sym (past-low (number * block_bytes) (omega arith))
  | inr high ↦
      let no : nat_lt number 1536 ≡ false = grind (arith, nat_tests) in
      let here : boot_block_start number ≡ number * block_bytes + 0x40000000 = rw no refl in
      here ∙ sym (past-high (number * block_bytes) (omega arith))
]

pub blocks-small : (zones : List ZoneConfig) → AreSmall zones → boot_blocks zones ≤ 32768 * length zones
blocks-small [] small = omega arith
blocks-small (config ∷ configs) small =
    let limit : config.size + config.hotplug ≤ 64 * 2 ^ 30 = small 0 config (omega arith) in
    omega (arith, blocks-cons config configs, blocks-small configs (All-tail (λ config. config.size + config.hotplug ≤ 64 * 2 ^ 30) config configs small))

blocks-before : (zones : List ZoneConfig) (k : ℕ) (config : ZoneConfig) → slice_get zones k ≡ Some config → boot_blocks (take k zones) + blocks_in config.size ≤ boot_blocks zones
blocks-before [] k config e = cc
blocks-before (here ∷ zones) zero config e =
    let same : here ≡ config = cc in
    let size : blocks_in here.size ≡ blocks_in config.size = ap (λ (c : ZoneConfig). blocks_in c.size) same in
    omega (arith, blocks-cons here zones, size)
blocks-before (here ∷ zones) (suc k) config e =
    omega (arith, blocks-cons here zones, blocks-cons here (take k zones), blocks-before zones k config e)

pub few-zones : (zones : List ZoneConfig) → is_within_limits zones ≡ true → length zones ≤ 8
few-zones zones h = by (nat_le (length zones) 8) refl
  where
    by : (b : Bool) → nat_le (length zones) 8 ≡ b → length zones ≤ 8
    by true e = grind (arith, nat_tests)
    by false e = let no : is_within_limits zones ≡ false = rw e refl in cc

pub boot-in-order : (zones : List ZoneConfig) → is_within_limits zones ≡ true → BootBlocksLieInOrder zones
boot-in-order zones limits zone config block e h =
    let number : ℕ = boot_blocks (take zone zones) + block in
    let small : boot_blocks zones ≤ 32768 * length zones = blocks-small zones (small-zones zones limits) in
    let few : length zones ≤ 8 = few-zones zones limits in
    let inside : number < 262144 = omega (arith, blocks-before zones zone config e) in
    let low : end_of number ≤ end_of 262144 = past-mono (number * block_bytes) (262144 * block_bytes) (omega arith) in
    let fits : end_of number + block_bytes ≤ 2 ^ 64 = omega arith in
    let z : 0 + zone ≡ zone = omega arith in
    let n : 0 + number ≡ number = omega arith in
    let found : IsFound (map_of zones).runs (end_of number) zone block =
    subst (λ m. IsFound (map_of zones).runs (end_of m) zone block) n
    (subst (λ k. IsFound (map_of zones).runs (end_of (0 + number)) k block) z
    (boot-found 0 0 zones zone block config (plug_runs 0 (boot_end zones) zones) e h)) in
    let there : place_of (map_of zones) (end_of number) block_bytes ≡ Ram zone block 0 = block-place (map_of zones) (end_of number) zone block fits found in
    ap (λ n. place_of (map_of zones) n block_bytes) (start-is number) ∙ there
