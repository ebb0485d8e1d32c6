-- No address lies in two intervals, and each block lies in one run.
use Rattle.std.proofs.Common.{◌≡◌, ℕ, ◌+◌, ◌-◌, ◌*◌, ◌<◌, ◌≤◌, Bool, true, false, List, [], ◌∷◌, ◌++◌, Some, refl, ◌∙◌, ap, subst, arith, suc, zero, cond, inl, inr}
use Rattle.std.specs.Prelude.{◌==◌, count_by, slice_get}
use Rattle.std.specs.List.{AllPass, range_with_len}
use Rattle.std.proofs.lemmas.Bool.{cases_lt}
use Rattle.std.proofs.lemmas.Bool.Decides.{nat_tests}
use Rattle.std.proofs.lemmas.List.Elements.{All-tail}
use Rattle.std.proofs.lemmas.List.Sums.{sum_by-cons, sum_by-append}
use Rattle.chv_defs_api.specs.declared.config.ZoneConfig.{ZoneConfig}
use Rattle.chv_addr.specs.declared.run.Run.{Run}
use Rattle.chv_defs_api.specs.Registers.{window_bytes, window_start}
use Rattle.chv_addr.specs.AddressMap.{AreInOrder, addresses_of, below_hole, blocks_of, boot_end, boot_runs, has_block, hole_start, hole_end, holders, holds, is_clear, map_of, past_hole, plug_runs, region_start, run_bytes, slots, with_run}
use Rattle.chv_defs_base.specs.Sizes.{block_bytes, blocks_in}
use Rattle.chv_addr.proofs.Zones.{map-clear, map-order}

-- ---- counts

-- one where a test holds
abbrev pub bit : Bool → ℕ
bit b = cond b 1 0

-- ---- runs that hold an address

abbrev pub run_holders : List Run → ℕ → ℕ
run_holders runs addr = count_by (λ run. holds run.addr (run_bytes run) addr) runs

run_holders-cons : (run : Run) (runs : List Run) (addr : ℕ) → run_holders (run ∷ runs) addr ≡ bit (holds run.addr (run_bytes run) addr) + run_holders runs addr
run_holders-cons run runs addr = sum_by-cons (λ (run : Run). bit (holds run.addr (run_bytes run) addr)) run runs

run_holders-below : (from : ℕ) (runs : List Run) (addr : ℕ) → AreInOrder from runs → addr < from → run_holders runs addr ≡ 0
run_holders-below from [] addr o h = refl
run_holders-below from (run ∷ runs) addr o h =
    let low : addr < run.addr = omega (arith, o.0) in
    let no : holds run.addr (run_bytes run) addr ≡ false = grind (arith, nat_tests) in
    let none : bit (holds run.addr (run_bytes run) addr) ≡ 0 = rw no refl in
    let next : addr < run.addr + run_bytes run = omega arith in
    omega (arith, run_holders-cons run runs addr, none, run_holders-below (run.addr + run_bytes run) runs addr o.2 next)

run_holders-one : (from : ℕ) (runs : List Run) (addr : ℕ) → AreInOrder from runs → run_holders runs addr ≤ 1
run_holders-one from [] addr o = omega arith
run_holders-one from (run ∷ runs) addr o = by (run_holders-one (run.addr + run_bytes run) runs addr o.2) (holds run.addr (run_bytes run) addr) refl
  where
    by : run_holders runs addr ≤ 1 → (b : Bool) → holds run.addr (run_bytes run) addr ≡ b → run_holders (run ∷ runs) addr ≤ 1
    by further true e =
        let here : bit (holds run.addr (run_bytes run) addr) ≡ 1 = rw e refl in
        let next : addr < run.addr + run_bytes run = grind (arith, nat_tests) in
        omega (arith, run_holders-cons run runs addr, here, run_holders-below (run.addr + run_bytes run) runs addr o.2 next)
    by further false e =
        let none : bit (holds run.addr (run_bytes run) addr) ≡ 0 = rw e refl in
        omega (arith, run_holders-cons run runs addr, none)

-- no run holds an address in the hole
run_holders-hole : (runs : List Run) (addr : ℕ) → AllPass is_clear runs → hole_start ≤ addr → addr < hole_end → run_holders runs addr ≡ 0
run_holders-hole [] addr all low high = refl
run_holders-hole (run ∷ runs) addr all low high =
    let clear : is_clear run ≡ true = all 0 run (omega arith) in
    let no : holds run.addr (run_bytes run) addr ≡ false = grind (arith, nat_tests) in
    let none : bit (holds run.addr (run_bytes run) addr) ≡ 0 = rw no refl in
    omega (arith, run_holders-cons run runs addr, none, run_holders-hole runs addr (All-tail (λ run. is_clear run ≡ true) run runs all) low high)

-- ---- windows that hold an address

abbrev pub slot_holders : ℕ → ℕ → ℕ → ℕ
slot_holders k n addr = count_by (λ slot. holds (window_start slot) window_bytes addr) (range_with_len k n)

slot_holders-suc : (k n addr : ℕ) → slot_holders k (suc n) addr ≡ bit (holds (window_start k) window_bytes addr) + slot_holders (k + 1) n addr
slot_holders-suc k n addr = sum_by-cons (λ slot. bit (holds (window_start slot) window_bytes addr)) k (range_with_len (k + 1) n)

slot_holders-below : (k n addr : ℕ) → addr < window_start k → slot_holders k n addr ≡ 0
slot_holders-below k zero addr h = refl
slot_holders-below k (suc n) addr h =
    let no : holds (window_start k) window_bytes addr ≡ false = grind (arith, nat_tests) in
    let none : bit (holds (window_start k) window_bytes addr) ≡ 0 = rw no refl in
    let next : addr < window_start (k + 1) = omega arith in
    omega (arith, slot_holders-suc k n addr, none, slot_holders-below (k + 1) n addr next)

slot_holders-above : (k n addr : ℕ) → window_start (k + n) ≤ addr → slot_holders k n addr ≡ 0
slot_holders-above k zero addr h = refl
slot_holders-above k (suc n) addr h =
    let no : holds (window_start k) window_bytes addr ≡ false = grind (arith, nat_tests) in
    let none : bit (holds (window_start k) window_bytes addr) ≡ 0 = rw no refl in
    let next : window_start (k + 1 + n) ≤ addr = omega arith in
    omega (arith, slot_holders-suc k n addr, none, slot_holders-above (k + 1) n addr next)

slot_holders-one : (k n addr : ℕ) → slot_holders k n addr ≤ 1
slot_holders-one k zero addr = omega arith
slot_holders-one k (suc n) addr = elim (cases_lt addr (window_start (k + 1))) [
  | inl low ↦ omega (arith, slot_holders-suc k n addr, bit-le (holds (window_start k) window_bytes addr), slot_holders-below (k + 1) n addr low)
  | inr high ↦
      let no : holds (window_start k) window_bytes addr ≡ false = grind (arith, nat_tests) in
      let none : bit (holds (window_start k) window_bytes addr) ≡ 0 = rw no refl in
      omega (arith, slot_holders-suc k n addr, none, slot_holders-one (k + 1) n addr)
]
  where
    bit-le : (b : Bool) → bit b ≤ 1
    bit-le true = omega arith
    bit-le false = omega arith

pub holders-one : (zones : List ZoneConfig) (addr : ℕ) → holders (map_of zones).runs addr ≤ 1
unfolding slots
holders-one zones addr = elim (cases_lt addr hole_start) [
  | inl low ↦
      let below : addr < window_start 1 = omega arith in
      omega (arith, run_holders-one 0 (map_of zones).runs addr (map-order zones), slot_holders-below 1 31 addr below)
  | inr from ↦ (elim (cases_lt addr hole_end) [
    | inl high ↦ omega (arith, run_holders-hole (map_of zones).runs addr (map-clear zones) from high, slot_holders-one 1 31 addr)
    | inr past ↦
        let above : window_start 32 ≤ addr = omega arith in
        omega (arith, run_holders-one 0 (map_of zones).runs addr (map-order zones), slot_holders-above 1 31 addr above)
  ])
]

-- ---- runs that have a block

with_run-count : (zone block : ℕ) (run : Run) (runs : List Run) → addresses_of (with_run run runs) zone block ≡ bit (has_block zone block run) + addresses_of runs zone block
with_run-count zone block run runs = by (run.count == 0) refl
  where
    by : (b : Bool) → (run.count == 0) ≡ b → addresses_of (with_run run runs) zone block ≡ bit (has_block zone block run) + addresses_of runs zone block
    by true e =
        let no : has_block zone block run ≡ false = grind (arith, nat_tests) in
        let none : bit (has_block zone block run) ≡ 0 = rw no refl in
        let same : addresses_of (with_run run runs) zone block ≡ addresses_of runs zone block = rw e refl in
        omega (arith, none, same)
    by false e =
        let same : addresses_of (with_run run runs) zone block ≡ addresses_of (run ∷ runs) zone block = rw e refl in
        same ∙ sum_by-cons (λ (run : Run). bit (has_block zone block run)) run runs

-- a run of another zone does not have the block
other-zone : (zone block : ℕ) (run : Run) → (run.zone ≡ zone → ⊥) → bit (has_block zone block run) ≡ 0
other-zone zone block run other =
    let no : has_block zone block run ≡ false = grind (arith, nat_tests) in
    rw no refl

-- a run of the zone has the block, or has it not
has-it : (zone block : ℕ) (run : Run) → run.zone ≡ zone → run.first ≤ block → block < run.first + run.count → bit (has_block zone block run) ≡ 1
has-it zone block run same low high =
    let yes : has_block zone block run ≡ true = grind (arith, nat_tests) in
    rw yes refl

lacks-below : (zone block : ℕ) (run : Run) → block < run.first → bit (has_block zone block run) ≡ 0
lacks-below zone block run low =
    let no : has_block zone block run ≡ false = grind (arith, nat_tests) in
    rw no refl

lacks-above : (zone block : ℕ) (run : Run) → run.first + run.count ≤ block → bit (has_block zone block run) ≡ 0
lacks-above zone block run high =
    let no : has_block zone block run ≡ false = grind (arith, nat_tests) in
    rw no refl

-- ---- boot memory

boot-cons : (zone before : ℕ) (config : ZoneConfig) (configs : List ZoneConfig) (k block : ℕ) → addresses_of (boot_runs zone before (config ∷ configs)) k block
    ≡ bit (has_block k block (record { zone = zone; first = 0; count = below_hole before (blocks_in config.size); addr = before * block_bytes }))
    + (bit (has_block k block (record { zone = zone; first = below_hole before (blocks_in config.size); count = blocks_in config.size - below_hole before (blocks_in config.size); addr = past_hole ((before + below_hole before (blocks_in config.size)) * block_bytes) }))
    + addresses_of (boot_runs (zone + 1) (before + blocks_in config.size) configs) k block)
boot-cons zone before config configs k block =
    let count : ℕ = blocks_in config.size in
    let low : ℕ = below_hole before count in
    let a : Run = record { zone = zone; first = 0; count = low; addr = before * block_bytes } in
    let b : Run = record { zone = zone; first = low; count = count - low; addr = past_hole ((before + low) * block_bytes) } in
    let rest : List Run = boot_runs (zone + 1) (before + count) configs in
    with_run-count k block a (with_run b rest) ∙ ap (λ n. bit (has_block k block a) + n) (with_run-count k block b rest)

boot-other : (zone before : ℕ) (configs : List ZoneConfig) (k block : ℕ) → k < zone → addresses_of (boot_runs zone before configs) k block ≡ 0
boot-other zone before [] k block h = refl
boot-other zone before (config ∷ configs) k block h =
    let count : ℕ = blocks_in config.size in
    let low : ℕ = below_hole before count in
    let a : Run = record { zone = zone; first = 0; count = low; addr = before * block_bytes } in
    let b : Run = record { zone = zone; first = low; count = count - low; addr = past_hole ((before + low) * block_bytes) } in
    let apart : zone ≡ k → ⊥ = λ e. omega arith in
    let next : k < zone + 1 = omega arith in
    omega (arith, boot-cons zone before config configs k block, other-zone k block a apart, other-zone k block b apart, boot-other (zone + 1) (before + count) configs k block next)

-- the boot blocks of a zone: one address for a block below their number, and none for others
boot-count : (zone before : ℕ) (configs : List ZoneConfig) (k block : ℕ) (config : ZoneConfig) → slice_get configs k ≡ Some config → (block < blocks_in config.size → addresses_of (boot_runs zone before configs) (zone + k) block ≡ 1) × (blocks_in config.size ≤ block → addresses_of (boot_runs zone before configs) (zone + k) block ≡ 0)
boot-count zone before [] k block config e = cc
boot-count zone before (here ∷ configs) zero block config e =
    let same : here ≡ config = cc in
    let count : ℕ = blocks_in here.size in
    let low : ℕ = below_hole before count in
    let a : Run = record { zone = zone; first = 0; count = low; addr = before * block_bytes } in
    let b : Run = record { zone = zone; first = low; count = count - low; addr = past_hole ((before + low) * block_bytes) } in
    let z : zone ≡ zone + 0 = omega arith in
    let fewer : low ≤ count = omega arith in
    let rest : addresses_of (boot_runs (zone + 1) (before + count) configs) (zone + 0) block ≡ 0 = boot-other (zone + 1) (before + count) configs (zone + 0) block (omega arith) in
    let P : ZoneConfig → Type 0 = λ c. (block < blocks_in c.size → addresses_of (boot_runs zone before (here ∷ configs)) (zone + 0) block ≡ 1) × (blocks_in c.size ≤ block → addresses_of (boot_runs zone before (here ∷ configs)) (zone + 0) block ≡ 0) in
    subst P same (
      λ small. elim (cases_lt block low) [
        | inl first ↦ omega (arith, boot-cons zone before here configs (zone + 0) block, has-it (zone + 0) block a z (omega arith) (omega (arith, first)), lacks-below (zone + 0) block b first, rest)
        | inr second ↦
            let end : block < low + (count - low) = omega arith in
            omega (arith, boot-cons zone before here configs (zone + 0) block, lacks-above (zone + 0) block a (omega (arith, second)), has-it (zone + 0) block b z second end, rest)
      ],
      λ large.
          let past : low ≤ block = omega arith in
          let end : low + (count - low) ≤ block = omega arith in
          omega (arith, boot-cons zone before here configs (zone + 0) block, lacks-above (zone + 0) block a (omega (arith, past)), lacks-above (zone + 0) block b end, rest),
    )
boot-count zone before (here ∷ configs) (suc k) block config e =
    let count : ℕ = blocks_in here.size in
    let low : ℕ = below_hole before count in
    let a : Run = record { zone = zone; first = 0; count = low; addr = before * block_bytes } in
    let b : Run = record { zone = zone; first = low; count = count - low; addr = past_hole ((before + low) * block_bytes) } in
    let apart : zone ≡ zone + suc k → ⊥ = λ h. omega arith in
    let moved : zone + 1 + k ≡ zone + suc k = omega arith in
    let further = boot-count (zone + 1) (before + count) configs k block config e in
    let same : addresses_of (boot_runs zone before (here ∷ configs)) (zone + suc k) block ≡ addresses_of (boot_runs (zone + 1) (before + count) configs) (zone + 1 + k) block =
    omega (arith, boot-cons zone before here configs (zone + suc k) block, other-zone (zone + suc k) block a apart, other-zone (zone + suc k) block b apart, ap (λ n. addresses_of (boot_runs (zone + 1) (before + count) configs) n block) moved) in
    (λ small. same ∙ further.0 small, λ large. same ∙ further.1 large)

-- ---- hotplug memory

plug-other : (zone before : ℕ) (configs : List ZoneConfig) (k block : ℕ) → k < zone → addresses_of (plug_runs zone before configs) k block ≡ 0
plug-other zone before [] k block h = refl
plug-other zone before (config ∷ configs) k block h =
    let addr : ℕ = region_start before in
    let run : Run = record { zone = zone; first = blocks_in config.size; count = blocks_in config.hotplug; addr = addr } in
    let apart : zone ≡ k → ⊥ = λ e. omega arith in
    let next : k < zone + 1 = omega arith in
    omega (arith, with_run-count k block run (plug_runs (zone + 1) (addr + config.hotplug) configs), other-zone k block run apart, plug-other (zone + 1) (addr + config.hotplug) configs k block next)

plug-count : (zone before : ℕ) (configs : List ZoneConfig) (k block : ℕ) (config : ZoneConfig) → slice_get configs k ≡ Some config → (block < blocks_in config.size → addresses_of (plug_runs zone before configs) (zone + k) block ≡ 0) × (blocks_in config.size ≤ block → block < blocks_of config → addresses_of (plug_runs zone before configs) (zone + k) block ≡ 1)
plug-count zone before [] k block config e = cc
plug-count zone before (here ∷ configs) zero block config e =
    let same : here ≡ config = cc in
    let addr : ℕ = region_start before in
    let run : Run = record { zone = zone; first = blocks_in here.size; count = blocks_in here.hotplug; addr = addr } in
    let z : zone ≡ zone + 0 = omega arith in
    let rest : addresses_of (plug_runs (zone + 1) (addr + here.hotplug) configs) (zone + 0) block ≡ 0 = plug-other (zone + 1) (addr + here.hotplug) configs (zone + 0) block (omega arith) in
    let P : ZoneConfig → Type 0 = λ c. (block < blocks_in c.size → addresses_of (plug_runs zone before (here ∷ configs)) (zone + 0) block ≡ 0) × (blocks_in c.size ≤ block → block < blocks_of c → addresses_of (plug_runs zone before (here ∷ configs)) (zone + 0) block ≡ 1) in
    subst P same (
      λ small. omega (arith, with_run-count (zone + 0) block run (plug_runs (zone + 1) (addr + here.hotplug) configs), lacks-below (zone + 0) block run small, rest),
      λ large last. omega (arith, with_run-count (zone + 0) block run (plug_runs (zone + 1) (addr + here.hotplug) configs), has-it (zone + 0) block run z large last, rest),
    )
plug-count zone before (here ∷ configs) (suc k) block config e =
    let addr : ℕ = region_start before in
    let run : Run = record { zone = zone; first = blocks_in here.size; count = blocks_in here.hotplug; addr = addr } in
    let apart : zone ≡ zone + suc k → ⊥ = λ h. omega arith in
    let moved : zone + 1 + k ≡ zone + suc k = omega arith in
    let further = plug-count (zone + 1) (addr + here.hotplug) configs k block config e in
    let same : addresses_of (plug_runs zone before (here ∷ configs)) (zone + suc k) block ≡ addresses_of (plug_runs (zone + 1) (addr + here.hotplug) configs) (zone + 1 + k) block =
    omega (arith, with_run-count (zone + suc k) block run (plug_runs (zone + 1) (addr + here.hotplug) configs), other-zone (zone + suc k) block run apart, ap (λ n. addresses_of (plug_runs (zone + 1) (addr + here.hotplug) configs) n block) moved) in
    (λ small. same ∙ further.0 small, λ large last. same ∙ further.1 large last)

-- ---- every block

pub one-address : (zones : List ZoneConfig) (zone : ℕ) (config : ZoneConfig) (block : ℕ) → slice_get zones zone ≡ Some config → block < blocks_of config → addresses_of (map_of zones).runs zone block ≡ 1
one-address zones zone config block e h =
    let boot : List Run = boot_runs 0 0 zones in
    let plug : List Run = plug_runs 0 (boot_end zones) zones in
    let z : 0 + zone ≡ zone = omega arith in
    let both : addresses_of (boot ++ plug) zone block ≡ addresses_of boot zone block + addresses_of plug zone block = sum_by-append (λ (run : Run). bit (has_block zone block run)) boot plug in
    let first : addresses_of boot (0 + zone) block ≡ addresses_of boot zone block = ap (λ n. addresses_of boot n block) z in
    let second : addresses_of plug (0 + zone) block ≡ addresses_of plug zone block = ap (λ n. addresses_of plug n block) z in
    let low = boot-count 0 0 zones zone block config e in
    let high = plug-count 0 (boot_end zones) zones zone block config e in
    elim (cases_lt block (blocks_in config.size)) [
      | inl small ↦ omega (arith, both, first, second, low.0 small, high.0 small)
      | inr large ↦ omega (arith, both, first, second, low.1 large, high.1 large h)
    ]
