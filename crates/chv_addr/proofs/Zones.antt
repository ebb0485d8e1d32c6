-- Runs that zones make, one zone after another: they are in order, clear of the hole, and their blocks have small numbers.
use Rattle.std.proofs.Common.{◌≡◌, ℕ, ◌+◌, ◌-◌, ◌*◌, ◌<◌, ◌≤◌, Bool, true, false, List, [], ◌∷◌, ◌++◌, refl, sym, ◌∙◌, ap, subst, arith, suc, length, get_or, inl, inr}
use Rattle.std.specs.Prelude.{◌==◌, ◌&&◌, nat_le, nat_lt, ◌^◌, sum_by, All}
use Rattle.std.specs.List.{list_all, AllPass}
use Rattle.std.proofs.lemmas.Bool.{cases_lt}
use Rattle.std.proofs.lemmas.Bool.Decides.{nat_tests}
use Rattle.std.proofs.lemmas.List.Elements.{All-cons, All-tail, All-append}
use Rattle.std.proofs.lemmas.List.Sums.{AllPass-from_list_all, sum_by-cons}
use Rattle.chv_defs_api.specs.declared.config.ZoneConfig.{ZoneConfig}
use Rattle.chv_addr.specs.declared.run.Run.{Run}
use Rattle.chv_addr.specs.AddressMap.{AreInOrder, AreNumbered, IsMap, below_hole, boot_end, boot_runs, hole_start, hole_end, is_clear, is_within_limits, map_of, past_hole, plug_runs, region_start, regions_from, run_bytes, with_run}
use Rattle.chv_defs_base.specs.Sizes.{block_bytes, blocks_in}

-- ---- limits

and-right : (a b : Bool) → (a && b) ≡ true → b ≡ true
and-right true b e = e
and-right false b e = cc

-- sizes whose blocks have numbers that fit
abbrev pub AreSmall : List ZoneConfig → Type 0
AreSmall zones = All (λ config. config.size + config.hotplug ≤ 64 * 2 ^ 30) zones

pub small-zones : (zones : List ZoneConfig) → is_within_limits zones ≡ true → AreSmall zones
small-zones zones h i d low =
    let all : list_all (λ config. nat_le (config.size + config.hotplug) (64 * 2 ^ 30)) zones ≡ true = and-right (nat_le (length zones) 8) (list_all (λ config. nat_le (config.size + config.hotplug) (64 * 2 ^ 30)) zones) h in
    let small : nat_le ((get_or zones i d).size + (get_or zones i d).hotplug) (64 * 2 ^ 30) ≡ true = AllPass-from_list_all (λ config. nat_le (config.size + config.hotplug) (64 * 2 ^ 30)) zones all i d low in
    grind (arith, nat_tests)

-- ---- a run before others

pub with_run-append : (run : Run) (xs ys : List Run) → with_run run xs ++ ys ≡ with_run run (xs ++ ys)
with_run-append run xs ys = by (run.count == 0) refl
  where
    by : (b : Bool) → (run.count == 0) ≡ b → with_run run xs ++ ys ≡ with_run run (xs ++ ys)
    by true e = rw e refl
    by false e = rw e refl

-- what holds of a list behind each start up to a number holds with a run that ends there
with_run-order : (from to : ℕ) (run : Run) (rest : List Run) → from ≤ to → (0 < run.count → (from ≤ run.addr) × (run.addr + run_bytes run ≤ to)) → ((f : ℕ) → f ≤ to → AreInOrder f rest) → AreInOrder from (with_run run rest)
with_run-order from to run rest up fits further = by (run.count == 0) refl
  where
    by : (b : Bool) → (run.count == 0) ≡ b → AreInOrder from (with_run run rest)
    by true e = rw e (further from up)
    by false e =
        let some : 0 < run.count = grind (arith, nat_tests) in
        rw e ((fits some).0, some, further (run.addr + run_bytes run) (fits some).1)

with_run-all : (P : Run → Type 0) (run : Run) (rest : List Run) → (0 < run.count → P run) → All P rest → All P (with_run run rest)
with_run-all P run rest here further = by (run.count == 0) refl
  where
    by : (b : Bool) → (run.count == 0) ≡ b → All P (with_run run rest)
    by true e = rw e further
    by false e =
        let some : 0 < run.count = grind (arith, nat_tests) in
        rw e (All-cons P run rest (here some) further)

-- ---- the hole

pub past-low : (a : ℕ) → a < hole_start → past_hole a ≡ a
past-low a h = let yes : nat_lt a hole_start ≡ true = grind (arith, nat_tests) in rw yes refl

pub past-high : (a : ℕ) → hole_start ≤ a → past_hole a ≡ a + 0x40000000
past-high a h = let no : nat_lt a hole_start ≡ false = grind (arith, nat_tests) in rw no refl

pub past-ge : (a : ℕ) → a ≤ past_hole a
past-ge a = elim (cases_lt a hole_start) [
  | inl low ↦ omega (arith, past-low a low)
  | inr high ↦ omega (arith, past-high a high)
]

pub past-mono : (a b : ℕ) → a ≤ b → past_hole a ≤ past_hole b
past-mono a b h = elim (cases_lt a hole_start) [
  | inl low ↦ omega (arith, past-low a low, past-ge b)
  | inr high ↦
      let high' : hole_start ≤ b = omega arith in
      omega (arith, past-high a high, past-high b high')
]

-- ---- boot memory

-- the blocks of boot memory
abbrev pub boot_total : List ZoneConfig → ℕ
boot_total zones = sum_by (λ config. blocks_in config.size) zones

-- where so many boot blocks end
abbrev pub end_of : ℕ → ℕ
end_of blocks = past_hole (blocks * block_bytes)

pub low-fits : (before count : ℕ) → 0 < below_hole before count → (end_of before ≤ before * block_bytes) × (before * block_bytes + below_hole before count * block_bytes ≤ end_of (before + below_hole before count)) × (before * block_bytes + below_hole before count * block_bytes ≤ hole_start)
low-fits before count some =
    let low : before * block_bytes < hole_start = omega arith in
    (omega (arith, past-low (before * block_bytes) low), omega (arith, past-ge ((before + below_hole before count) * block_bytes)), omega arith)

pub high-fits : (before count : ℕ) → 0 < count - below_hole before count → (end_of (before + below_hole before count) + (count - below_hole before count) * block_bytes ≤ end_of (before + count)) × (hole_end ≤ end_of (before + below_hole before count))
high-fits before count some =
    let high : hole_start ≤ (before + below_hole before count) * block_bytes = omega arith in
    let high' : hole_start ≤ (before + count) * block_bytes = omega arith in
    (omega (arith, past-high ((before + below_hole before count) * block_bytes) high, past-high ((before + count) * block_bytes) high'), omega (arith, past-high ((before + below_hole before count) * block_bytes) high))

pub low-le : (before count : ℕ) → below_hole before count ≤ count
low-le before count = omega arith

pub boot-order : (zone before from : ℕ) (configs : List ZoneConfig) (rest : List Run) → from ≤ end_of before → ((f : ℕ) → f ≤ end_of (before + boot_total configs) → AreInOrder f rest) → AreInOrder from (boot_runs zone before configs ++ rest)
boot-order zone before from [] rest up further = further from (let e : before + 0 ≡ before = omega arith in rw e up)
boot-order zone before from (config ∷ configs) rest up further =
    let count : ℕ = blocks_in config.size in
    let low : ℕ = below_hole before count in
    let a : Run = record { zone = zone; first = 0; count = low; addr = before * block_bytes } in
    let b : Run = record { zone = zone; first = low; count = count - low; addr = past_hole ((before + low) * block_bytes) } in
    let next : List Run = boot_runs (zone + 1) (before + count) configs in
    let total : before + count + boot_total configs ≡ before + boot_total (config ∷ configs) = omega (arith, sum_by-cons (λ (config : ZoneConfig). blocks_in config.size) config configs) in
    let P : List Run → Type 0 = λ l. AreInOrder from l in
    let mid : end_of before ≤ end_of (before + low) = past-mono (before * block_bytes) ((before + low) * block_bytes) (omega arith) in
    subst P (sym (with_run-append a (with_run b next) rest ∙ ap (with_run a) (with_run-append b next rest)))
    (with_run-order from (end_of (before + low)) a (with_run b (next ++ rest)) (omega arith)
    (λ some. (omega (arith, (low-fits before count some).0), (low-fits before count some).1))
    (λ f early. with_run-order f (end_of (before + count)) b (next ++ rest)
    (let up' : end_of (before + low) ≤ end_of (before + count) = past-mono ((before + low) * block_bytes) ((before + count) * block_bytes) (omega (arith, low-le before count)) in omega arith)
    (λ some. (early, (high-fits before count some).0))
    (λ f' early'. boot-order (zone + 1) (before + count) f' configs rest early' (λ g h. further g (let Q : ℕ → Type 0 = λ n. g ≤ end_of n in subst Q total h)))))

-- ---- hotplug memory

start-ge : (before : ℕ) → (before ≤ region_start before) × (hole_end ≤ region_start before)
start-ge before = (omega arith, omega arith)

pub plug-order : (zone before from : ℕ) (configs : List ZoneConfig) → from ≤ before → AreInOrder from (plug_runs zone before configs)
plug-order zone before from [] up = tt
plug-order zone before from (config ∷ configs) up =
    let addr : ℕ = region_start before in
    let run : Run = record { zone = zone; first = blocks_in config.size; count = blocks_in config.hotplug; addr = addr } in
    with_run-order from (addr + config.hotplug) run (plug_runs (zone + 1) (addr + config.hotplug) configs)
    (omega (arith, (start-ge before).0))
    (λ some. (omega (arith, (start-ge before).0), omega arith))
    (λ f early. plug-order (zone + 1) (addr + config.hotplug) f configs early)

-- ---- every run

small-head : (config : ZoneConfig) (configs : List ZoneConfig) → AreSmall (config ∷ configs) → config.size + config.hotplug ≤ 64 * 2 ^ 30
small-head config configs small = small 0 config (omega arith)

boot-numbered : (zone before : ℕ) (configs : List ZoneConfig) → AreSmall configs → AreNumbered (boot_runs zone before configs)
boot-numbered zone before [] small = λ k d h. absurd (omega arith)
boot-numbered zone before (config ∷ configs) small =
    let count : ℕ = blocks_in config.size in
    let low : ℕ = below_hole before count in
    let limit : config.size + config.hotplug ≤ 64 * 2 ^ 30 = small-head config configs small in
    let few : count ≤ 32768 = omega arith in
    let fewer : low ≤ count = low-le before count in
    with_run-all (λ run. run.first + run.count ≤ 2 ^ 32) (record { zone = zone; first = 0; count = low; addr = before * block_bytes }) (with_run (record { zone = zone; first = low; count = count - low; addr = past_hole ((before + low) * block_bytes) }) (boot_runs (zone + 1) (before + count) configs))
    (λ some. omega arith)
    (with_run-all (λ run. run.first + run.count ≤ 2 ^ 32) (record { zone = zone; first = low; count = count - low; addr = past_hole ((before + low) * block_bytes) }) (boot_runs (zone + 1) (before + count) configs)
    (λ some. omega arith)
    (boot-numbered (zone + 1) (before + count) configs (All-tail (λ config. config.size + config.hotplug ≤ 64 * 2 ^ 30) config configs small)))

plug-numbered : (zone before : ℕ) (configs : List ZoneConfig) → AreSmall configs → AreNumbered (plug_runs zone before configs)
plug-numbered zone before [] small = λ k d h. absurd (omega arith)
plug-numbered zone before (config ∷ configs) small =
    let addr : ℕ = region_start before in
    let limit : config.size + config.hotplug ≤ 64 * 2 ^ 30 = small-head config configs small in
    let few : blocks_in config.size + blocks_in config.hotplug ≤ 65536 = omega arith in
    with_run-all (λ run. run.first + run.count ≤ 2 ^ 32) (record { zone = zone; first = blocks_in config.size; count = blocks_in config.hotplug; addr = addr }) (plug_runs (zone + 1) (addr + config.hotplug) configs)
    (λ some. omega arith)
    (plug-numbered (zone + 1) (addr + config.hotplug) configs (All-tail (λ config. config.size + config.hotplug ≤ 64 * 2 ^ 30) config configs small))

clear-low : (run : Run) → run.addr + run_bytes run ≤ hole_start → is_clear run ≡ true
clear-low run h = grind (arith, nat_tests)

clear-high : (run : Run) → hole_end ≤ run.addr → is_clear run ≡ true
clear-high run h = grind (arith, nat_tests)

boot-clear : (zone before : ℕ) (configs : List ZoneConfig) → AllPass is_clear (boot_runs zone before configs)
boot-clear zone before [] = λ k d h. absurd (omega arith)
boot-clear zone before (config ∷ configs) =
    let count : ℕ = blocks_in config.size in
    let low : ℕ = below_hole before count in
    let a : Run = record { zone = zone; first = 0; count = low; addr = before * block_bytes } in
    let b : Run = record { zone = zone; first = low; count = count - low; addr = past_hole ((before + low) * block_bytes) } in
    with_run-all (λ run. is_clear run ≡ true) a (with_run b (boot_runs (zone + 1) (before + count) configs))
    (λ some. clear-low a (low-fits before count some).2)
    (with_run-all (λ run. is_clear run ≡ true) b (boot_runs (zone + 1) (before + count) configs)
    (λ some. clear-high b (high-fits before count some).1)
    (boot-clear (zone + 1) (before + count) configs))

plug-clear : (zone before : ℕ) (configs : List ZoneConfig) → AllPass is_clear (plug_runs zone before configs)
plug-clear zone before [] = λ k d h. absurd (omega arith)
plug-clear zone before (config ∷ configs) =
    let addr : ℕ = region_start before in
    let run : Run = record { zone = zone; first = blocks_in config.size; count = blocks_in config.hotplug; addr = addr } in
    with_run-all (λ run. is_clear run ≡ true) run (plug_runs (zone + 1) (addr + config.hotplug) configs)
    (λ some. clear-high run (start-ge before).1)
    (plug-clear (zone + 1) (addr + config.hotplug) configs)

-- ---- the whole map

pub map-order : (zones : List ZoneConfig) → AreInOrder 0 (map_of zones).runs
map-order zones = boot-order 0 0 0 zones (plug_runs 0 (boot_end zones) zones) (omega arith)
    (λ f early. plug-order 0 (boot_end zones) f zones (let e : 0 + boot_total zones ≡ boot_total zones = omega arith in let P : ℕ → Type 0 = λ n. f ≤ end_of n in subst P e early))

pub map-clear : (zones : List ZoneConfig) → AllPass is_clear (map_of zones).runs
map-clear zones = All-append (λ run. is_clear run ≡ true) (boot_runs 0 0 zones) (plug_runs 0 (boot_end zones) zones) (boot-clear 0 0 zones) (plug-clear 0 (boot_end zones) zones)

pub map-is : (zones : List ZoneConfig) → is_within_limits zones ≡ true → IsMap (map_of zones).runs
map-is zones h = record {
  order = map-order zones;
  numbered = All-append (λ run. run.first + run.count ≤ 2 ^ 32) (boot_runs 0 0 zones) (plug_runs 0 (boot_end zones) zones) (boot-numbered 0 0 zones (small-zones zones h)) (plug-numbered 0 (boot_end zones) zones (small-zones zones h));
}

-- the map as it is built
pub map-built : (zones given : List ZoneConfig) (boot runs : List Run) (end : ℕ) → given ≡ zones → boot ≡ boot_runs 0 0 given → end ≡ boot_end given → runs ≡ boot ++ plug_runs 0 end given → is_within_limits zones ≡ true → IsMap runs
map-built zones given boot runs end e f g h limits =
    let same : runs ≡ (map_of given).runs = h ∙ ap (λ l. l ++ plug_runs 0 end given) f ∙ ap (λ n. boot_runs 0 0 given ++ plug_runs 0 n given) g in
    subst IsMap (sym (same ∙ ap (λ l. (map_of l).runs) e)) (map-is zones limits)

-- each zone has a region
pub length-regions : (before : ℕ) (zones : List ZoneConfig) → length (regions_from before zones) ≡ length zones
length-regions before [] = refl
length-regions before (config ∷ configs) = ap suc (length-regions (region_start before + config.hotplug) configs)
