-- The place of bytes is decided by its single bytes.
use Rattle.std.proofs.Common.{◌≡◌, ℕ, ◌+◌, ◌-◌, ◌/◌, ◌%◌, ◌<◌, ◌≤◌, ◌^◌, Bool, true, false, List, [], ◌∷◌, Option, None, Some, refl, sym, ◌∙◌, ap, subst, arith, inl, inr}
use Rattle.std.specs.Prelude.{◌==◌, ◌&&◌, nat_le, nat_lt, All}
use Rattle.std.specs.List.{AllPass}
use Rattle.std.proofs.lemmas.Bool.{cases_lt}
use Rattle.std.proofs.lemmas.Bool.Decides.{nat_tests}
use Rattle.std.proofs.lemmas.List.Elements.{All-cons, All-tail}
use Rattle.chv_defs_api.specs.declared.config.ZoneConfig.{ZoneConfig}
use Rattle.chv_defs_base.specs.Sizes.{block_bytes}
use Rattle.chv_addr.specs.declared.place.Place.{Place}
use Rattle.chv_addr.specs.declared.place.Place.TheVariants.{Ram, Bar, Hole, Crosses}
use Rattle.chv_addr.specs.declared.run.Run.{Run}
use Rattle.chv_defs_api.specs.Registers.{window_bytes, window_start}
use Rattle.chv_addr.specs.AddressMap.{AddressMap, AreInOrder, holds, hole_end, hole_start, is_clear, map_of, no_ram, no_window, place_by, place_of, run_at, run_bytes, slot_at, slots}
use Rattle.chv_addr.specs.Layout.{BytesLieTogether, IsPlacedByBytes}
use Rattle.chv_addr.proofs.Apart.{apart-all, apart-none, apart-part, holds-above, holds-in, holds-parts}
use Rattle.chv_addr.proofs.RunSearch.{find-passes}
use Rattle.chv_addr.proofs.Slots.{slot_at-above, slot_at-below, slot_at-inside}
use Rattle.chv_addr.proofs.Zones.{map-clear, map-order}

-- ---- what is looked up

-- a run that is found begins where its list does, or above
found-above : (from : ℕ) (runs : List Run) (addr : ℕ) (run : Run) → AreInOrder from runs → run_at runs addr ≡ Some run → from ≤ run.addr
found-above from [] addr run o e = cc
found-above from (r ∷ rs) addr run o e = by (found-above (r.addr + run_bytes r) rs addr run o.2) (holds r.addr (run_bytes r) addr) refl
  where
    by : (run_at rs addr ≡ Some run → r.addr + run_bytes r ≤ run.addr) → (b : Bool) → holds r.addr (run_bytes r) addr ≡ b → from ≤ run.addr
    by further true q =
        let here : run_at (r ∷ rs) addr ≡ Some r = rw q refl in
        let same : r ≡ run = cc in
        let P : Run → Type 0 = λ x. from ≤ x.addr in
        subst P same o.0
    by further false q =
        let rest : run_at (r ∷ rs) addr ≡ run_at rs addr = rw q refl in
        omega (arith, o.0, further (sym rest ∙ e))

-- a run that is found at one of its addresses is found at each
found-near : (from : ℕ) (runs : List Run) (addr other : ℕ) (run : Run) → AreInOrder from runs → run_at runs addr ≡ Some run → holds run.addr (run_bytes run) other ≡ true → run_at runs other ≡ Some run
found-near from [] addr other run o e h = cc
found-near from (r ∷ rs) addr other run o e h = by (found-near (r.addr + run_bytes r) rs addr other run o.2) (holds r.addr (run_bytes r) addr) refl
  where
    by : (run_at rs addr ≡ Some run → holds run.addr (run_bytes run) other ≡ true → run_at rs other ≡ Some run) → (b : Bool) → holds r.addr (run_bytes r) addr ≡ b → run_at (r ∷ rs) other ≡ Some run
    by further true q =
        let here : run_at (r ∷ rs) addr ≡ Some r = rw q refl in
        let same : run ≡ r = cc in
        let P : Run → Type 0 = λ x. holds x.addr (run_bytes x) other ≡ true in
        rw (subst P same h) (ap Some (sym same))
    by further false q =
        let rest : run_at (r ∷ rs) addr ≡ run_at rs addr = rw q refl in
        let found : run_at rs addr ≡ Some run = sym rest ∙ e in
        let above : r.addr + run_bytes r ≤ run.addr = found-above (r.addr + run_bytes r) rs addr run o.2 found in
        let here : run.addr ≤ other = (holds-parts run.addr (run_bytes run) other h).0 in
        rw (holds-above r.addr (run_bytes r) other (omega arith)) (further found h)

-- no run is found in the hole
none-in-hole : (runs : List Run) (addr : ℕ) → AllPass is_clear runs → hole_start ≤ addr → addr < hole_end → run_at runs addr ≡ None
none-in-hole [] addr all low high = refl
none-in-hole (run ∷ runs) addr all low high =
    let clear : is_clear run ≡ true = all 0 run (omega arith) in
    let no : holds run.addr (run_bytes run) addr ≡ false = grind (arith, nat_tests) in
    rw no (none-in-hole runs addr (All-tail (λ run. is_clear run ≡ true) run runs all) low high)

-- runs in order have bytes
have-bytes : (from : ℕ) (runs : List Run) → AreInOrder from runs → All (λ run. 0 < run_bytes run) runs
have-bytes from [] o = λ k d h. absurd (omega arith)
have-bytes from (run ∷ runs) o =
    let some : 0 < run_bytes run = omega (arith, o.1) in
    All-cons (λ run. 0 < run_bytes run) run runs some (have-bytes (run.addr + run_bytes run) runs o.2)

-- the slot that is found is that of the window's place
slot-place : (addr slot : ℕ) → slot_at addr ≡ Some slot → (window_start 1 ≤ addr) × (addr < window_start 32) × (slot ≡ (addr - 0xe0000000) / window_bytes)
slot-place addr slot e = elim (cases_lt addr (window_start 1)) [
  | inl low ↦ let none : slot_at addr ≡ None = slot_at-below addr low in cc
  | inr from ↦ (elim (cases_lt addr (window_start 32)) [
    | inl high ↦ let there : slot_at addr ≡ Some ((addr - 0xe0000000) / window_bytes) = slot_at-inside addr from high in (from, high, cc)
    | inr past ↦ let none : slot_at addr ≡ None = slot_at-above addr past in cc
  ])
]

slot-near : (addr slot i : ℕ) → slot_at addr ≡ Some slot → addr - window_start slot + i < window_bytes → slot_at (addr + i) ≡ Some slot
slot-near addr slot i e h =
    let there = slot-place addr slot e in
    let low : window_start 1 ≤ addr = there.0 in
    let high : addr < window_start 32 = there.1 in
    let place : slot ≡ (addr - 0xe0000000) / window_bytes = there.2 in
    let same : (addr + i - 0xe0000000) / window_bytes ≡ slot = omega arith in
    slot_at-inside (addr + i) (omega arith) (omega arith) ∙ ap Some same

-- ---- places

pub place-in : (map : AddressMap) (addr len : ℕ) → 0 < len → addr + len ≤ 2 ^ 64 → place_of map addr len ≡ place_by (run_at map.runs addr) (slot_at addr) map.runs addr len
place-in map addr len some fits =
    let more : (len == 0) ≡ false = grind (arith, nat_tests) in
    let inside : nat_lt (2 ^ 64) (addr + len) ≡ false = grind (arith, nat_tests) in
    rw (more, inside) refl

-- which places a single byte may have, by what is found at it
abbrev IsByteOf : Option Run → Option ℕ → Place → Type 0
IsByteOf (Some run) slot (Ram zone block offset) = offset < block_bytes
IsByteOf (Some run) slot (Bar s offset) = ⊥
IsByteOf (Some run) slot Hole = ⊥
IsByteOf (Some run) slot Crosses = Unit {0}
IsByteOf None (Some slot) (Ram zone block offset) = ⊥
IsByteOf None (Some slot) (Bar s offset) = offset < window_bytes
IsByteOf None (Some slot) Hole = ⊥
IsByteOf None (Some slot) Crosses = Unit {0}
IsByteOf None None (Ram zone block offset) = ⊥
IsByteOf None None (Bar s offset) = ⊥
IsByteOf None None Hole = Unit {0}
IsByteOf None None Crosses = Unit {0}

is-byte-of : (found : Option Run) (slot : Option ℕ) (runs : List Run) (addr : ℕ) → IsByteOf found slot (place_by found slot runs addr 1)
is-byte-of (Some run) slot runs addr = by (nat_le ((addr - run.addr) % block_bytes + 1) block_bytes) refl
  where
    by : (b : Bool) → nat_le ((addr - run.addr) % block_bytes + 1) block_bytes ≡ b → IsByteOf (Some run) slot (place_by (Some run) slot runs addr 1)
    by true q = rw q (omega arith)
    by false q = rw q tt
is-byte-of None (Some slot) runs addr = by (nat_le (addr - window_start slot + 1) window_bytes) refl
  where
    by : (b : Bool) → nat_le (addr - window_start slot + 1) window_bytes ≡ b → IsByteOf None (Some slot) (place_by None (Some slot) runs addr 1)
    by true q =
        let small : addr - window_start slot < window_bytes = grind (arith, nat_tests) in
        rw q small
    by false q = rw q tt
is-byte-of None None runs addr = by (no_ram runs addr (addr + 1) && no_window addr (addr + 1)) refl
  where
    by : (b : Bool) → (no_ram runs addr (addr + 1) && no_window addr (addr + 1)) ≡ b → IsByteOf None None (place_by None None runs addr 1)
    by true q = rw q tt
    by false q = rw q tt

byte-of : (map : AddressMap) (addr : ℕ) (p : Place) → addr + 1 ≤ 2 ^ 64 → place_of map addr 1 ≡ p → IsByteOf (run_at map.runs addr) (slot_at addr) p
byte-of map addr p fits e =
    subst (IsByteOf (run_at map.runs addr) (slot_at addr)) (sym (place-in map addr 1 (omega arith) fits) ∙ e) (is-byte-of (run_at map.runs addr) (slot_at addr) map.runs addr)

-- ---- bytes that lie together, and such that do not

-- the place of a byte behind the first one
abbrev byte_at : Place → ℕ → Place
byte_at (Ram zone block offset) i = Ram zone block (offset + i)
byte_at (Bar slot offset) i = Bar slot (offset + i)
byte_at Hole i = Hole
byte_at Crosses i = Crosses

byte_at-0 : (p : Place) → byte_at p 0 ≡ p
byte_at-0 (Ram zone block offset) = let same : offset + 0 ≡ offset = omega arith in ap (λ n. Ram zone block n) same
byte_at-0 (Bar slot offset) = let same : offset + 0 ≡ offset = omega arith in ap (λ n. Bar slot n) same
byte_at-0 Hole = refl
byte_at-0 Crosses = refl

abbrev AreBytesOf : AddressMap → ℕ → ℕ → Place → Type 0
AreBytesOf map addr len p = (i : ℕ) → i < len → place_of map (addr + i) 1 ≡ byte_at p i

-- the whole has a place that its bytes have
same-place : (map : AddressMap) (addr len : ℕ) (p q : Place) → 0 < len → place_of map addr len ≡ p → AreBytesOf map addr len p → AreBytesOf map addr len q → place_of map addr len ≡ q
same-place map addr len p q some whole bytes others =
    whole ∙ sym (byte_at-0 p) ∙ sym (bytes 0 some) ∙ others 0 some ∙ byte_at-0 q

bytes-same : (map : AddressMap) (addr len : ℕ) (p q : Place) → place_of map addr len ≡ p → AreBytesOf map addr len p → place_of map addr len ≡ q → AreBytesOf map addr len q
bytes-same map addr len p q whole bytes e = subst (AreBytesOf map addr len) (sym whole ∙ e) bytes

together : (map : AddressMap) (addr len : ℕ) (p : Place) → 0 < len → place_of map addr len ≡ p → AreBytesOf map addr len p → IsPlacedByBytes map addr len
together map addr len p some whole bytes = record {
  ram = λ zone block offset. (λ e. bytes-same map addr len p (Ram zone block offset) whole bytes e, λ others. same-place map addr len p (Ram zone block offset) some whole bytes others);
  bar = λ slot offset. (λ e. bytes-same map addr len p (Bar slot offset) whole bytes e, λ others. same-place map addr len p (Bar slot offset) some whole bytes others);
  hole = (λ e. bytes-same map addr len p Hole whole bytes e, λ others. same-place map addr len p Hole some whole bytes others);
}

apart : (map : AddressMap) (addr len : ℕ) → place_of map addr len ≡ Crosses
    → ((zone block offset : ℕ) → AreBytesOf map addr len (Ram zone block offset) → ⊥)
    → ((slot offset : ℕ) → AreBytesOf map addr len (Bar slot offset) → ⊥)
    → (AreBytesOf map addr len Hole → ⊥) → IsPlacedByBytes map addr len
apart map addr len whole ram bar hole = record {
  ram = λ zone block offset. (λ e. cc, λ others. absurd (ram zone block offset others));
  bar = λ slot offset. (λ e. cc, λ others. absurd (bar slot offset others));
  hole = (λ e. cc, λ others. absurd (hole others));
}

-- ---- bytes of which the first lies in a run

ram-byte : (map : AddressMap) (addr i : ℕ) (run : Run) → AreInOrder 0 map.runs → addr + i + 1 ≤ 2 ^ 64 → run_at map.runs addr ≡ Some run → (addr - run.addr) % block_bytes + i < block_bytes → place_of map (addr + i) 1 ≡ Ram run.zone (run.first + (addr - run.addr) / block_bytes) ((addr - run.addr) % block_bytes + i)
ram-byte map addr i run o fits e small =
    let held : holds run.addr (run_bytes run) addr ≡ true = find-passes (λ (run : Run). holds run.addr (run_bytes run) addr) map.runs run e in
    let low : run.addr ≤ addr = (holds-parts run.addr (run_bytes run) addr held).0 in
    let high : addr < run.addr + run_bytes run = (holds-parts run.addr (run_bytes run) addr held).1 in
    let here : holds run.addr (run_bytes run) (addr + i) ≡ true = holds-in run.addr (run_bytes run) (addr + i) (omega arith) (omega arith) in
    let found : run_at map.runs (addr + i) ≡ Some run = found-near 0 map.runs addr (addr + i) run o e here in
    let block : (addr + i - run.addr) / block_bytes ≡ (addr - run.addr) / block_bytes = omega arith in
    let offset : (addr + i - run.addr) % block_bytes ≡ (addr - run.addr) % block_bytes + i = omega arith in
    let one : nat_le ((addr - run.addr) % block_bytes + i + 1) block_bytes ≡ true = grind (arith, nat_tests) in
    place-in map (addr + i) 1 (omega arith) fits ∙ rw (found, offset, block, one) refl

in-run : (map : AddressMap) (addr len : ℕ) (run : Run) → AreInOrder 0 map.runs → 0 < len → addr + len ≤ 2 ^ 64 → run_at map.runs addr ≡ Some run → IsPlacedByBytes map addr len
in-run map addr len run o some fits e = by (nat_le ((addr - run.addr) % block_bytes + len) block_bytes) refl
  where
    first : addr + 0 + 1 ≤ 2 ^ 64
    first = omega arith

    by : (b : Bool) → nat_le ((addr - run.addr) % block_bytes + len) block_bytes ≡ b → IsPlacedByBytes map addr len
    by true q =
        let room : (addr - run.addr) % block_bytes + len ≤ block_bytes = grind (arith, nat_tests) in
        together map addr len (Ram run.zone (run.first + (addr - run.addr) / block_bytes) ((addr - run.addr) % block_bytes)) some
        (place-in map addr len some fits ∙ rw (e, q) refl)
        (λ i h. ram-byte map addr i run o (omega arith) e (omega arith))
    by false q =
        let past : block_bytes < (addr - run.addr) % block_bytes + len = grind (arith, nat_tests) in
        let byte : place_of map (addr + 0) 1 ≡ Ram run.zone (run.first + (addr - run.addr) / block_bytes) ((addr - run.addr) % block_bytes + 0) = ram-byte map addr 0 run o first e (omega arith) in
        apart map addr len (place-in map addr len some fits ∙ rw (e, q) refl)
        (λ zone block offset all.
        let last : addr + (len - 1) + 1 ≤ 2 ^ 64 = omega arith in
        let there = byte-of map (addr + (len - 1)) (Ram zone block (offset + (len - 1))) last (all (len - 1) (omega arith)) in
        let small : offset + (len - 1) < block_bytes = ram-small (run_at map.runs (addr + (len - 1))) (slot_at (addr + (len - 1))) zone block (offset + (len - 1)) there in
        let start = all 0 some in
        let same : (addr - run.addr) % block_bytes + 0 ≡ offset + 0 = cc in
        omega arith)
        (λ slot offset all. let start = all 0 some in cc)
        (λ all. let start = all 0 some in cc)
      where
        ram-small : (found : Option Run) (slot : Option ℕ) (zone block offset : ℕ) → IsByteOf found slot (Ram zone block offset) → offset < block_bytes
        ram-small (Some r) slot zone block offset h = h
        ram-small None (Some s) zone block offset h = absurd h
        ram-small None None zone block offset h = absurd h

-- ---- bytes of which the first lies in a window

bar-byte : (map : AddressMap) (addr i slot : ℕ) → AllPass is_clear map.runs → addr + i + 1 ≤ 2 ^ 64 → slot_at addr ≡ Some slot → addr - window_start slot + i < window_bytes → place_of map (addr + i) 1 ≡ Bar slot (addr - window_start slot + i)
bar-byte map addr i slot clear fits e small =
    let there = slot-place addr slot e in
    let low : window_start 1 ≤ addr = there.0 in
    let high : addr < window_start 32 = there.1 in
    let place : slot ≡ (addr - 0xe0000000) / window_bytes = there.2 in
    let none : run_at map.runs (addr + i) ≡ None = none-in-hole map.runs (addr + i) clear (omega arith) (omega arith) in
    let found : slot_at (addr + i) ≡ Some slot = slot-near addr slot i e small in
    let offset : addr + i - window_start slot ≡ addr - window_start slot + i = omega arith in
    let one : nat_le (addr - window_start slot + i + 1) window_bytes ≡ true = grind (arith, nat_tests) in
    place-in map (addr + i) 1 (omega arith) fits ∙ rw (none, found, offset, one) refl

bar-small : (found : Option Run) (slot : Option ℕ) (s offset : ℕ) → IsByteOf found slot (Bar s offset) → offset < window_bytes
bar-small (Some r) slot s offset h = absurd h
bar-small None (Some t) s offset h = h
bar-small None None s offset h = absurd h

in-window : (map : AddressMap) (addr len slot : ℕ) → AllPass is_clear map.runs → 0 < len → addr + len ≤ 2 ^ 64 → run_at map.runs addr ≡ None → slot_at addr ≡ Some slot → IsPlacedByBytes map addr len
in-window map addr len slot clear some fits none e = by (nat_le (addr - window_start slot + len) window_bytes) refl
  where
    first : addr + 0 + 1 ≤ 2 ^ 64
    first = omega arith

    by : (b : Bool) → nat_le (addr - window_start slot + len) window_bytes ≡ b → IsPlacedByBytes map addr len
    by true q =
        let room : addr - window_start slot + len ≤ window_bytes = grind (arith, nat_tests) in
        together map addr len (Bar slot (addr - window_start slot)) some
        (place-in map addr len some fits ∙ rw (none, e, q) refl)
        (λ i h. bar-byte map addr i slot clear (omega arith) e (omega arith))
    by false q =
        let past : window_bytes < addr - window_start slot + len = grind (arith, nat_tests) in
        let place : slot ≡ (addr - 0xe0000000) / window_bytes = (slot-place addr slot e).2 in
        let low : window_start 1 ≤ addr = (slot-place addr slot e).0 in
        let byte : place_of map (addr + 0) 1 ≡ Bar slot (addr - window_start slot + 0) = bar-byte map addr 0 slot clear first e (omega arith) in
        apart map addr len (place-in map addr len some fits ∙ rw (none, e, q) refl)
        (λ zone block offset all. let start = all 0 some in cc)
        (λ s offset all.
        let last : addr + (len - 1) + 1 ≤ 2 ^ 64 = omega arith in
        let there = byte-of map (addr + (len - 1)) (Bar s (offset + (len - 1))) last (all (len - 1) (omega arith)) in
        let small : offset + (len - 1) < window_bytes = bar-small (run_at map.runs (addr + (len - 1))) (slot_at (addr + (len - 1))) s (offset + (len - 1)) there in
        let start = all 0 some in
        let same : addr - window_start slot + 0 ≡ offset + 0 = cc in
        omega arith)
        (λ all. let start = all 0 some in cc)

-- ---- bytes of which the first lies in neither

-- at a byte in a hole nothing is found
hole-bare : (found : Option Run) (slot : Option ℕ) → IsByteOf found slot Hole → (found ≡ None) × (slot ≡ None)
hole-bare (Some r) slot h = absurd h
hole-bare None (Some s) h = absurd h
hole-bare None None h = (refl, refl)

-- nor is a byte in RAM or in a window where nothing is found
bare-ram : (found : Option Run) (slot : Option ℕ) (zone block offset : ℕ) → found ≡ None → IsByteOf found slot (Ram zone block offset) → ⊥
bare-ram (Some r) slot zone block offset e h = cc
bare-ram None (Some s) zone block offset e h = h
bare-ram None None zone block offset e h = h

bare-bar : (found : Option Run) (slot : Option ℕ) (s offset : ℕ) → slot ≡ None → IsByteOf found slot (Bar s offset) → ⊥
bare-bar (Some r) slot s offset e h = h
bare-bar None (Some t) s offset e h = cc
bare-bar None None s offset e h = h

and-parts : (a b : Bool) → (a && b) ≡ true → (a ≡ true) × (b ≡ true)
and-parts true b e = (refl, e)
and-parts false b e = cc

hole-byte : (map : AddressMap) (addr len i : ℕ) → addr + len ≤ 2 ^ 64 → i < len → no_ram map.runs addr (addr + len) ≡ true → no_window addr (addr + len) ≡ true → place_of map (addr + i) 1 ≡ Hole
hole-byte map addr len i fits h ram window =
    let none : run_at map.runs (addr + i) ≡ None = apart-none (λ (run : Run). run.addr) run_bytes map.runs addr (addr + len) (addr + i) ram (omega arith) (omega arith) in
    let no : slot_at (addr + i) ≡ None = apart-none window_start (λ slot. window_bytes) slots addr (addr + len) (addr + i) window (omega arith) (omega arith) in
    let part : no_ram map.runs (addr + i) (addr + i + 1) ≡ true = apart-part (λ (run : Run). run.addr) run_bytes map.runs addr (addr + len) (addr + i) (addr + i + 1) ram (omega arith) (omega arith) in
    let free : no_window (addr + i) (addr + i + 1) ≡ true = apart-part window_start (λ slot. window_bytes) slots addr (addr + len) (addr + i) (addr + i + 1) window (omega arith) (omega arith) in
    place-in map (addr + i) 1 (omega arith) (omega arith) ∙ rw (none, no, part, free) refl

all-bare : (map : AddressMap) (addr len : ℕ) → AreInOrder 0 map.runs → 0 < len → addr + len ≤ 2 ^ 64 → AreBytesOf map addr len Hole → (no_ram map.runs addr (addr + len) && no_window addr (addr + len)) ≡ true
all-bare map addr len o some fits all =
    let bare : (i : ℕ) → i < len → (run_at map.runs (addr + i) ≡ None) × (slot_at (addr + i) ≡ None) = λ i h. hole-bare (run_at map.runs (addr + i)) (slot_at (addr + i)) (byte-of map (addr + i) Hole (omega arith) (all i h)) in
    let ram : no_ram map.runs addr (addr + len) ≡ true = apart-all (λ (run : Run). run.addr) run_bytes map.runs addr len (have-bytes 0 map.runs o) some (λ i h. (bare i h).0) in
    let window : no_window addr (addr + len) ≡ true = apart-all window_start (λ slot. window_bytes) slots addr len (λ k d h. omega arith) some (λ i h. (bare i h).1) in
    rw ram window

in-neither : (map : AddressMap) (addr len : ℕ) → AreInOrder 0 map.runs → 0 < len → addr + len ≤ 2 ^ 64 → run_at map.runs addr ≡ None → slot_at addr ≡ None → IsPlacedByBytes map addr len
in-neither map addr len o some fits none outside = by (no_ram map.runs addr (addr + len) && no_window addr (addr + len)) refl
  where
    start : addr + 0 ≡ addr
    start = omega arith

    none-first : run_at map.runs (addr + 0) ≡ None
    none-first = ap (run_at map.runs) start ∙ none

    no-first : slot_at (addr + 0) ≡ None
    no-first = ap slot_at start ∙ outside

    by : (b : Bool) → (no_ram map.runs addr (addr + len) && no_window addr (addr + len)) ≡ b → IsPlacedByBytes map addr len
    by true q =
        let parts = and-parts (no_ram map.runs addr (addr + len)) (no_window addr (addr + len)) q in
        together map addr len Hole some (place-in map addr len some fits ∙ rw (none, outside, q) refl)
        (λ i h. hole-byte map addr len i fits h parts.0 parts.1)
    by false q =
        apart map addr len (place-in map addr len some fits ∙ rw (none, outside, q) refl)
        (λ zone block offset all. bare-ram (run_at map.runs (addr + 0)) (slot_at (addr + 0)) zone block (offset + 0) none-first (byte-of map (addr + 0) (Ram zone block (offset + 0)) (omega arith) (all 0 some)))
        (λ slot offset all. bare-bar (run_at map.runs (addr + 0)) (slot_at (addr + 0)) slot (offset + 0) no-first (byte-of map (addr + 0) (Bar slot (offset + 0)) (omega arith) (all 0 some)))
        (λ all. let yes = all-bare map addr len o some fits all in cc)

-- ---- the map of zones

by-bytes : (map : AddressMap) → AreInOrder 0 map.runs → AllPass is_clear map.runs → BytesLieTogether map
by-bytes map o clear addr len some fits = by (run_at map.runs addr) (slot_at addr) refl refl
  where
    by : (found : Option Run) (slot : Option ℕ) → run_at map.runs addr ≡ found → slot_at addr ≡ slot → IsPlacedByBytes map addr len
    by (Some run) slot e f = in-run map addr len run o some fits e
    by None (Some slot) e f = in-window map addr len slot clear some fits e f
    by None None e f = in-neither map addr len o some fits e f

pub bytes-together : (zones : List ZoneConfig) → BytesLieTogether (map_of zones)
bytes-together zones = by-bytes (map_of zones) (map-order zones) (map-clear zones)
