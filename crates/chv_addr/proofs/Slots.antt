-- Windows of slots that follow each other.
use Rattle.std.proofs.Common.{◌≡◌, ℕ, ◌+◌, ◌-◌, ◌/◌, ◌<◌, ◌≤◌, true, false, None, Some, refl, sym, ◌∙◌, ap, arith, suc, zero, inl, inr}
use Rattle.std.specs.Prelude.{find, not, nat_le, nat_lt}
use Rattle.std.specs.List.{list_all, range_with_len}
use Rattle.std.proofs.lemmas.Bool.{cases_lt}
use Rattle.std.proofs.lemmas.Bool.Decides.{nat_tests}
use Rattle.chv_defs_api.specs.Registers.{window_start, window_bytes}
use Rattle.chv_addr.specs.AddressMap.{holds, is_apart, slot_at, slots, no_window}

-- ---- the slot that holds an address

find-below : (k n addr : ℕ) → addr < window_start k → find (λ slot. holds (window_start slot) window_bytes addr) (range_with_len k n) ≡ None
find-below k zero addr h = refl
find-below k (suc n) addr h =
    let no : holds (window_start k) window_bytes addr ≡ false = grind (arith, nat_tests) in
    let next : addr < window_start (k + 1) = omega arith in
    rw no (find-below (k + 1) n addr next)

find-above : (k n addr : ℕ) → window_start (k + n) ≤ addr → find (λ slot. holds (window_start slot) window_bytes addr) (range_with_len k n) ≡ None
find-above k zero addr h = refl
find-above k (suc n) addr h =
    let no : holds (window_start k) window_bytes addr ≡ false = grind (arith, nat_tests) in
    let next : window_start (k + 1 + n) ≤ addr = omega arith in
    rw no (find-above (k + 1) n addr next)

find-inside : (k n addr : ℕ) → window_start k ≤ addr → addr < window_start (k + n) → find (λ slot. holds (window_start slot) window_bytes addr) (range_with_len k n) ≡ Some ((addr - 0xe0000000) / window_bytes)
find-inside k zero addr low high = absurd (omega arith)
find-inside k (suc n) addr low high = elim (cases_lt addr (window_start (k + 1))) [
  | inl here ↦
      let yes : holds (window_start k) window_bytes addr ≡ true = grind (arith, nat_tests) in
      let same : k ≡ (addr - 0xe0000000) / window_bytes = omega arith in
      rw yes (ap Some same)
  | inr later ↦
      let no : holds (window_start k) window_bytes addr ≡ false = grind (arith, nat_tests) in
      let end : addr < window_start (k + 1 + n) = omega arith in
      rw no (find-inside (k + 1) n addr later end)
]

pub slot_at-below : (addr : ℕ) → addr < window_start 1 → slot_at addr ≡ None
unfolding slots
slot_at-below addr h = find-below 1 31 addr h

pub slot_at-above : (addr : ℕ) → window_start 32 ≤ addr → slot_at addr ≡ None
unfolding slots
slot_at-above addr h = find-above 1 31 addr h

pub slot_at-inside : (addr : ℕ) → window_start 1 ≤ addr → addr < window_start 32 → slot_at addr ≡ Some ((addr - 0xe0000000) / window_bytes)
unfolding slots
slot_at-inside addr low high = find-inside 1 31 addr low high

-- ---- windows that a stretch touches

all-above : (k n addr end : ℕ) → end ≤ window_start k → list_all (λ slot. is_apart (window_start slot) window_bytes addr end) (range_with_len k n) ≡ true
all-above k zero addr end h = refl
all-above k (suc n) addr end h =
    let yes : is_apart (window_start k) window_bytes addr end ≡ true = grind (arith, nat_tests) in
    let next : end ≤ window_start (k + 1) = omega arith in
    rw yes (all-above (k + 1) n addr end next)

all-below : (k n addr end : ℕ) → window_start (k + n) ≤ addr → list_all (λ slot. is_apart (window_start slot) window_bytes addr end) (range_with_len k n) ≡ true
all-below k zero addr end h = refl
all-below k (suc n) addr end h =
    let behind : window_start k + window_bytes ≤ addr = omega arith in
    let yes : is_apart (window_start k) window_bytes addr end ≡ true = grind (arith, nat_tests) in
    let next : window_start (k + 1 + n) ≤ addr = omega arith in
    rw yes (all-below (k + 1) n addr end next)

all-hit : (k n addr end : ℕ) → 0 < n → addr < end → window_start k < end → addr < window_start (k + n) → list_all (λ slot. is_apart (window_start slot) window_bytes addr end) (range_with_len k n) ≡ false
all-hit k zero addr end some h low high = absurd (omega arith)
all-hit k (suc n) addr end some h low high = elim (cases_lt addr (window_start (k + 1))) [
  | inl here ↦
      let no : is_apart (window_start k) window_bytes addr end ≡ false = grind (arith, nat_tests) in
      rw no refl
  | inr later ↦
      let behind : window_start k + window_bytes ≤ addr = omega arith in
      let yes : is_apart (window_start k) window_bytes addr end ≡ true = grind (arith, nat_tests) in
      let more : 0 < n = omega arith in
      let start : window_start (k + 1) < end = omega arith in
      let stop : addr < window_start (k + 1 + n) = omega arith in
      rw yes (all-hit (k + 1) n addr end more h start stop)
]

pub no_window-below : (addr end : ℕ) → end ≤ window_start 1 → no_window addr end ≡ true
unfolding slots
no_window-below addr end h = all-above 1 31 addr end h

pub no_window-above : (addr end : ℕ) → window_start 32 ≤ addr → no_window addr end ≡ true
unfolding slots
no_window-above addr end h = all-below 1 31 addr end h

pub no_window-hit : (addr end : ℕ) → addr < end → window_start 1 < end → addr < window_start 32 → no_window addr end ≡ false
unfolding slots
no_window-hit addr end some low high = all-hit 1 31 addr end (omega arith) some low high

pub touches : (addr last : ℕ) → addr ≤ last → addr < window_start 32 → nat_le (window_start 1) last ≡ not (no_window addr (last + 1))
touches addr last order low = elim (cases_lt last (window_start 1)) [
  | inl before ↦
      let no : nat_le (window_start 1) last ≡ false = grind (arith, nat_tests) in
      let end : last + 1 ≤ window_start 1 = omega arith in
      no ∙ sym (ap not (no_window-below addr (last + 1) end))
  | inr from ↦
      let yes : nat_le (window_start 1) last ≡ true = grind (arith, nat_tests) in
      let end : window_start 1 < last + 1 = omega arith in
      let some : addr < last + 1 = omega arith in
      yes ∙ sym (ap not (no_window-hit addr (last + 1) some end low))
]

pub touches-not : (addr last : ℕ) → window_start 32 ≤ addr → nat_lt addr (window_start 32) ≡ not (no_window addr (last + 1))
touches-not addr last high =
    let no : nat_lt addr (window_start 32) ≡ false = grind (arith, nat_tests) in
    no ∙ sym (ap not (no_window-above addr (last + 1) high))
