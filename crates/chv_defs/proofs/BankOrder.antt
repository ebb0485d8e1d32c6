-- The order of banks: all banks ascend, and so does each part of them; an order depends on the numbers of the banks alone.
use Rattle.std.proofs.Common.{◌≡◌, ◌≢◌, ◌≤◌, ◌<◌, ◌⊎◌, inl, inr, ℕ, zero, suc, ◌+◌, ◌==◌, Bool, true, false, cond, List, [], ◌∷◌, ◌++◌, map, filter, flat_map, Option, None, Some, refl, sym, ap, subst, ◌∙◌, arith}
use Rattle.std.specs.Prelude.{◌&&◌, find, length, nat_lt}
use Rattle.std.specs.List.{AllByRecursion, range_with_len}
use Rattle.std.proofs.lemmas.Bool.Decides.{nat_tests}
use Rattle.chv_defs_memory.specs.declared.bank.BankEntry.{BankEntry}
use Rattle.chv_defs_memory.specs.BankState.{banks}
use Rattle.chv_defs_memory.specs.Zones.{most_zones, IsBank}
use Rattle.chv_defs.specs.declared.trace.BankTrace.{BankTrace}
use Rattle.chv_defs.specs.LegalTrace.{entries_in, entries_or_none, is_of_bank, Ascend, IsBefore}
use Rattle.chv_defs.specs.Schedule.{fresh_banks, fresh_zone, has_entries}

-- ---- what holds of each bank of a list

-- of two lists, one behind the other
pub all_append : {X : Type 0} (P : X → Type 0) (xs ys : List X) → AllByRecursion P xs → AllByRecursion P ys → AllByRecursion P (xs ++ ys)
all_append P [] ys front back = back
all_append P (x ∷ xs) ys front back = (front.0, all_append P xs ys front.1 back)

-- of something that holds wherever another thing does
pub all_so : {X : Type 0} (P Q : X → Type 0) (xs : List X) → ((x : X) → P x → Q x) → AllByRecursion P xs → AllByRecursion Q xs
all_so P Q [] so each = tt
all_so P Q (x ∷ xs) so each = (so x each.0, all_so P Q xs so each.1)

-- of those that pass a test
pub all_filter : {X : Type 0} (P : X → Type 0) (test : X → Bool) (xs : List X) → AllByRecursion P xs → AllByRecursion P (filter test xs)
all_filter P test [] each = tt
all_filter {X} P test (x ∷ xs) each = go (test x) each.0 (all_filter P test xs each.1)
  where
    go : (b : Bool) → P x → AllByRecursion P (filter test xs) → AllByRecursion P (cond b (x ∷ filter test xs) (filter test xs))
    go true here rest = (here, rest)
    go false here rest = rest

-- ---- the order

-- of those that pass a test
pub ascend_filter : (test : BankTrace → Bool) (bs : List BankTrace) → Ascend bs → Ascend (filter test bs)
ascend_filter test [] ascend = tt
ascend_filter test (b ∷ bs) ascend = go (test b) (ascend_filter test bs ascend.1)
  where
    go : (t : Bool) → Ascend (filter test bs) → Ascend (cond t (b ∷ filter test bs) (filter test bs))
    go true rest = (all_filter (IsBefore b) test bs ascend.0, rest)
    go false rest = rest

-- the numbers of a bank
abbrev pub key : BankTrace → ℕ × ℕ
key b = (b.zone, b.bank)

-- the order of numbers
abbrev pub IsKeyBefore : ℕ × ℕ → ℕ × ℕ → Type 0
IsKeyBefore a b = (a.0 < b.0) ⊎ ((a.0 ≡ b.0) × (a.1 < b.1))

abbrev pub KeysAscend : List (ℕ × ℕ) → Type 0
KeysAscend [] = Unit {0}
KeysAscend (k ∷ ks) = AllByRecursion (IsKeyBefore k) ks × KeysAscend ks

before_keys : (b : BankTrace) (bs : List BankTrace) → AllByRecursion (IsBefore b) bs → AllByRecursion (IsKeyBefore (key b)) (map key bs)
before_keys b [] each = tt
before_keys b (c ∷ bs) each = (each.0, before_keys b bs each.1)

keys_before : (b : BankTrace) (bs : List BankTrace) → AllByRecursion (IsKeyBefore (key b)) (map key bs) → AllByRecursion (IsBefore b) bs
keys_before b [] each = tt
keys_before b (c ∷ bs) each = (each.0, keys_before b bs each.1)

ascend_keys : (bs : List BankTrace) → Ascend bs → KeysAscend (map key bs)
ascend_keys [] ascend = tt
ascend_keys (b ∷ bs) ascend = (before_keys b bs ascend.0, ascend_keys bs ascend.1)

keys_ascend : (bs : List BankTrace) → KeysAscend (map key bs) → Ascend bs
keys_ascend [] ascend = tt
keys_ascend (b ∷ bs) ascend = (keys_before b bs ascend.0, keys_ascend bs ascend.1)

-- banks with the same numbers ascend alike
pub same_keys_ascend : (bs cs : List BankTrace) → map key cs ≡ map key bs → Ascend bs → Ascend cs
same_keys_ascend bs cs same ascend = keys_ascend cs (subst KeysAscend (sym same) (ascend_keys bs ascend))

-- and what holds of the numbers holds of both
pub keys_all : (P : ℕ × ℕ → Type 0) (bs : List BankTrace) → AllByRecursion P (map key bs) → AllByRecursion (λ (b : BankTrace). P (key b)) bs
keys_all P [] each = tt
keys_all P (b ∷ bs) each = (each.0, keys_all P bs each.1)

pub all_keys : (P : ℕ × ℕ → Type 0) (bs : List BankTrace) → AllByRecursion (λ (b : BankTrace). P (key b)) bs → AllByRecursion P (map key bs)
all_keys P [] each = tt
all_keys P (b ∷ bs) each = (each.0, all_keys P bs each.1)

-- ---- all banks

-- those of a zone from a bank on
abbrev some_of_zone : ℕ → ℕ → ℕ → List BankTrace
some_of_zone zone from count = map (λ bank. record { zone = zone; bank = bank; entries = [] }) (range_with_len from count)

zone_above : (zone from count low : ℕ) (b : BankTrace) → b.zone ≡ zone → b.bank < low → low ≤ from
    → AllByRecursion (IsBefore b) (some_of_zone zone from count)
zone_above zone from zero low b same below above = tt
zone_above zone from (suc count) low b same below above =
    (inr (same, omega (arith, below, above)), zone_above zone (from + 1) count low b same below (omega (arith, above)))

zone_ascends : (zone from count : ℕ) → Ascend (some_of_zone zone from count)
zone_ascends zone from zero = tt
zone_ascends zone from (suc count) =
    (zone_above zone (from + 1) count (from + 1) (record { zone = zone; bank = from; entries = [] }) refl (omega arith) (omega arith), zone_ascends zone (from + 1) count)

zones_above : (zone from count : ℕ) (bs : List BankTrace) → zone < from → AllByRecursion (λ (b : BankTrace). b.zone ≡ zone) bs
    → AllByRecursion (λ (b : BankTrace). AllByRecursion (IsBefore b) (flat_map fresh_zone (range_with_len from count))) bs
zones_above zone from count [] above each = tt
zones_above zone from count (b ∷ bs) above each =
    (higher zone from count b above each.0, zones_above zone from count bs above each.1)
  where
    one_higher : (zone next from count : ℕ) (b : BankTrace) → zone < next → b.zone ≡ zone → AllByRecursion (IsBefore b) (some_of_zone next from count)
    one_higher zone next from zero b above same = tt
    one_higher zone next from (suc count) b above same = (inl (omega (arith, above, same)), one_higher zone next (from + 1) count b above same)

    higher : (zone from count : ℕ) (b : BankTrace) → zone < from → b.zone ≡ zone → AllByRecursion (IsBefore b) (flat_map fresh_zone (range_with_len from count))
    higher zone from zero b above same = tt
    higher zone from (suc count) b above same =
        all_append (IsBefore b) (fresh_zone from) (flat_map fresh_zone (range_with_len (from + 1) count))
        (one_higher zone from 0 banks b above same) (higher zone (from + 1) count b (omega (arith, above)) same)

ascend_append : (bs cs : List BankTrace) → Ascend bs → Ascend cs → AllByRecursion (λ (b : BankTrace). AllByRecursion (IsBefore b) cs) bs → Ascend (bs ++ cs)
ascend_append [] cs front back between = back
ascend_append (b ∷ bs) cs front back between =
    (all_append (IsBefore b) bs cs front.0 between.0, ascend_append bs cs front.1 back between.1)

in_zone : (zone from count : ℕ) → AllByRecursion (λ (b : BankTrace). b.zone ≡ zone) (some_of_zone zone from count)
in_zone zone from zero = tt
in_zone zone from (suc count) = (refl, in_zone zone (from + 1) count)

zones_ascend : (from count : ℕ) → Ascend (flat_map fresh_zone (range_with_len from count))
zones_ascend from zero = tt
zones_ascend from (suc count) =
    ascend_append (fresh_zone from) (flat_map fresh_zone (range_with_len (from + 1) count)) (zone_ascends from 0 banks) (zones_ascend (from + 1) count)
    (zones_above from (from + 1) count (fresh_zone from) (omega arith) (in_zone from 0 banks))

-- all banks ascend
pub fresh_ascend : Ascend fresh_banks
fresh_ascend = zones_ascend 0 most_zones

zone_there : (zone from count : ℕ) → zone < most_zones → from + count ≤ banks → AllByRecursion (λ (b : BankTrace). IsBank b.zone b.bank) (some_of_zone zone from count)
zone_there zone from zero below within = tt
zone_there zone from (suc count) below within = ((below, omega (arith, within)), zone_there zone (from + 1) count below (omega (arith, within)))

zones_there : (from count : ℕ) → from + count ≤ most_zones → AllByRecursion (λ (b : BankTrace). IsBank b.zone b.bank) (flat_map fresh_zone (range_with_len from count))
zones_there from zero within = tt
zones_there from (suc count) within =
    all_append (λ (b : BankTrace). IsBank b.zone b.bank) (fresh_zone from) (flat_map fresh_zone (range_with_len (from + 1) count))
    (zone_there from 0 banks (omega (arith, within)) (omega arith)) (zones_there (from + 1) count (omega (arith, within)))

-- each of them is there
pub fresh_there : AllByRecursion (λ (b : BankTrace). IsBank b.zone b.bank) fresh_banks
fresh_there = zones_there 0 most_zones (omega arith)

zone_empty : (zone from count : ℕ) → AllByRecursion (λ (b : BankTrace). b.entries ≡ []) (some_of_zone zone from count)
zone_empty zone from zero = tt
zone_empty zone from (suc count) = (refl, zone_empty zone (from + 1) count)

zones_empty : (from count : ℕ) → AllByRecursion (λ (b : BankTrace). b.entries ≡ []) (flat_map fresh_zone (range_with_len from count))
zones_empty from zero = tt
zones_empty from (suc count) =
    all_append (λ (b : BankTrace). b.entries ≡ []) (fresh_zone from) (flat_map fresh_zone (range_with_len (from + 1) count))
    (zone_empty from 0 banks) (zones_empty (from + 1) count)

-- nothing happened to them
pub fresh_empty : AllByRecursion (λ (b : BankTrace). b.entries ≡ []) fresh_banks
fresh_empty = zones_empty 0 most_zones

-- ---- the history of a bank among others

-- behind a bank that is in order there is none with its numbers
none_behind : (zone bank : ℕ) (b : BankTrace) (bs : List BankTrace) → is_of_bank zone bank b ≡ true → AllByRecursion (IsBefore b) bs
    → find (is_of_bank zone bank) bs ≡ None
none_behind zone bank b [] is each = refl
none_behind zone bank b (c ∷ bs) is each = rw (differs zone bank b c is each.0) (none_behind zone bank b bs is each.1)
  where
    differs : (zone bank : ℕ) (b c : BankTrace) → is_of_bank zone bank b ≡ true → IsBefore b c → is_of_bank zone bank c ≡ false
    differs zone bank b c is before = grind (arith, nat_tests)

-- whether banks passed or not, as long as those that have entries pass
pub entries_filter : (bs : List BankTrace) (zone bank : ℕ) → Ascend bs → entries_in (filter has_entries bs) zone bank ≡ entries_in bs zone bank
entries_filter [] zone bank ascend = refl
entries_filter (b ∷ bs) zone bank ascend =
    go (has_entries b) (is_of_bank zone bank b) refl refl (entries_filter bs zone bank ascend.1)
  where
    no_entries : (entries : List BankEntry) → nat_lt 0 (length entries) ≡ false → entries ≡ []
    no_entries [] none = refl
    no_entries (e ∷ entries) none = absurd (grind (arith, nat_tests, none))

    go : (has of : Bool) → has_entries b ≡ has → is_of_bank zone bank b ≡ of → entries_in (filter has_entries bs) zone bank ≡ entries_in bs zone bank
        → entries_or_none (find (is_of_bank zone bank) (cond has (b ∷ filter has_entries bs) (filter has_entries bs)))
        ≡ entries_or_none (cond of (Some b) (find (is_of_bank zone bank) bs))
    go true true has_is of_is rest = rw of_is refl
    go true false has_is of_is rest = rw of_is rest
    go false true has_is of_is rest =
        rest ∙ ap entries_or_none (none_behind zone bank b bs of_is ascend.0) ∙ sym (no_entries b.entries has_is)
    go false false has_is of_is rest = rest
