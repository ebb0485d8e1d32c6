-- The banks of one zone among all banks.
use Rattle.std.proofs.Common.{◌≡◌, ◌≢◌, ℕ, ◌+◌, ◌-◌, ◌*◌, ◌<◌, ◌≤◌, ◌%◌, ◌⊎◌, inl, inr, ⊎_elim, Bool, true, false, List, [], ◌++◌, length, get_or, set, take, drop, map, sym, ap, subst, ◌∙◌, refl, arith}
use Rattle.std.specs.Prelude.{◌==◌}
use Rattle.std.proofs.lemmas.Bool.{cases_lt}
use Rattle.std.proofs.lemmas.Bool.Decides.{nat_tests}
use Rattle.std.proofs.lemmas.Nat.{mul-add-lt, div-mul-add, mod-mul-add}
use Rattle.std.proofs.lemmas.List.{length-take, length-take-le, length-map, length-drop, length-append, get_or-append_right, get_or_append_left, get_or-map, get_or-take, get_or-drop, get_or_default, get_or-set_same, get_or-set_other, length-set}
use Rattle.std.proofs.lemmas.List.FromFn.{length-map-range_with_len, get_or-map-range_with_len}
use Rattle.std.proofs.Math.Nat.{mul-le-mul_right}
use Rattle.chv_defs_memory.specs.declared.bank.BankEntry.{BankEntry}
use Rattle.chv_defs_memory.specs.BankState.{banks}
use Rattle.chv_defs_memory.specs.BankBook.{BankBook, fresh}
use Rattle.chv_defs_memory.specs.LegalBank.{IsLegal}
use Rattle.chv_defs_memory.specs.LentHistory.{IsLentTo}
use Rattle.chv_defs_memory.specs.Zones.{most_zones}
use Rattle.chv_defs_memory.proofs.LentLaws.{lent-new}
use Rattle.chv_guest.specs.LentBanks.{bank_at, bank_count, change_zone, fresh_at, fresh_banks, known_at, AreAllBanks, AreLentTo, IsBankAt}

-- ---- lists, a part of which is changed

-- some values from a place on are changed
abbrev pub changed : {X : Type 0} → ℕ → ℕ → (X → X) → List X → List X
changed from count change xs = take from xs ++ (map change (take count (drop from xs)) ++ drop count (drop from xs))

pub length-changed : {X : Type 0} (from count : ℕ) (change : X → X) (xs : List X) → length (changed from count change xs) ≡ length xs
length-changed from count change xs =
    simp (length-append, length-map, length-take, length-drop) (omega arith)

pub changed-inside : {X : Type 0} (from count k : ℕ) (change : X → X) (xs : List X) (d : X) → k < count → from + count ≤ length xs → get_or (changed from count change xs) (from + k) d ≡ change (get_or xs (from + k) d)
changed-inside from count k change xs d inside fit =
    let front : length (take from xs) ≡ from = length-take-le from xs (omega arith) in
    let rest : length (drop from xs) ≡ length xs - from = length-drop from xs in
    let part : length (take count (drop from xs)) ≡ count = length-take-le count (drop from xs) (omega arith) in
    let long : length (map change (take count (drop from xs))) ≡ count = length-map (take count (drop from xs)) change ∙ part in
    let here : from + k - from ≡ k = omega arith in
    get_or-append_right (take from xs) (map change (take count (drop from xs)) ++ drop count (drop from xs)) from (from + k) d front (omega arith)
    ∙ ap (λ (i : ℕ). get_or (map change (take count (drop from xs)) ++ drop count (drop from xs)) i d) here
    ∙ get_or_append_left (map change (take count (drop from xs))) (drop count (drop from xs)) d k (omega arith)
    ∙ get_or-map change (take count (drop from xs)) k d d (omega arith)
    ∙ ap change (get_or-take count (drop from xs) k d inside ∙ get_or-drop from xs k d)

pub changed-below : {X : Type 0} (from count k : ℕ) (change : X → X) (xs : List X) (d : X) → k < from → from + count ≤ length xs → get_or (changed from count change xs) k d ≡ get_or xs k d
changed-below from count k change xs d below fit =
    let front : length (take from xs) ≡ from = length-take-le from xs (omega arith) in
    get_or_append_left (take from xs) (map change (take count (drop from xs)) ++ drop count (drop from xs)) d k (omega arith)
    ∙ get_or-take from xs k d below

pub changed-above : {X : Type 0} (from count k : ℕ) (change : X → X) (xs : List X) (d : X) → from + count ≤ k → from + count ≤ length xs → get_or (changed from count change xs) k d ≡ get_or xs k d
changed-above from count k change xs d above fit =
    let front : length (take from xs) ≡ from = length-take-le from xs (omega arith) in
    let rest : length (drop from xs) ≡ length xs - from = length-drop from xs in
    let part : length (take count (drop from xs)) ≡ count = length-take-le count (drop from xs) (omega arith) in
    let long : length (map change (take count (drop from xs))) ≡ count = length-map (take count (drop from xs)) change ∙ part in
    let here : from + (count + (k - from - count)) ≡ k = omega arith in
    get_or-append_right (take from xs) (map change (take count (drop from xs)) ++ drop count (drop from xs)) from k d front (omega arith)
    ∙ get_or-append_right (map change (take count (drop from xs))) (drop count (drop from xs)) count (k - from) d long (omega arith)
    ∙ get_or-drop count (drop from xs) (k - from - count) d
    ∙ get_or-drop from xs (count + (k - from - count)) d
    ∙ ap (λ (i : ℕ). get_or xs i d) here

-- ---- places

-- the banks of different zones stand apart
pub apart : (n z b z' b' : ℕ) → b < n → b' < n → z ≢ z' → (z * n + b < z' * n) ⊎ (z' * n + n ≤ z * n + b)
apart n z b z' b' in' in'' ne =
    ⊎_elim
    (λ (below : z < z'). inl (let up : z + 1 ≤ z' = omega arith in let next : (z + 1) * n ≤ z' * n = mul-le-mul_right n up in omega arith))
    (λ (above : z' ≤ z). inr (let up : z' + 1 ≤ z = omega arith in let next : (z' + 1) * n ≤ z * n = mul-le-mul_right n up in omega arith))
    (cases_lt z z')

-- each bank has a place among all
pub place-fits : (zone bank : ℕ) → zone < most_zones → bank < banks → zone * banks + bank < bank_count
place-fits zone bank known inside = omega (arith, mul-add-lt zone banks bank most_zones known inside)

-- and so has each zone
pub zone-fits : (zone : ℕ) → zone < most_zones → zone * banks + banks ≤ bank_count
zone-fits zone known = omega (arith, mul-add-lt zone banks 0 most_zones known (omega arith))

pub at-place : (books : List BankBook) (zone bank : ℕ) → AreAllBanks books → zone < most_zones → bank < banks → IsBankAt (zone * banks + bank) (bank_at books zone bank)
at-place books zone bank all known inside =
    let fits = place-fits zone bank known inside in
    subst (λ (b : BankBook). IsBankAt (zone * banks + bank) b)
    (get_or_default books (zone * banks + bank) (fresh 0 0) (fresh zone bank) (omega (arith, all.all)))
    (all.each (zone * banks + bank) fits)

-- the bank of a zone knows which one it is
pub zone-known : (books : List BankBook) (zone bank : ℕ) → AreAllBanks books → zone < most_zones → bank < banks → (bank_at books zone bank).zone ≡ zone
zone-known books zone bank all known inside = (at-place books zone bank all known inside).zone ∙ div-mul-add zone banks bank inside

pub bank-known : (books : List BankBook) (zone bank : ℕ) → AreAllBanks books → zone < most_zones → bank < banks → (bank_at books zone bank).bank ≡ bank
bank-known books zone bank all known inside = (at-place books zone bank all known inside).bank ∙ mod-mul-add zone banks bank inside

-- what is known of it is a legal history
pub legal-known : (books : List BankBook) (zone bank : ℕ) → AreAllBanks books → zone < most_zones → bank < banks → IsLegal bank (known_at books zone bank).history
legal-known books zone bank all known inside =
    subst (λ (n : ℕ). IsLegal n (bank_at books zone bank).history) (bank-known books zone bank all known inside) (at-place books zone bank all known inside).legal

-- the bank that was read at its place
pub bank-read : (books : List BankBook) (zone bank place : ℕ) (b : BankBook) → AreAllBanks books → zone < most_zones → bank < banks → place ≡ zone * banks + bank → b ≡ get_or books place b → b ≡ bank_at books zone bank
bank-read books zone bank place b all known inside here read =
    read ∙ ap (λ (p : ℕ). get_or books p b) here ∙ get_or_default books (zone * banks + bank) b (fresh zone bank) (omega (arith, place-fits zone bank known inside, all.all))

-- the bank that was written there
pub bank-set : (books : List BankBook) (zone bank place : ℕ) (b : BankBook) → AreAllBanks books → zone < most_zones → bank < banks → place ≡ zone * banks + bank → bank_at (set books place b) zone bank ≡ b
bank-set books zone bank place b all known inside here =
    ap (λ (p : ℕ). bank_at (set books p b) zone bank) here
    ∙ get_or-set_same books (zone * banks + bank) b (fresh zone bank) (omega (arith, place-fits zone bank known inside, all.all))

-- ---- one bank is changed

other-place : (i p : ℕ) → (i == p) ≡ false → i ≢ p
other-place i p e same = grind (arith, nat_tests)

-- what holds of each bank by its place
abbrev pub ForEach : (ℕ → BankBook → Type 0) → List BankBook → Type 0
ForEach P books = (place : ℕ) → place < bank_count → P place (get_or books place (fresh 0 0))

-- still holds where one is put for which it does
each-put : (P : ℕ → BankBook → Type 0) (books : List BankBook) (p : ℕ) (b : BankBook) → length books ≡ bank_count → p < bank_count → P p b → ForEach P books → ForEach P (set books p b)
each-put P books p b all fits is each = λ i low. by i low (i == p) refl
  where
    by : (i : ℕ) → i < bank_count → (v : Bool) → (i == p) ≡ v → P i (get_or (set books p b) i (fresh 0 0))
    by i low true e =
        let same : p ≡ i = grind (arith, nat_tests) in
        subst (λ (n : ℕ). P n (get_or (set books p b) n (fresh 0 0))) same
        (subst (λ (x : BankBook). P p x) (sym (get_or-set_same books p b (fresh 0 0) (omega (arith, all)))) is)
    by i low false e =
        subst (λ (x : BankBook). P i x) (sym (get_or-set_other books p i b (fresh 0 0) (other-place i p e))) (each i low)

-- a bank in place of one, with a legal history, leaves these all banks
pub AreAllBanks-put : (books : List BankBook) (zone bank place : ℕ) (b : BankBook) → AreAllBanks books → zone < most_zones → bank < banks → place ≡ zone * banks + bank
    → b.zone ≡ (bank_at books zone bank).zone → b.bank ≡ (bank_at books zone bank).bank → IsLegal b.bank b.history → AreAllBanks (set books place b)
AreAllBanks-put books zone bank place b all known inside here zone_is bank_is legal =
    let at : IsBankAt (zone * banks + bank) (bank_at books zone bank) = at-place books zone bank all known inside in
    subst (λ (p : ℕ). AreAllBanks (set books p b)) (sym here)
    (record {
      all = length-set books (zone * banks + bank) b ∙ all.all;
      each = each-put IsBankAt books (zone * banks + bank) b all.all (place-fits zone bank known inside)
          (record { zone = zone_is ∙ at.zone; bank = bank_is ∙ at.bank; legal = legal }) all.each;
    })

-- and lent to the same contexts where its history is
pub AreLentTo-put : (lent : List ℕ) (books : List BankBook) (zone bank place : ℕ) (b : BankBook) → AreAllBanks books → zone < most_zones → bank < banks → place ≡ zone * banks + bank
    → IsLentTo lent b.history → AreLentTo lent books → AreLentTo lent (set books place b)
AreLentTo-put lent books zone bank place b all known inside here is lent_to =
    subst (λ (p : ℕ). AreLentTo lent (set books p b)) (sym here)
    (record {
      callers = lent_to.callers;
      each = each-put (λ (p : ℕ) (x : BankBook). IsLentTo lent x.history) books (zone * banks + bank) b all.all (place-fits zone bank known inside) is lent_to.each;
    })

-- ---- a zone is changed

-- a change of a bank that leaves which one it is, and its history
pub record KeepsBook (change : BankBook → BankBook) : Type 0 where
  pub zone : (b : BankBook) → (change b).zone ≡ b.zone
  pub bank : (b : BankBook) → (change b).bank ≡ b.bank
  pub history : (b : BankBook) → (change b).history ≡ b.history

-- the bank stays the one of its place
IsBankAt-change : (place : ℕ) (change : BankBook → BankBook) (b : BankBook) → KeepsBook change → IsBankAt place b → IsBankAt place (change b)
IsBankAt-change place change b keeps here = record {
  zone = keeps.zone b ∙ here.zone;
  bank = keeps.bank b ∙ here.bank;
  legal = subst (λ (n : ℕ). IsLegal n (change b).history) (sym (keeps.bank b)) (subst (λ (h : List BankEntry). IsLegal b.bank h) (sym (keeps.history b)) here.legal);
}

pub bank_at-changed : (books : List BankBook) (zone bank : ℕ) (change : BankBook → BankBook) → AreAllBanks books → zone < most_zones → bank < banks → bank_at (change_zone zone change books) zone bank ≡ change (bank_at books zone bank)
bank_at-changed books zone bank change all known inside =
    changed-inside (zone * banks) banks bank change books (fresh zone bank) inside (omega (arith, zone-fits zone known, all.all))

pub bank_at-other : (books : List BankBook) (zone z b : ℕ) (change : BankBook → BankBook) → AreAllBanks books → zone < most_zones → b < banks → z ≢ zone → bank_at (change_zone zone change books) z b ≡ bank_at books z b
bank_at-other books zone z b change all known inside ne =
    let fits : zone * banks + banks ≤ length books = omega (arith, zone-fits zone known, all.all) in
    ⊎_elim
    (λ below. changed-below (zone * banks) banks (z * banks + b) change books (fresh z b) below fits)
    (λ above. changed-above (zone * banks) banks (z * banks + b) change books (fresh z b) above fits)
    (apart banks z b zone 0 inside (omega arith) ne)

-- what holds of each bank holds where a zone is changed, if the change leaves it
each-changed : (P : ℕ → BankBook → Type 0) (books : List BankBook) (zone : ℕ) (change : BankBook → BankBook) → ((place : ℕ) (b : BankBook) → P place b → P place (change b)) → zone < most_zones → length books ≡ bank_count
    → ForEach P books → ForEach P (change_zone zone change books)
each-changed P books zone change kept known all each =
    let fits : zone * banks + banks ≤ length books = omega (arith, zone-fits zone known, all) in
    λ place here.
    ⊎_elim
    (λ (below : place < zone * banks). subst (λ (b : BankBook). P place b)
    (sym (changed-below (zone * banks) banks place change books (fresh 0 0) below fits)) (each place here))
    (λ (from : zone * banks ≤ place). ⊎_elim
    (λ (inside : place < zone * banks + banks).
    let at : zone * banks + (place - zone * banks) ≡ place = omega arith in
    subst (λ (p : ℕ). P place (get_or (change_zone zone change books) p (fresh 0 0))) at
    (subst (λ (b : BankBook). P place b)
    (sym (changed-inside (zone * banks) banks (place - zone * banks) change books (fresh 0 0) (omega arith) fits))
    (kept place (get_or books (zone * banks + (place - zone * banks)) (fresh 0 0))
    (subst (λ (p : ℕ). P place (get_or books p (fresh 0 0))) (sym at) (each place here)))))
    (λ (above : zone * banks + banks ≤ place). subst (λ (b : BankBook). P place b)
    (sym (changed-above (zone * banks) banks place change books (fresh 0 0) above fits)) (each place here))
    (cases_lt place (zone * banks + banks)))
    (cases_lt place (zone * banks))

pub AreAllBanks-changed : (books : List BankBook) (zone : ℕ) (change : BankBook → BankBook) → KeepsBook change → zone < most_zones → AreAllBanks books → AreAllBanks (change_zone zone change books)
AreAllBanks-changed books zone change keeps known all = record {
  all = length-changed (zone * banks) banks change books ∙ all.all;
  each = each-changed IsBankAt books zone change (λ place b is. IsBankAt-change place change b keeps is) known all.all all.each;
}

pub AreLentTo-changed : (lent : List ℕ) (books : List BankBook) (zone : ℕ) (change : BankBook → BankBook) → KeepsBook change → zone < most_zones → AreAllBanks books → AreLentTo lent books → AreLentTo lent (change_zone zone change books)
AreLentTo-changed lent books zone change keeps known all lent_to = record {
  callers = lent_to.callers;
  each = each-changed (λ (p : ℕ) (b : BankBook). IsLentTo lent b.history) books zone change
      (λ place b is. subst (λ (h : List BankEntry). IsLentTo lent h) (sym (keeps.history b)) is) known all.all lent_to.each;
}

-- ---- nothing happened yet

nothing-legal : (bank : ℕ) → IsLegal bank []
nothing-legal bank i e there = cc

pub AreAllBanks-fresh : AreAllBanks fresh_banks
AreAllBanks-fresh = record {
  all = length-map-range_with_len fresh_at 0 bank_count;
  each = λ place here. subst (λ (b : BankBook). IsBankAt place b) (sym (get_or-map-range_with_len fresh_at 0 bank_count place place (fresh 0 0) here (omega arith)))
      (record { zone = refl; bank = refl; legal = nothing-legal (place % banks) });
}

pub AreLentTo-fresh : AreLentTo [] fresh_banks
AreLentTo-fresh = record {
  callers = refl;
  each = λ place here. subst (λ (b : BankBook). IsLentTo [] b.history) (sym (get_or-map-range_with_len fresh_at 0 bank_count place place (fresh 0 0) here (omega arith)))
      lent-new;
}
