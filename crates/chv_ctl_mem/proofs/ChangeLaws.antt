-- Changes of banks, one after another.
use Rattle.std.proofs.Common.{◌≡◌, ℕ, ◌+◌, ◌<◌, ◌≤◌, Bool, true, false, refl, sym, ◌∙◌, ap, arith}
use Rattle.std.specs.Prelude.{◌==◌, ◌&&◌, ◌||◌, nat_lt, if◌then◌else◌}
use Rattle.std.proofs.lemmas.Bool.Decides.{nat_tests}
use Rattle.chv_defs_memory.specs.BankState.{banks}
use Rattle.chv_defs_memory.specs.Zones.{IsBank, Known, OtherBanksStay, OtherZonesStay}
use Rattle.chv_ctl_mem.specs.BankChanges.{is_bank, is_bank_below, is_in_zone, is_in_zone_below, AreChanged}

or-first : (a b : Bool) → (a || b) ≡ true → b ≡ false → a ≡ true
or-first true b h e = refl
or-first false b h e = sym e ∙ h

or-neither : (a b : Bool) → (a || b) ≡ false → (a ≡ false) × (b ≡ false)
or-neither true b h = cc
or-neither false b h = (refl, h)

-- where a test holds
pub there : (at : ℕ → ℕ → Bool) (change : ℕ → ℕ → Known → Known) (before after : ℕ → ℕ → Known) (z b : ℕ) → AreChanged at change before after → IsBank z b → at z b ≡ true → after z b ≡ change z b (before z b)
there at change before after z b h bank holds =
    let e : after z b ≡ (if at z b then change z b (before z b) else before z b) = h.each z b bank in
    e ∙ ap (λ (t : Bool). if t then change z b (before z b) else before z b) holds

-- where it does not
pub elsewhere : (at : ℕ → ℕ → Bool) (change : ℕ → ℕ → Known → Known) (before after : ℕ → ℕ → Known) (z b : ℕ) → AreChanged at change before after → IsBank z b → at z b ≡ false → after z b ≡ before z b
elsewhere at change before after z b h bank fails =
    let e : after z b ≡ (if at z b then change z b (before z b) else before z b) = h.each z b bank in
    e ∙ ap (λ (t : Bool). if t then change z b (before z b) else before z b) fails

-- where the test holds nowhere, all is as before
pub changed-none : (at : ℕ → ℕ → Bool) (change : ℕ → ℕ → Known → Known) (known : ℕ → ℕ → Known) → ((z b : ℕ) → at z b ≡ false) → AreChanged at change known known
changed-none at change known fails = record {
  each = λ z b bank. sym (ap (λ (t : Bool). if t then change z b (known z b) else known z b) (fails z b));
}

-- from what holds where the test holds, and elsewhere
pub changed-by : (at : ℕ → ℕ → Bool) (change : ℕ → ℕ → Known → Known) (before after : ℕ → ℕ → Known)
    → ((z b : ℕ) → IsBank z b → at z b ≡ true → after z b ≡ change z b (before z b))
    → ((z b : ℕ) → IsBank z b → at z b ≡ false → after z b ≡ before z b)
    → AreChanged at change before after
changed-by at change before after changed stays = record { each = λ z b bank. by z b bank (at z b) refl }
  where
    by : (z b : ℕ) → IsBank z b → (t : Bool) → at z b ≡ t → after z b ≡ (if at z b then change z b (before z b) else before z b)
    by z b bank true holds = changed z b bank holds ∙ sym (ap (λ (t : Bool). if t then change z b (before z b) else before z b) holds)
    by z b bank false fails = stays z b bank fails ∙ sym (ap (λ (t : Bool). if t then change z b (before z b) else before z b) fails)

-- One change in some banks, then the same in others: it is made in both.
pub changed-more : (at here both : ℕ → ℕ → Bool) (change : ℕ → ℕ → Known → Known) (before mid after : ℕ → ℕ → Known)
    → ((z b : ℕ) → here z b ≡ true → at z b ≡ false) → ((z b : ℕ) → both z b ≡ (at z b || here z b))
    → AreChanged at change before mid → AreChanged here change mid after → AreChanged both change before after
changed-more at here both change before mid after apart joined first second = changed-by both change before after changed stays
  where
    changed : (z b : ℕ) → IsBank z b → both z b ≡ true → after z b ≡ change z b (before z b)
    changed z b bank holds = by (here z b) refl
      where
        by : (t : Bool) → here z b ≡ t → after z b ≡ change z b (before z b)
        by true e =
            there here change mid after z b second bank e ∙ ap (change z b) (elsewhere at change before mid z b first bank (apart z b e))
        by false e =
            let was : at z b ≡ true = or-first (at z b) (here z b) (sym (joined z b) ∙ holds) e in
            elsewhere here change mid after z b second bank e ∙ there at change before mid z b first bank was

    stays : (z b : ℕ) → IsBank z b → both z b ≡ false → after z b ≡ before z b
    stays z b bank fails =
        let neither : (at z b ≡ false) × (here z b ≡ false) = or-neither (at z b) (here z b) (sym (joined z b) ∙ fails) in
        elsewhere here change mid after z b second bank neither.1 ∙ elsewhere at change before mid z b first bank neither.0

-- ---- over banks and zones

-- what leaves the other banks as they are
pub changed-bank : (zone bank : ℕ) (change : ℕ → ℕ → Known → Known) (before after : ℕ → ℕ → Known)
    → after zone bank ≡ change zone bank (before zone bank) → OtherBanksStay before after zone bank → AreChanged (is_bank zone bank) change before after
changed-bank zone bank change before after changed others =
    changed-by (is_bank zone bank) change before after (λ z b is holds. at z b (is-both z b holds)) others
  where
    is-both : (z b : ℕ) → is_bank zone bank z b ≡ true → (zone ≡ z) × (bank ≡ b)
    is-both z b holds = (grind (arith, nat_tests), grind (arith, nat_tests))

    at : (z b : ℕ) → (zone ≡ z) × (bank ≡ b) → after z b ≡ change z b (before z b)
    at z b e = rw (← e.0, ← e.1) changed

-- what leaves the other zones as they are
pub changed-zone : (zone : ℕ) (change : ℕ → ℕ → Known → Known) (before after : ℕ → ℕ → Known)
    → ((b : ℕ) → b < banks → after zone b ≡ change zone b (before zone b)) → OtherZonesStay before after zone → AreChanged (is_in_zone zone) change before after
changed-zone zone change before after changed others =
    changed-by (is_in_zone zone) change before after (λ z b is holds. at z b is.1 (is-zone z holds)) others
  where
    is-zone : (z : ℕ) → (z == zone) ≡ true → zone ≡ z
    is-zone z holds = grind (arith, nat_tests)

    at : (z b : ℕ) → b < banks → zone ≡ z → after z b ≡ change z b (before z b)
    at z b below e = rw (← e) (changed b below)

-- no bank is below 0
pub no-bank-below : (zone : ℕ) (change : ℕ → ℕ → Known → Known) (known : ℕ → ℕ → Known) → AreChanged (is_bank_below zone 0) change known known
no-bank-below zone change known = changed-none (is_bank_below zone 0) change known (λ z b. grind (arith, nat_tests))

-- the next bank
pub next-bank : (zone bank : ℕ) (change : ℕ → ℕ → Known → Known) (before mid after : ℕ → ℕ → Known)
    → AreChanged (is_bank_below zone bank) change before mid → AreChanged (is_bank zone bank) change mid after → AreChanged (is_bank_below zone (bank + 1)) change before after
next-bank zone bank change before mid after =
    changed-more (is_bank_below zone bank) (is_bank zone bank) (is_bank_below zone (bank + 1)) change before mid after
    (λ z b e. grind (arith, nat_tests)) (λ z b. grind (arith, nat_tests))

-- a bank that was not reached is as before
pub bank-not-reached : (zone bank : ℕ) (change : ℕ → ℕ → Known → Known) (before after : ℕ → ℕ → Known) → IsBank zone bank
    → AreChanged (is_bank_below zone bank) change before after → after zone bank ≡ before zone bank
bank-not-reached zone bank change before after is h =
    elsewhere (is_bank_below zone bank) change before after zone bank h is (grind (arith, nat_tests))

-- all banks of a zone were reached
pub all-banks : (zone : ℕ) (change : ℕ → ℕ → Known → Known) (before after : ℕ → ℕ → Known)
    → AreChanged (is_bank_below zone banks) change before after → AreChanged (is_in_zone zone) change before after
all-banks zone change before after h =
    changed-by (is_in_zone zone) change before after
    (λ z b is holds. there (is_bank_below zone banks) change before after z b h is (both z b banks is.1 holds))
    (λ z b is fails. elsewhere (is_bank_below zone banks) change before after z b h is (neither z b banks fails))
  where
    both : (z b count : ℕ) → b < count → (z == zone) ≡ true → ((z == zone) && nat_lt b count) ≡ true
    both z b count below holds = grind (arith, nat_tests)

    neither : (z b count : ℕ) → (z == zone) ≡ false → ((z == zone) && nat_lt b count) ≡ false
    neither z b count fails = grind (arith, nat_tests)

-- no zone is below 0
pub no-zone-below : (change : ℕ → ℕ → Known → Known) (known : ℕ → ℕ → Known) → AreChanged (is_in_zone_below 0) change known known
no-zone-below change known = changed-none (is_in_zone_below 0) change known (λ z b. grind (arith, nat_tests))

-- the next zone
pub next-zone : (zone : ℕ) (change : ℕ → ℕ → Known → Known) (before mid after : ℕ → ℕ → Known)
    → AreChanged (is_in_zone_below zone) change before mid → AreChanged (is_in_zone zone) change mid after → AreChanged (is_in_zone_below (zone + 1)) change before after
next-zone zone change before mid after =
    changed-more (is_in_zone_below zone) (is_in_zone zone) (is_in_zone_below (zone + 1)) change before mid after
    (λ z b e. grind (arith, nat_tests)) (λ z b. grind (arith, nat_tests))

-- a zone that was not reached is as before
pub zone-not-reached : (zone count b : ℕ) (change : ℕ → ℕ → Known → Known) (before after : ℕ → ℕ → Known) → IsBank zone b → count ≤ zone
    → AreChanged (is_in_zone_below count) change before after → after zone b ≡ before zone b
zone-not-reached zone count b change before after is not_below h =
    elsewhere (is_in_zone_below count) change before after zone b h is (grind (arith, nat_tests))

-- a zone that was
pub zone-reached : (zone count b : ℕ) (change : ℕ → ℕ → Known → Known) (before after : ℕ → ℕ → Known) → IsBank zone b → zone < count
    → AreChanged (is_in_zone_below count) change before after → after zone b ≡ change zone b (before zone b)
zone-reached zone count b change before after is below h =
    there (is_in_zone_below count) change before after zone b h is (grind (arith, nat_tests))
