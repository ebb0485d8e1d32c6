-- Banks of which only that of zone 0 has entries, and without a pin.
use Rattle.std.proofs.Common.{◌≡◌, ℕ, ◌==◌, Bool, true, false, [], refl, sym, ap, subst, arith}
use Rattle.std.specs.Prelude.{◌&&◌, not}
use Rattle.std.specs.List.{list_all}
use Rattle.std.proofs.lemmas.Bool.{and_parts}
use Rattle.std.proofs.lemmas.Bool.Decides.{nat_tests}
use Rattle.chv_defs_memory.specs.BankState.{pins_of, PinOut}
use Rattle.chv_defs_memory.specs.Lending.{HasNoPinBy}
use Rattle.chv_defs_memory.specs.Zones.{IsBank}
use Rattle.chv_guest.specs.LentBanks.{known_at, Lent}
use Rattle.chv_tests_memory.specs.LentZones.{IsOnlyFirst}

is-zero : (n : ℕ) → (n == 0) ≡ true → n ≡ 0
is-zero n e = grind (arith, nat_tests, e)

no-pin-at : (caller zone bank : ℕ) (zones : Lent) (here : Bool) → (zone == 0 && bank == 0) ≡ here → IsBank zone bank → IsOnlyFirst zones → pins_of (known_at zones.books 0 0).history ≡ [] → HasNoPinBy caller (known_at zones.books zone bank).history
no-pin-at caller zone bank zones true at is first pins =
    let parts = and_parts (zone == 0) (bank == 0) at in
    let zone_is : 0 ≡ zone = sym (is-zero zone parts.0) in
    let bank_is : 0 ≡ bank = sym (is-zero bank parts.1) in
    let passes : PinOut → Bool = λ pin. not (pin.caller == caller) in
    subst (λ (z : ℕ). HasNoPinBy caller (known_at zones.books z bank).history) zone_is
    (subst (λ (b : ℕ). HasNoPinBy caller (known_at zones.books 0 b).history) bank_is (ap (list_all passes) pins))
no-pin-at caller zone bank zones false at is first pins =
    let passes : PinOut → Bool = λ pin. not (pin.caller == caller) in
    ap (λ h. list_all passes (pins_of h)) (first zone bank is at)

-- no caller has a pin in any of them
pub no-pin : (caller zone bank : ℕ) (zones : Lent) → IsBank zone bank → IsOnlyFirst zones → pins_of (known_at zones.books 0 0).history ≡ [] → HasNoPinBy caller (known_at zones.books zone bank).history
no-pin caller zone bank zones is first pins = no-pin-at caller zone bank zones (zone == 0 && bank == 0) refl is first pins
