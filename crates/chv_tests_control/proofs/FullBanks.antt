-- A bank whose places are used up, and two zones at rest.
use Rattle.std.proofs.Common.{◌≡◌, ℕ, zero, suc, ◌+◌, ◌-◌, ◌<◌, false, List, [], length, refl, sym, ◌∙◌, ap, subst, arith}
use Rattle.std.specs.Prelude.{◌==◌, ◌&&◌}
use Rattle.chv_defs_memory.specs.declared.bank.BankCall.TheVariants as call
use Rattle.chv_defs_memory.specs.declared.bank.BankReply.{BankReply}
use Rattle.chv_defs_memory.specs.declared.bank.Span.{Span}
use Rattle.chv_defs_memory.specs.BankState.{banks, is_frozen}
use Rattle.chv_defs_memory.specs.BankBook.{owner_reply}
use Rattle.chv_defs_memory.specs.Zones.{Enters, Known, OtherBanksStay, OtherZonesStay}
use Rattle.chv_defs_memory.proofs.GoingOn.{frozen-entry}
use Rattle.chv_defs_control.specs.declared.machine.Machine.{Machine}
use Rattle.chv_defs_control.specs.OwnerCalls.{zones_of}
use Rattle.chv_ctl_mem.specs.ZoneCalls.{AreAsBefore, AreAtRest, IsAtRestSo}
use Rattle.chv_guest.specs.LentBanks.{fresh_zones, known_at, Lent}
use Rattle.chv_guest.proofs.SameBanks.{fresh-known}
use Rattle.chv_guest.proofs.NoOthers.{call_made}

-- ---- places are used

-- A bank that is not frozen, with this many places reserved and no page.
pub record HasLeft (places : ℕ) (known : Known) : Type 0 where
  pub thawed : is_frozen known.history ≡ false
  pub entries : known.entries ≡ places
  pub pages : known.pages ≡ 0

-- one place less
pub one-used : (lent : List ℕ) (places : ℕ) (before after : Known) (span : Span) (r : BankReply) → lent ≡ [] → HasLeft (places + 1) before → Enters lent 0 before after (call.Unseal span) r → HasLeft places after
one-used lent places before after span r home left entered =
    let made = call_made lent 0 before after (call.Unseal span) r home entered in
    record {
      thawed = ap (λ (k : Known). is_frozen k.history) made ∙ frozen-entry before.history (call.Unseal span) (owner_reply 0 before.history (call.Unseal span)) ∙ left.thawed;
      entries = ap (λ (k : Known). k.entries) made ∙ (let less : before.entries - 1 ≡ places = omega (arith, left.entries) in less);
      pages = ap (λ (k : Known). k.pages) made ∙ (let none : before.pages - 0 ≡ 0 = omega (arith, left.pages) in none);
    }

-- what leaves the other zones, and then the other banks of this one and all others, leaves the other zones
pub others-behind : (before now after : ℕ → ℕ → Known) (zone : ℕ) → OtherZonesStay before now zone → OtherBanksStay now after zone 0 → OtherZonesStay before after zone
others-behind before now after zone first second z b is other =
    let apart : (z == zone && b == 0) ≡ false = rw other refl in
    second z b is apart ∙ first z b is other

-- ---- two zones

-- both at rest
pub two-at-rest : (m : Machine) (known : ℕ → ℕ → Known) → length (zones_of m) ≡ 2 → IsAtRestSo false (known 0 0) → IsAtRestSo false (known 1 0) → AreAtRest false m known
two-at-rest m known two low high z b zone bank =
    let lowest : b ≡ 0 = omega (arith, bank) in
    subst (λ (b : ℕ). IsAtRestSo false (known z b)) (sym lowest) (by z (omega (arith, zone, two)))
  where
    by : (z : ℕ) → z < 2 → IsAtRestSo false (known z 0)
    by zero below = low
    by (suc zero) below = high
    by (suc (suc z)) below = absurd (omega (arith, below))

-- the first untouched, the second at rest behind what was done there
pub second-done : (m : Machine) (zones : Lent) (before after : ℕ → ℕ → Known) → length (zones_of m) ≡ 2 → zones ≡ fresh_zones → before ≡ known_at zones.books
    → OtherZonesStay before after 1 → IsAtRestSo false (after 1 0) → AreAtRest false m after
second-done m zones before after two fresh is others done =
    let lowest : after 0 0 ≡ record { history = []; entries = 0; pages = 0 } =
    others 0 0 (omega arith, omega arith) refl
    ∙ ap (λ (known : ℕ → ℕ → Known). known 0 0) is
    ∙ ap (λ (z : Lent). known_at z.books 0 0) fresh
    ∙ fresh-known 0 0 (omega arith, omega arith) in
    two-at-rest m after two (subst (IsAtRestSo false) (sym lowest) (record { rest = refl; frozen_so = refl })) done

-- and still so where all is as before
pub rest-stays : (m : Machine) (before after : ℕ → ℕ → Known) → length (zones_of m) ≡ 2 → AreAtRest false m before → AreAsBefore before after → AreAtRest false m after
rest-stays m before after two rest same z b zone bank =
    subst (IsAtRestSo false) (sym (same z b (omega (arith, zone, two), bank))) (rest z b zone bank)
