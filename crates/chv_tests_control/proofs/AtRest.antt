-- Banks to which nothing happened yet are at rest.
use Rattle.std.proofs.Common.{◌≡◌, ℕ, ◌<◌, ◌≤◌, Bool, true, false, [], ◌∷◌, Option, None, Some, refl, sym, subst, arith, length}
use Rattle.std.specs.Prelude.{◌&&◌, nat_le}
use Rattle.std.proofs.lemmas.Bool.Decides.{nat_tests}
use Rattle.chv_defs_memory.specs.declared.bank.BankCall.TheVariants as call
use Rattle.chv_defs_memory.specs.declared.bank.BankReply.TheVariants as reply
use Rattle.chv_defs_api.specs.declared.config.Checked.{Checked}
use Rattle.chv_defs_control.specs.declared.machine.Machine.{Machine}
use Rattle.chv_defs_control.specs.declared.machine.Life.{Life}
use Rattle.chv_defs_control.specs.declared.machine.Life.TheVariants as life
use Rattle.chv_defs_control.specs.ApiStep.{is_paused}
use Rattle.chv_defs_memory.specs.BankState.{banks}
use Rattle.chv_defs_control.specs.Machine.{HasChecked, IsUnpaused}
use Rattle.chv_defs_control.specs.OwnerCalls.{zones_in, zones_of}
use Rattle.chv_defs_memory.specs.Zones.{Known}
use Rattle.chv_guest.specs.LentBanks.{fresh_banks, known_at}
use Rattle.chv_guest.proofs.SameBanks.{fresh-known}
use Rattle.chv_addr.proofs.Limits.{checked-within}
use Rattle.chv_ctl_mem.specs.ZoneCalls.{AreAtRest, IsAtRestSo}

first : (a b : Bool) → (a && b) ≡ true → a ≡ true
first true b e = refl
first false b e = e

-- a checked configuration has at most 8 zones
few_zones : (config : Option Checked) → HasChecked config → length (zones_in config) ≤ 8
few_zones None checked = omega arith
few_zones (Some now) checked = at_most _ (first _ _ (checked-within now checked))
  where
    at_most : (n : ℕ) → nat_le n 8 ≡ true → n ≤ 8
    at_most n e = grind (arith, nat_tests)

pub fresh-at-rest : (m : Machine) → HasChecked m.config → AreAtRest false m (known_at fresh_banks)
fresh-at-rest m checked z b zone bank =
    let few = few_zones m.config checked in
    subst (IsAtRestSo false) (sym (fresh-known z b (omega (arith, zone, few), bank))) (record { rest = refl; frozen_so = refl })

-- no machine is paused so far
pub unpaused : (l : Life) → IsUnpaused l → is_paused l ≡ false
unpaused life.None u = refl
unpaused life.Created u = refl
unpaused life.Running u = refl
unpaused (life.Hold holder goal) u = refl
unpaused life.Paused u = absurd u
unpaused life.Shutdown u = refl

-- ---- two zones that are frozen

-- a bank that was frozen, with a place for its Thaw
abbrev pub frozen_bank : Known
frozen_bank = record {
  history = record { caller = 0; call = call.Freeze; reply = reply.Done } ∷ [];
  entries = 1;
  pages = 0;
}

pub frozen-at-rest : (m : Machine) (known : ℕ → ℕ → Known) → length (zones_of m) ≡ 2 → ((z : ℕ) → z < 2 → known z 0 ≡ frozen_bank) → AreAtRest true m known
frozen-at-rest m known two frozen z b zone bank =
    let lowest : b ≡ 0 = omega (arith, bank) in
    subst (λ (b : ℕ). IsAtRestSo true (known z b)) (sym lowest)
    (subst (IsAtRestSo true) (sym (frozen z (omega (arith, zone, two)))) (record { rest = refl; frozen_so = refl }))
