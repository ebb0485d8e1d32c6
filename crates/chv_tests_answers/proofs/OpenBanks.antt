-- Banks of which one was shaped, and nothing else happened.
use Rattle.std.proofs.Common.{◌≡◌, ◌∙◌, ℕ, ◌==◌, Bool, true, false, List, [], ◌∷◌, refl, ap, arith, subst}
use Rattle.std.specs.Prelude.{◌&&◌}
use Rattle.std.proofs.lemmas.Bool.{eqb-true}
use Rattle.chv_defs_memory.specs.BankState.{is_frozen}
use Rattle.chv_defs_memory.specs.Zones.{IsBank, Known, OtherBanksStay, OtherZonesStay}
use Rattle.chv_guest.specs.LentBanks.{fresh_banks, known_at}
use Rattle.chv_guest.proofs.SameBanks.{fresh-known}

-- none of them is frozen
pub none_frozen : (room opened : ℕ → ℕ → Known) → OtherZonesStay (known_at fresh_banks) room 0 → OtherBanksStay room opened 0 0
    → is_frozen (opened 0 0).history ≡ false → (zone bank : ℕ) → IsBank zone bank → is_frozen (opened zone bank).history ≡ false
none_frozen room opened zones others first zone bank is = at (zone == 0) refl
  where
    at : (t : Bool) → (zone == 0) ≡ t → is_frozen (opened zone bank).history ≡ false
    at true e =
        let z : zone ≡ 0 = eqb-true zone 0 e in
        let b : bank ≡ 0 = omega arith in
        ap (λ n. is_frozen (opened n bank).history) z ∙ ap (λ n. is_frozen (opened 0 n).history) b ∙ first
    at false e =
        ap (λ (k : Known). is_frozen k.history)
        (others zone bank is (ap (λ t. t && (bank == 0)) e) ∙ zones zone bank is e ∙ fresh-known zone bank is)
