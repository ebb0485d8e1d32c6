use Rattle.std.proofs.Common.{◌≡◌, ℕ, true, [], refl, sym, subst}
use Rattle.chv_defs_memory.specs.Lending.{is_in, HasNoPinBy}
use Rattle.chv_defs_memory.specs.Zones.{IsBank, OnlySeesMore}
use Rattle.chv_guest.specs.LentBanks.{known_at, Lent}
use Rattle.chv_guest.proofs.KnownBanks.{stays}
use Rattle.chv_guest.proofs.LentZones.{AreLentTo-back}
use Rattle.chv_guest.proofs.ZoneBanks.{legal-known}
use Rattle.chv_guest.proofs.lent_banks.LentBanksLendsUnit.back.Goals as goal

pub invariant_of-self : goal.invariant_of-self
invariant_of-self c =
    let out : is_in c.args.caller c.self.inside.lent ≡ true = subst (λ (zones : Lent). is_in c.args.caller zones.lent ≡ true) (sym c.self.view_is) c.requires.lent in
    let none : (zone bank : ℕ) → IsBank zone bank → HasNoPinBy c.args.caller (known_at c.self.inside.banks.items zone bank).history =
    subst (λ (zones : Lent). (zone bank : ℕ) → IsBank zone bank → HasNoPinBy c.args.caller (known_at zones.books zone bank).history) (sym c.self.view_is) c.requires.unpinned in (
      c.self.invariant.0,
      AreLentTo-back c.self.inside.lent c.remove.new.self c.self.inside.banks.items c.args.caller c.self.invariant.0 out c.remove.ensures none c.self.invariant.1,
    )

pub returns-clause-known : goal.returns-clause-known
returns-clause-known c = λ zone bank is.
    subst (λ (zones : Lent). OnlySeesMore [] (known_at zones.books zone bank) (known_at c.self.inside.banks.items zone bank)) c.self.view_is
    (stays [] (known_at c.self.inside.banks.items zone bank).history (known_at c.self.inside.banks.items zone bank).history refl, refl)

pub returns-clause-legal : goal.returns-clause-legal
returns-clause-legal c = λ zone bank is. legal-known c.self.inside.banks.items zone bank c.self.invariant.0 is.0 is.1
