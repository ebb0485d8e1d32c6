use Rattle.std.proofs.Common.{◌≡◌, ℕ, false, sym, subst}
use Rattle.chv_defs_memory.specs.BankState.{is_frozen}
use Rattle.chv_defs_memory.specs.Lending.{is_in}
use Rattle.chv_defs_memory.specs.Zones.{IsBank}
use Rattle.chv_defs_memory.proofs.LentLaws.{lent-unpinned}
use Rattle.chv_guest.specs.LentBanks.{bank_at, known_at, Lent}
use Rattle.chv_guest.proofs.LentZones.{lent-at, AreLentTo-lend}
use Rattle.chv_guest.proofs.lent_banks.LentBanksLendsUnit.lend.Goals as goal

pub invariant_of-self : goal.invariant_of-self
invariant_of-self c =
    let thawed : (zone bank : ℕ) → IsBank zone bank → is_frozen (known_at c.self.inside.banks.items zone bank).history ≡ false =
    subst (λ (zones : Lent). (zone bank : ℕ) → IsBank zone bank → is_frozen (known_at zones.books zone bank).history ≡ false) (sym c.self.view_is) c.requires.thawed in (
      c.self.invariant.0,
      AreLentTo-lend c.self.inside.lent c.insert.new.self c.self.inside.banks.items c.args.caller c.self.invariant.0 c.requires.caller c.insert.ensures thawed c.self.invariant.1,
    )

pub returns-clause-unpinned : goal.returns-clause-unpinned
returns-clause-unpinned c = λ zone bank is.
    let home : is_in c.args.caller c.self.inside.lent ≡ false = subst (λ (zones : Lent). is_in c.args.caller zones.lent ≡ false) (sym c.self.view_is) c.requires.home in
    lent-unpinned c.self.inside.lent c.args.caller (bank_at c.self.inside.banks.items zone bank).history home
    (lent-at c.self.inside.lent c.self.inside.banks.items zone bank c.self.invariant.0 c.self.invariant.1 is.0 is.1)
