use Rattle.std.proofs.Common.{◌≡◌, ℕ, List, subst}
use Rattle.chv_defs_memory.specs.BankBook.{BankBook}
use Rattle.chv_defs_memory.specs.LegalBank.{IsLegal}
use Rattle.chv_guest.specs.LentBanks.{bank_at, Lent}
use Rattle.chv_guest.proofs.ZoneBanks.{bank-known, bank-read}
use Rattle.chv_guest.proofs.lent_banks.LentBanks.history.Goals as goal

pub returns-clause-legal : goal.returns-clause-legal
returns-clause-legal c =
    let old : List BankBook = c.self.inside.banks.items in
    let here : c.index.result.now ≡ bank_at old c.args.zone c.args.bank =
    bank-read old c.args.zone c.args.bank c.place_of.result c.index.result.now c.self.invariant.0 c.requires.0 c.requires.1 c.place_of.ensures c.index.ensures in
    let legal : IsLegal (bank_at old c.args.zone c.args.bank).bank (bank_at old c.args.zone c.args.bank).history =
    subst (λ (b : BankBook). IsLegal b.bank b.history) here c.history.ensures.legal in
    subst (λ (zones : Lent). IsLegal c.args.bank (bank_at zones.books c.args.zone c.args.bank).history) c.self.view_is
    (subst (λ (bank : ℕ). IsLegal bank (bank_at old c.args.zone c.args.bank).history) (bank-known old c.args.zone c.args.bank c.self.invariant.0 c.requires.0 c.requires.1) legal)
