use Rattle.std.proofs.Common.{◌≡◌, ℕ, List, sym, ap, subst, ◌∙◌}
use Rattle.chv_defs_memory.specs.BankBook.{with_entry, BankBook}
use Rattle.chv_defs_memory.specs.LegalBank.{IsLegal, OwnerMay}
use Rattle.chv_defs_memory.specs.LentHistory.{IsLentTo}
use Rattle.chv_defs_memory.specs.Zones.{OwnerMayAsk}
use Rattle.chv_defs_memory.proofs.LentLaws.{lent-may, lent-owner}
use Rattle.chv_guest.specs.LentBanks.{bank_at, Lent}
use Rattle.chv_guest.proofs.LentZones.{lent-at}
use Rattle.chv_guest.proofs.ZoneBanks.{bank-known, bank-read, bank-set, AreAllBanks-put, AreLentTo-put}
use Rattle.chv_guest.proofs.lent_banks.LentBanksZonesUnit.owner.Goals as goal

pub owner-requires-clause-condition : goal.owner-requires-clause-condition
owner-requires-clause-condition c =
    let old : List BankBook = c.self.inside.banks.items in
    let lent : List ℕ = c.self.inside.lent in
    let at : BankBook = bank_at old c.args.zone c.args.bank in
    let here : c.index_mut.result.now ≡ at =
    bank-read old c.args.zone c.args.bank c.place_of.result c.index_mut.result.now c.self.invariant.0 c.requires.zone.0 c.requires.zone.1 c.place_of.ensures c.index_mut.ensures.value in
    let ask : OwnerMayAsk lent c.args.bank at.history c.args.call.now =
    subst (λ (zones : Lent). OwnerMayAsk zones.lent c.args.bank (bank_at zones.books c.args.zone c.args.bank).history c.args.call.now) (sym c.self.view_is) c.requires.condition in
    let may : OwnerMay c.args.bank at.history c.args.call.now =
    lent-may lent c.args.bank at.history c.args.call.now (lent-at lent old c.args.zone c.args.bank c.self.invariant.0 c.self.invariant.1 c.requires.zone.0 c.requires.zone.1) ask in
    subst (λ (b : BankBook). OwnerMay b.bank b.history c.args.call.now) (sym here)
    (subst (λ (bank : ℕ). OwnerMay bank at.history c.args.call.now) (sym (bank-known old c.args.zone c.args.bank c.self.invariant.0 c.requires.zone.0 c.requires.zone.1)) may)

pub returns-clause-legal : goal.returns-clause-legal
returns-clause-legal c =
    let old : List BankBook = c.self.inside.banks.items in
    let here : c.index_mut.result.now ≡ bank_at old c.args.zone c.args.bank =
    bank-read old c.args.zone c.args.bank c.place_of.result c.index_mut.result.now c.self.invariant.0 c.requires.zone.0 c.requires.zone.1 c.place_of.ensures c.index_mut.ensures.value in
    let known : c.index_mut.result.now.bank ≡ c.args.bank =
    ap (λ (b : BankBook). b.bank) here ∙ bank-known old c.args.zone c.args.bank c.self.invariant.0 c.requires.zone.0 c.requires.zone.1 in
    let legal : IsLegal c.args.bank c.owner.new.self.history = subst (λ (bank : ℕ). IsLegal bank c.owner.new.self.history) known c.owner.ensures.legal in
    subst (λ (b : BankBook). IsLegal c.args.bank b.history)
    (sym (bank-set old c.args.zone c.args.bank c.place_of.result c.owner.new.self c.self.invariant.0 c.requires.zone.0 c.requires.zone.1 c.place_of.ensures)) legal

pub invariant_of-self : goal.invariant_of-self
invariant_of-self c =
    let old : List BankBook = c.self.inside.banks.items in
    let lent : List ℕ = c.self.inside.lent in
    let at : BankBook = bank_at old c.args.zone c.args.bank in
    let here : c.index_mut.result.now ≡ at =
    bank-read old c.args.zone c.args.bank c.place_of.result c.index_mut.result.now c.self.invariant.0 c.requires.zone.0 c.requires.zone.1 c.place_of.ensures c.index_mut.ensures.value in
    let ask : OwnerMayAsk lent c.args.bank at.history c.args.call.now =
    subst (λ (zones : Lent). OwnerMayAsk zones.lent c.args.bank (bank_at zones.books c.args.zone c.args.bank).history c.args.call.now) (sym c.self.view_is) c.requires.condition in
    let entered : c.owner.new.self.history ≡ with_entry at.history 0 c.args.call.now c.owner.result =
    ap (λ (b : BankBook). b.history) c.owner.ensures.entry ∙ ap (λ (b : BankBook). with_entry b.history 0 c.args.call.now c.owner.result) here in (
      AreAllBanks-put old c.args.zone c.args.bank c.place_of.result c.owner.new.self c.self.invariant.0 c.requires.zone.0 c.requires.zone.1 c.place_of.ensures
          (ap (λ (b : BankBook). b.zone) c.owner.ensures.entry ∙ ap (λ (b : BankBook). b.zone) here)
          (ap (λ (b : BankBook). b.bank) c.owner.ensures.entry ∙ ap (λ (b : BankBook). b.bank) here)
          (subst (λ (n : ℕ). IsLegal n c.owner.new.self.history) (sym (ap (λ (b : BankBook). b.bank) c.owner.ensures.entry)) c.owner.ensures.legal),
      AreLentTo-put lent old c.args.zone c.args.bank c.place_of.result c.owner.new.self c.self.invariant.0 c.requires.zone.0 c.requires.zone.1 c.place_of.ensures
          (subst (λ h. IsLentTo lent h) (sym entered)
          (lent-owner lent c.args.bank at.history c.args.call.now c.owner.result c.requires.owner ask
          (lent-at lent old c.args.zone c.args.bank c.self.invariant.0 c.self.invariant.1 c.requires.zone.0 c.requires.zone.1))) c.self.invariant.1,
    )
