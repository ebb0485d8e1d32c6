use Rattle.std.proofs.Common.{◌<◌, ℕ, List, [], sym, subst}
use Rattle.chv_defs_memory.specs.BankState.{banks}
use Rattle.chv_defs_memory.specs.BankBook.{BankBook}
use Rattle.chv_defs_memory.specs.LegalBank.{IsLegal}
use Rattle.chv_defs_memory.specs.Zones.{GivesBack, OtherZonesStay}
use Rattle.chv_guest.specs.LentBanks.{change_zone, known_at, AreAllBanks, AreLentTo, Lent}
use Rattle.chv_guest.specs.Room.{keep_places}
use Rattle.chv_guest.proofs.ZoneBanks.{legal-known, AreAllBanks-changed, AreLentTo-changed}
use Rattle.chv_guest.proofs.KnownBanks.{gives_back, keep_places-keeps, others-stay}
use Rattle.chv_guest.proofs.lent_banks.LentBanksZonesUnit.give_back.Goals as goal

pub invariant_of-self : goal.invariant_of-self
invariant_of-self c =
    let lent : List ℕ = c.self.inside.lent in
    subst (λ (books : List BankBook). AreAllBanks books × AreLentTo lent books) (sym c.keep_room.ensures) (
      AreAllBanks-changed c.self.inside.banks.items c.args.zone (keep_places c.args.keep) (keep_places-keeps c.args.keep) c.requires.zone c.self.invariant.0,
      AreLentTo-changed lent c.self.inside.banks.items c.args.zone (keep_places c.args.keep) (keep_places-keeps c.args.keep) c.requires.zone c.self.invariant.0 c.self.invariant.1,
    )

pub returns-clause-left : goal.returns-clause-left
returns-clause-left c =
    let old : List BankBook = c.self.inside.banks.items in
    subst (λ (zones : Lent). (bank : ℕ) → bank < banks → GivesBack [] c.args.keep (known_at zones.books c.args.zone bank) (known_at c.keep_room.new.all.items c.args.zone bank)) c.self.view_is
    (subst (λ (after : List BankBook). (bank : ℕ) → bank < banks → GivesBack [] c.args.keep (known_at old c.args.zone bank) (known_at after c.args.zone bank)) (sym c.keep_room.ensures)
    (λ bank inside. gives_back [] old c.args.zone bank c.args.keep c.self.invariant.0 c.requires.zone inside))

pub returns-clause-others : goal.returns-clause-others
returns-clause-others c =
    let old : List BankBook = c.self.inside.banks.items in
    subst (λ (zones : Lent). OtherZonesStay (known_at zones.books) (known_at c.keep_room.new.all.items) c.args.zone) c.self.view_is
    (subst (λ (after : List BankBook). OtherZonesStay (known_at old) (known_at after) c.args.zone) (sym c.keep_room.ensures)
    (others-stay old c.args.zone (keep_places c.args.keep) c.self.invariant.0 c.requires.zone))

pub returns-clause-legal : goal.returns-clause-legal
returns-clause-legal c =
    let old : List BankBook = c.self.inside.banks.items in
    subst (λ (after : List BankBook). (bank : ℕ) → bank < banks → IsLegal bank (known_at after c.args.zone bank).history) (sym c.keep_room.ensures)
    (λ bank inside. legal-known (change_zone c.args.zone (keep_places c.args.keep) old) c.args.zone bank
    (AreAllBanks-changed old c.args.zone (keep_places c.args.keep) (keep_places-keeps c.args.keep) c.requires.zone c.self.invariant.0) c.requires.zone inside)
