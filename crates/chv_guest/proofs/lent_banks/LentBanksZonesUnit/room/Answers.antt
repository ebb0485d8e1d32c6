use Rattle.std.proofs.Common.{ℕ, ◌<◌, List, [], IfOk, sym, subst}
use Rattle.std.specs.Prelude.{if◌then◌else◌}
use Rattle.chv_defs_memory.specs.BankState.{banks}
use Rattle.chv_defs_memory.specs.LegalBank.{IsLegal}
use Rattle.chv_defs_memory.specs.BankBook.{BankBook}
use Rattle.chv_defs_memory.specs.Zones.{MakesRoom, OtherZonesStay}
use Rattle.chv_guest.specs.LentBanks.{change_zone, known_at, AreAllBanks, AreLentTo, Lent}
use Rattle.chv_guest.specs.Room.{is_made, with_places}
use Rattle.chv_guest.proofs.KnownBanks.{makes_room, others-stay-room, AreAllBanks-room, AreLentTo-room}
use Rattle.chv_guest.proofs.ZoneBanks.{legal-known}
use Rattle.chv_guest.proofs.lent_banks.LentBanksZonesUnit.room.Goals as goal

pub invariant_of-self : goal.invariant_of-self
invariant_of-self c =
    let lent : List ℕ = c.self.inside.lent in
    subst (λ (books : List BankBook). AreAllBanks books × AreLentTo lent books) (sym c.make_room.ensures.made) (
      AreAllBanks-room c.self.inside.banks.items c.args.zone c.args.entries c.args.pages c.make_room.result c.self.invariant.0 c.requires.zone,
      AreLentTo-room lent c.self.inside.banks.items c.args.zone c.args.entries c.args.pages c.make_room.result c.self.invariant.0 c.requires.zone c.self.invariant.1,
    )

pub returns-clause-room : goal.returns-clause-room
returns-clause-room c =
    let old : List BankBook = c.self.inside.banks.items in
    subst (λ (zones : Lent). IfOk c.make_room.result (λ answer. MakesRoom [] (known_at zones.books c.args.zone) (known_at c.make_room.new.all.items c.args.zone) c.args.zone c.args.entries c.args.pages tt answer)) c.self.view_is
    (subst (λ (after : List BankBook). IfOk c.make_room.result (λ answer. MakesRoom [] (known_at old c.args.zone) (known_at after c.args.zone) c.args.zone c.args.entries c.args.pages tt answer)) (sym c.make_room.ensures.made)
    (makes_room [] old c.args.zone c.args.entries c.args.pages c.make_room.result c.self.invariant.0 c.requires.zone c.make_room.ensures.answer))

pub returns-clause-others : goal.returns-clause-others
returns-clause-others c =
    let old : List BankBook = c.self.inside.banks.items in
    subst (λ (zones : Lent). OtherZonesStay (known_at zones.books) (known_at c.make_room.new.all.items) c.args.zone) c.self.view_is
    (subst (λ (after : List BankBook). OtherZonesStay (known_at old) (known_at after) c.args.zone) (sym c.make_room.ensures.made)
    (others-stay-room old c.args.zone c.args.entries c.args.pages c.make_room.result c.self.invariant.0 c.requires.zone))

pub returns-clause-legal : goal.returns-clause-legal
returns-clause-legal c =
    let old : List BankBook = c.self.inside.banks.items in
    subst (λ (after : List BankBook). (bank : ℕ) → bank < banks → IsLegal bank (known_at after c.args.zone bank).history) (sym c.make_room.ensures.made)
    (λ bank inside. legal-known (if is_made c.make_room.result then change_zone c.args.zone (with_places c.args.entries c.args.pages) old else old) c.args.zone bank
    (AreAllBanks-room old c.args.zone c.args.entries c.args.pages c.make_room.result c.self.invariant.0 c.requires.zone) c.requires.zone inside)
