use Rattle.std.proofs.Common.{subst}
use Rattle.chv_defs_memory.specs.LegalBank.{IsLegal}
use Rattle.chv_guest.specs.LentBanks.{known_at, Lent}
use Rattle.chv_guest.proofs.ZoneBanks.{legal-known}
use Rattle.chv_guest.proofs.lent_banks.LentBanksZonesUnit.pages.Goals as goal

pub returns-clause-legal : goal.returns-clause-legal
returns-clause-legal c =
    subst (λ (zones : Lent). IsLegal c.args.bank (known_at zones.books c.args.zone c.args.bank).history) c.self.view_is
    (legal-known c.self.inside.banks.items c.args.zone c.args.bank c.self.invariant.0 c.requires.zone.0 c.requires.zone.1)
