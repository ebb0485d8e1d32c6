use Rattle.std.proofs.Common.{false, sym, subst}
use Rattle.chv_guest.specs.LentBanks.{known_at, Lent}
use Rattle.chv_ctl_mem.specs.ZoneCalls.{AreAtRest}
use Rattle.chv_tests_control.proofs.AtRest.{fresh-at-rest}
use Rattle.chv_tests_control.proofs.ctl_mem.boot.Goals as goal

pub boot_zones-requires-clause-rest : goal.boot_zones-requires-clause-rest
boot_zones-requires-clause-rest c =
    let P : Lent → Type 0 = λ zones. AreAtRest false c.args.machine.now (known_at zones.books) in
    subst P (sym c.requires.zones) (fresh-at-rest c.args.machine.now c.requires.machine.checked)
