use Rattle.std.proofs.Common.{Bool, false, sym, subst}
use Rattle.chv_guest.specs.LentBanks.{known_at, Lent}
use Rattle.chv_ctl_mem.specs.ZoneCalls.{AreAtRest}
use Rattle.chv_tests_control.proofs.AtRest.{fresh-at-rest, unpaused}
use Rattle.chv_tests_control.proofs.ctl_mem.wipe.Goals as goal

pub wipe_all-requires-clause-rest : goal.wipe_all-requires-clause-rest
wipe_all-requires-clause-rest c =
    let P : Lent → Type 0 = λ zones. AreAtRest false c.args.machine.now (known_at zones.books) in
    let Q : Bool → Type 0 = λ frozen. AreAtRest frozen c.args.machine.now (known_at c.args.zones.now.books) in
    subst Q (sym (unpaused c.args.machine.now.life c.requires.machine.unpaused)) (subst P (sym c.requires.zones) (fresh-at-rest c.args.machine.now c.requires.machine.checked))
