use Rattle.std.proofs.Common.{◌≡◌, Bool, false, length, refl, sym, subst}
use Rattle.chv_defs_control.specs.OwnerCalls.{zones_of}
use Rattle.chv_guest.specs.LentBanks.{known_at}
use Rattle.chv_ctl_mem.specs.ZoneCalls.{AreAtRest}
use Rattle.chv_tests_control.proofs.AtRest.{unpaused}
use Rattle.chv_tests_control.proofs.FullBanks.{rest-stays, second-done}
use Rattle.chv_tests_control.proofs.full_banks.refuse.Goals as goal

pub is_boot_refused-requires-clause-rest : goal.is_boot_refused-requires-clause-rest
is_boot_refused-requires-clause-rest c =
    second-done c.args.machine.now c.args.zones.now (known_at c.args.zones.now.books) (known_at c.fill_up.new.zones.books) (c.has_two_zones.ensures c.in_ok-step.ensures)
    c.requires.zones refl c.fill_up.ensures.others (c.in_ok-fill_up.ensures.rest c.in_ok-step-2.ensures)

pub is_wipe_refused-requires-clause-rest : goal.is_wipe_refused-requires-clause-rest
is_wipe_refused-requires-clause-rest c =
    let Q : Bool → Type 0 = λ frozen. AreAtRest frozen c.args.machine.now (known_at c.is_boot_refused.new.zones.books) in
    let two : length (zones_of c.args.machine.now) ≡ 2 = c.has_two_zones.ensures c.in_ok-step.ensures in
    let before : AreAtRest false c.args.machine.now (known_at c.fill_up.new.zones.books) =
    second-done c.args.machine.now c.args.zones.now (known_at c.args.zones.now.books) (known_at c.fill_up.new.zones.books) two
    c.requires.zones refl c.fill_up.ensures.others (c.in_ok-fill_up.ensures.rest c.in_ok-step-2.ensures) in
    subst Q (sym (unpaused c.args.machine.now.life c.requires.machine.unpaused))
    (rest-stays c.args.machine.now (known_at c.fill_up.new.zones.books) (known_at c.is_boot_refused.new.zones.books) two before (c.in_ok-is_boot_refused.ensures.stays c.in_ok-step-3.ensures))
