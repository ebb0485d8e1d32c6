use Rattle.std.proofs.Common.{◌≡◌, ℕ, ◌<◌, Bool, length, ap, sym, subst}
use Rattle.chv_defs_control.specs.ApiStep.{is_paused}
use Rattle.chv_defs_control.specs.OwnerCalls.{zones_of}
use Rattle.chv_guest.specs.LentBanks.{known_at}
use Rattle.chv_ctl_mem.specs.ZoneCalls.{AreAtRest}
use Rattle.chv_tests_control.proofs.AtRest.{frozen-at-rest, frozen_bank}
use Rattle.chv_tests_control.proofs.ctl_mem.wipe_paused.Goals as goal

pub wipe_all-requires-clause-rest : goal.wipe_all-requires-clause-rest
wipe_all-requires-clause-rest c =
    let Q : Bool → Type 0 = λ frozen. AreAtRest frozen c.args.machine.now (known_at c.freeze_two.new.zones.books) in
    let two : length (zones_of c.args.machine.now) ≡ 2 = c.has_two_zones.ensures c.in_ok-step.ensures in
    let frozen : (z : ℕ) → z < 2 → known_at c.freeze_two.new.zones.books z 0 ≡ frozen_bank = c.in_ok-freeze_two.ensures.frozen c.in_ok-step-2.ensures in
    subst Q (sym (ap is_paused c.requires.paused)) (frozen-at-rest c.args.machine.now (known_at c.freeze_two.new.zones.books) two frozen)
