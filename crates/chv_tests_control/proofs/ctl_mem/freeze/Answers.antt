use Rattle.std.proofs.Common.{ap, ◌∙◌, [], refl}
use Rattle.chv_defs_memory.specs.declared.bank.BankCall.TheVariants as call
use Rattle.chv_defs_memory.specs.Zones.{Known}
use Rattle.chv_defs_memory.proofs.ZoneLaws.{entered_by}
use Rattle.chv_guest.specs.LentBanks.{known_at}
use Rattle.chv_guest.proofs.NoOthers.{call_made}
use Rattle.chv_tests_control.proofs.ctl_mem.freeze.Goals as goal

pub returns-clause-frozen : goal.returns-clause-frozen
returns-clause-frozen c =
    call_made [] 0 (known_at c.args.zones.now.books c.args.zone 0) (known_at c.owner.new.self.books c.args.zone 0) call.Freeze c.owner.result refl c.owner.ensures.entered
    ∙ ap (λ (k : Known). entered_by 0 call.Freeze k) c.requires.room
