use Rattle.std.proofs.Common.{◌≡◌, [], refl, ap, ◌∙◌}
use Rattle.chv_defs_memory.specs.declared.bank.BankCall.TheVariants as call
use Rattle.chv_defs_memory.specs.Zones.{Known}
use Rattle.chv_defs_memory.proofs.ZoneLaws.{entered_by}
use Rattle.chv_guest.specs.LentBanks.{known_at}
use Rattle.chv_guest.proofs.NoOthers.{call_made}
use Rattle.chv_tests_answers.proofs.slices.shape.Goals as goal

pub returns-clause-shaped : goal.returns-clause-shaped
returns-clause-shaped c =
    ap (λ (k : Known). k.history)
    (call_made [] 0 (known_at c.args.zones.now.books 0 0) (known_at c.owner.new.self.books 0 0) (call.Shape 256) c.owner.result refl c.owner.ensures.entered
    ∙ ap (entered_by 0 (call.Shape 256)) c.requires.room)
