use Rattle.std.proofs.Common.{◌+◌, [], refl, ap, sym, ◌∙◌}
use Rattle.chv_defs_memory.specs.Zones.{Known}
use Rattle.chv_guest.specs.LentBanks.{fresh_banks, known_at}
use Rattle.chv_guest.proofs.NoOthers.{room_made}
use Rattle.chv_tests_answers.proofs.slices.has_room.Goals as goal

pub returns-clause-made : goal.returns-clause-made
returns-clause-made c = λ made.
    room_made [] (known_at c.args.zones.now.books 0) (known_at c.room.new.self.books 0) 0 1 0 c.in_ok-room.field-0 refl c.in_ok-room.ensures.room (sym c.is_ok.ensures.value ∙ made)
    ∙ ap (λ (k : Known). record k { entries = k.entries + 1; pages = 0 }) (ap (λ z. known_at z.books 0 0) c.requires)
