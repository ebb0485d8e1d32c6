use Rattle.std.proofs.Common.{◌+◌, [], ap, refl, sym, ◌∙◌}
use Rattle.chv_defs_memory.specs.Zones.{Known}
use Rattle.chv_guest.specs.LentBanks.{known_at}
use Rattle.chv_guest.proofs.NoOthers.{room_made}
use Rattle.chv_tests_memory.proofs.lending.has_room.Goals as goal

pub returns-clause-here : goal.returns-clause-here
returns-clause-here c = λ made.
    room_made [] (known_at c.args.zones.now.books 0) (known_at c.room.new.self.books 0) 0 3 0 c.in_ok-room.field-0 refl c.in_ok-room.ensures.room (sym c.is_ok.ensures.value ∙ made)
    ∙ ap (λ (k : Known). record k { entries = k.entries + 3; pages = 0 }) c.requires.here
