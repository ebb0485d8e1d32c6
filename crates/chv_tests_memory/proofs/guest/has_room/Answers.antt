use Rattle.std.proofs.Common.{◌+◌, ap, sym, ◌∙◌, [], refl}
use Rattle.chv_defs_memory.specs.Zones.{Known}
use Rattle.chv_guest.specs.LentBanks.{known_at}
use Rattle.chv_guest.proofs.NoOthers.{room_made}
use Rattle.chv_tests_memory.proofs.guest.has_room.Goals as goal

pub returns-clause-made : goal.returns-clause-made
returns-clause-made c = λ made.
    room_made [] (known_at c.args.zones.now.books c.args.zone) (known_at c.room.new.self.books c.args.zone) c.args.zone 2 c.args.pages c.in_ok-room.field-0 refl c.in_ok-room.ensures.room (sym c.is_ok.ensures.value ∙ made)
    ∙ ap (λ (k : Known). record k { entries = k.entries + 2; pages = c.args.pages }) c.requires.fresh
