use Rattle.std.proofs.Common.{◌≡◌, ℕ, ◌+◌, [], ap, sym, ◌∙◌, arith, refl}
use Rattle.chv_defs_memory.specs.Zones.{Known}
use Rattle.chv_guest.specs.LentBanks.{known_at}
use Rattle.chv_guest.proofs.NoOthers.{room_made}
use Rattle.chv_tests_control.proofs.ctl_mem.has_room.Goals as goal

pub returns-clause-made : goal.returns-clause-made
returns-clause-made c = λ made.
    let count : 0 + c.args.entries ≡ c.args.entries = omega arith in
    let with_room : ℕ → Known = λ entries. record { history = []; entries = entries; pages = 0 } in
    room_made [] (known_at c.args.zones.now.books c.args.zone) (known_at c.room.new.self.books c.args.zone) c.args.zone c.args.entries 0 c.in_ok-room.field-0 refl c.in_ok-room.ensures.room (sym c.is_ok.ensures.value ∙ made)
    ∙ ap (λ (k : Known). record k { entries = k.entries + c.args.entries; pages = 0 }) c.requires.fresh
    ∙ ap with_room count
