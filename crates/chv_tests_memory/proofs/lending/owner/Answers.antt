use Rattle.std.proofs.Common.{◌≡◌, ℕ, ◌-◌, [], ap, refl, ◌∙◌, arith}
use Rattle.chv_defs_memory.specs.BankBook.{owner_reply, pages_used, with_entry}
use Rattle.chv_defs_memory.specs.Zones.{Known}
use Rattle.chv_guest.specs.LentBanks.{known_at}
use Rattle.chv_guest.proofs.NoOthers.{call_made}
use Rattle.chv_tests_memory.proofs.lending.owner.Goals as goal

pub returns-clause-here : goal.returns-clause-here
returns-clause-here c =
    let before : Known = known_at c.args.zones.now.books 0 0 in
    let none_used : before.pages - pages_used c.args.call ≡ before.pages = omega (arith, c.requires.no_page) in
    call_made [] 0 before (known_at c.owner.new.self.books 0 0) c.args.call c.owner.result refl c.owner.ensures.entered
    ∙ ap (λ (pages : ℕ). record before { history = with_entry before.history 0 c.args.call (owner_reply 0 before.history c.args.call); entries = before.entries - 1; pages = pages }) none_used
