use Rattle.std.proofs.Common.{◌≡◌, ℕ, ◌-◌, get_or, set, min, sym, ap, ◌∙◌, arith}
use Rattle.std.proofs.lemmas.List.Edits.{map_over_more}
use Rattle.chv_defs_memory.specs.BankBook.{BankBook}
use Rattle.chv_guest.specs.Room.{without_places}
use Rattle.chv_guest.proofs.room.undo_room.Goals as goal

pub loop-bank-preserved : goal.loop-bank-preserved
loop-bank-preserved c =
    let b : BankBook = c.bank-item.result in
    let at : BankBook = get_or c.loop-bank.banks c.loop-bank.bank-index b in
    let left : min at.entries c.saturating_sub.result ≡ at.entries - c.args.entries = omega (arith, c.saturating_sub.ensures, c.reserved.ensures) in
    let here : c.give_back.new.self ≡ without_places c.args.entries b =
    c.give_back.ensures ∙ ap (λ (n : ℕ). record at { entries = n; pages = 0 }) left ∙ ap (without_places c.args.entries) (sym c.bank-item.is) in
    ap (λ (b : BankBook). set c.loop-bank.banks c.loop-bank.bank-index b) here
    ∙ map_over_more (without_places c.args.entries) c.args.banks.now c.loop-bank.banks c.loop-bank.bank-index b c.loop-bank-test.true c.loop-bank.invariant c.bank-item.is
