use Rattle.std.proofs.Common.{set, sym, ap, ◌∙◌}
use Rattle.std.proofs.lemmas.List.Edits.{map_over_more}
use Rattle.chv_defs_memory.specs.BankBook.{BankBook}
use Rattle.chv_guest.specs.Room.{keep_places}
use Rattle.chv_guest.proofs.room.keep_room_in.Goals as goal

pub loop-bank-preserved : goal.loop-bank-preserved
loop-bank-preserved c =
    ap (λ (b : BankBook). set c.loop-bank.banks c.loop-bank.bank-index b) (c.give_back.ensures ∙ ap (keep_places c.args.keep) (sym c.bank-item.is))
    ∙ map_over_more (keep_places c.args.keep) c.args.banks.now c.loop-bank.banks c.loop-bank.bank-index c.bank-item.result c.loop-bank-test.true c.loop-bank.invariant c.bank-item.is
