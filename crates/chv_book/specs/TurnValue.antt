-- What a turn is left with by a `&mut` to its value.
use Rattle.std.specs.Borrow.{Lends, Fml, RattleType, MutBor}
use Rattle.chv_defs_book.specs.declared.entry.HistoryEntry as entry
use Rattle.chv_book.specs.declared.kept.Kept as kept
use Rattle.chv_defs_book.specs.Passes.{with_value, TurnView}
use Rattle.chv_book.specs.contracts.turn.Turn.{the_row}

module _ (V E O : RattleType) (k : kept.Ghosts V.Denot E.Denot O.Denot) (e : entry.Ghosts E.Denot O.Denot) where
  -- once the borrow r ends, the turn has the value that r shows last
  abbrev pub lends_value : MutBor (TurnView V.Denot E.Denot O.Denot) → MutBor V.Denot → Fml
  lends_value t r = Lends (the_row V E O k e) V t r (λ w. with_value t.now w)
