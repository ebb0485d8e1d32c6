use Rattle.std.proofs.Common.{◌≡◌, take}
use Rattle.chv_tests_book.specs.Entered.{HasEntered}
use Rattle.chv_tests_book.proofs.turns.enter_all.Given as goal

abbrev pub invariant-loop-number : goal.invariant-loop-number
invariant-loop-number g l = record {
  counted : l.count ≡ l.number-index;
  entered : HasEntered l.book l.initial.pass.caller (take l.number-index l.numbers) l.pass;
}
