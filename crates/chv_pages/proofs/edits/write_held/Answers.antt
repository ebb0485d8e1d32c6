use Rattle.std.proofs.Common.{arith, ◌∙◌}
use Rattle.chv_pages.proofs.Writes.{writes-more, has_number-numbers}
use Rattle.chv_pages.proofs.Search.{same-order}
use Rattle.chv_pages.proofs.edits.write_held.Goals as goal

pub loop-done-preserved : goal.loop-done-preserved
loop-done-preserved c =
    (omega arith, writes-more c.args.held.now c.loop-done.held c.write_piece.new.held c.args.block c.args.offset c.loop-done.done c.piece_len-len.result c.args.from.now (omega arith) c.loop-done.invariant.1 c.write_piece.ensures)

pub write_piece-requires-clause-there : goal.write_piece-requires-clause-there
write_piece-requires-clause-there c = has_number-numbers c.loop-done.held c.args.held.now _ c.loop-done.invariant.1.numbers ∙ c.requires.there c.loop-done.done c.loop-done-test.true

pub write_piece-requires-clause-order : goal.write_piece-requires-clause-order
write_piece-requires-clause-order c = same-order 0 c.args.held.now c.loop-done.held c.loop-done.invariant.1.numbers c.requires.order
