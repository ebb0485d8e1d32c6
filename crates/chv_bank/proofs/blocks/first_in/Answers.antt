use Rattle.std.proofs.Common.{◌+◌, ◌∙◌, sym}
use Rattle.chv_defs_memory.specs.BlockSets.{has}
use Rattle.chv_bank.proofs.Ranges.{find_past, find_other}
use Rattle.chv_bank.proofs.blocks.first_in.Goals as goal
use Rattle.chv_bank.proofs.blocks.first_in.Goals.{else-belongs-via-then-belongs+else-has, else-belongs-via-else-belongs}

pub loop-block-preserved : goal.loop-block-preserved
loop-block-preserved c = elim c.else-belongs.branch [
  | else-belongs-via-then-belongs+else-has w ↦ c.loop-block.invariant ∙ find_past (has c.args.set.now) c.args.bank c.loop-block.block (c.args.span.first + c.args.span.count) c.loop-block-test.true (sym w.has.ensures ∙ w.if-has.false)
  | else-belongs-via-else-belongs w ↦ c.loop-block.invariant ∙ find_other (has c.args.set.now) c.args.bank c.loop-block.block (c.args.span.first + c.args.span.count) c.loop-block-test.true (sym c.belongs.ensures ∙ w.if-belongs.false)
]
