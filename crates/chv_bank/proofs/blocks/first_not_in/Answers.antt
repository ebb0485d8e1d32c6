use Rattle.std.proofs.Common.{◌+◌, ◌∙◌, sym, ap}
use Rattle.std.specs.Prelude.{not}
use Rattle.chv_defs_memory.specs.BlockSets.{has}
use Rattle.chv_bank.proofs.Ranges.{find_past, find_other}
use Rattle.chv_bank.proofs.blocks.first_not_in.Goals as goal
use Rattle.chv_bank.proofs.blocks.first_not_in.Goals.{else-belongs-via-then-belongs+else-not-has, else-belongs-via-else-belongs}

pub loop-block-preserved : goal.loop-block-preserved
loop-block-preserved c = elim c.else-belongs.branch [
  | else-belongs-via-then-belongs+else-not-has w ↦ c.loop-block.invariant ∙ find_past (λ block. not (has c.args.set.now block)) c.args.bank c.loop-block.block (c.args.span.first + c.args.span.count) c.loop-block-test.true (ap not (sym w.has.ensures ∙ w.if-not-has.false))
  | else-belongs-via-else-belongs w ↦ c.loop-block.invariant ∙ find_other (λ block. not (has c.args.set.now block)) c.args.bank c.loop-block.block (c.args.span.first + c.args.span.count) c.loop-block-test.true (sym c.belongs.ensures ∙ w.if-belongs.false)
]
