use Rattle.std.proofs.Common.{◌+◌, ◌∙◌, sym}
use Rattle.std.specs.List.{list_any}
use Rattle.chv_bank.specs.CallerPins.{has_pinned}
use Rattle.chv_bank.proofs.Ranges.{find_past, find_other}
use Rattle.chv_bank.proofs.blocks.first_pinned.Goals as goal
use Rattle.chv_bank.proofs.blocks.first_pinned.Goals.{else-belongs-via-then-belongs+else-pins_block, else-belongs-via-else-belongs}

pub loop-block-preserved : goal.loop-block-preserved
loop-block-preserved c = elim c.else-belongs.branch [
  | else-belongs-via-then-belongs+else-pins_block w ↦ c.loop-block.invariant ∙ find_past (λ block. list_any (has_pinned c.args.bank block) c.args.pins.now) c.args.bank c.loop-block.block (c.args.span.first + c.args.span.count) c.loop-block-test.true (sym w.pins_block.ensures ∙ w.if-pins_block.false)
  | else-belongs-via-else-belongs w ↦ c.loop-block.invariant ∙ find_other (λ block. list_any (has_pinned c.args.bank block) c.args.pins.now) c.args.bank c.loop-block.block (c.args.span.first + c.args.span.count) c.loop-block-test.true (sym c.belongs.ensures ∙ w.if-belongs.false)
]
