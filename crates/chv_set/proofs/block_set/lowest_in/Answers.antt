use Rattle.std.proofs.Common.{sym, arith}
use Rattle.chv_set.proofs.Members.{first_within-at, first_within-none}
use Rattle.chv_set.proofs.block_set.lowest_in.Goals as goal

pub returns-then-blocks-block : goal.returns-then-blocks-block
returns-then-blocks-block c = sym (first_within-at c.args.blocks.now c.args.span c.loop-block.block (omega arith) (omega arith) c.if-blocks-block.true c.loop-block.invariant)

pub returns : goal.returns
returns c = sym (first_within-none c.args.blocks.now c.args.span (λ k low high. c.loop-block.invariant k low (omega arith)))
