use Rattle.chv_set.proofs.RunLists.{runs-step-in, runs-step-out}
use Rattle.chv_set.proofs.runs.runs_in.Goals as goal
use Rattle.chv_set.proofs.runs.runs_in.Goals.{then-blocks-block+in_ok-push_block, else-blocks-block}

pub loop-block-preserved : goal.loop-block-preserved
loop-block-preserved c =
    elim c.if-blocks-block.branch [
      | then-blocks-block+in_ok-push_block w ↦ rw w.runs-is (runs-step-in c.args.blocks.now c.loop-block.block c.loop-block.runs.items w.push_block.new.runs.items c.loop-block-test.true w.if-blocks-block.true c.loop-block.invariant w.in_ok-push_block.ensures.ok)
      | else-blocks-block w ↦ rw w.runs-is (runs-step-out c.args.blocks.now c.loop-block.block c.loop-block.runs.items c.loop-block-test.true w.if-blocks-block.false c.loop-block.invariant)
    ]
