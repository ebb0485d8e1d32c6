use Rattle.std.proofs.Common.{◌∙◌}
use Rattle.chv_script.proofs.LabelLemmas.{same_take}
use Rattle.chv_script.proofs.labels.all_labels.Goals as goal

pub loop-line-preserved : goal.loop-line-preserved
loop-line-preserved c =
    same_take c.loop-line.labels.keys c.add_label.new.labels.keys c.args.lines.now c.loop-line.line-index c.as_slice.result.now c.line-item.result
    c.loop-line-test.true (c.as_slice.ensures ∙ c.line-item.is) c.loop-line.invariant c.in_ok-add_label.ensures
