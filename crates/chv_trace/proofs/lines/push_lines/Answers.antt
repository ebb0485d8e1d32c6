use Rattle.std.proofs.Common.{◌∙◌, ◌+◌, flat_map, drop, arith}
use Rattle.chv_trace.proofs.Joined.{flat_map_next, flat_map_rest}
use Rattle.chv_trace.proofs.Putting.{next_added, next_broken}
use Rattle.chv_trace.proofs.lines.push_lines.Goals as goal

pub returns-in_err-push_line-clause-part : goal.returns-in_err-push_line-clause-part
returns-in_err-push_line-clause-part g c =
    next_broken _ c.loop-item.invariant.added c.in_err-push_line.ensures.part (flat_map g.L.Line.text (drop (c.loop-item.item-index + 1) c.args.items.now)) _
    (flat_map_rest g.L.Line.text c.args.items.now c.loop-item.item-index _ c.item-item.result c.loop-item-test.true c.item-item.is)

pub loop-item-preserved : goal.loop-item-preserved
loop-item-preserved g c = record {
  added = next_added c.loop-item.invariant.added c.in_ok-push_line.ensures.ok _ (flat_map_next g.L.Line.text c.args.items.now c.loop-item.item-index _ c.item-item.result c.loop-item-test.true c.item-item.is);
  later = omega (arith, c.in_ok-push_line.ensures.later, c.loop-item.invariant.later);
  kept = c.in_ok-push_line.ensures.kept ∙ c.loop-item.invariant.kept;
}
