use Rattle.std.proofs.Common.{◌∙◌, ◌+◌, flat_map, drop, refl, arith}
use Rattle.chv_defs_base.specs.Numbers.{pair}
use Rattle.chv_trace.proofs.Joined.{flat_map_next, flat_map_rest}
use Rattle.chv_trace.proofs.Putting.{next_added, next_broken}
use Rattle.chv_trace.proofs.pieces.push_each_pair.Goals as goal

pub returns-in_err-push_pair-clause-part : goal.returns-in_err-push_pair-clause-part
returns-in_err-push_pair-clause-part g c =
    next_broken _ c.loop-byte.invariant.added c.in_err-push_pair.ensures.part (flat_map pair (drop (c.loop-byte.byte-index + 1) c.args.bytes.now)) _
    (flat_map_rest pair c.args.bytes.now c.loop-byte.byte-index _ _ c.loop-byte-test.true refl)

pub loop-byte-preserved : goal.loop-byte-preserved
loop-byte-preserved g c = record {
  added = next_added c.loop-byte.invariant.added c.in_ok-push_pair.ensures.ok _ (flat_map_next pair c.args.bytes.now c.loop-byte.byte-index _ _ c.loop-byte-test.true refl);
  later = omega (arith, c.in_ok-push_pair.ensures.later, c.loop-byte.invariant.later);
  kept = c.in_ok-push_pair.ensures.kept ∙ c.loop-byte.invariant.kept;
}
