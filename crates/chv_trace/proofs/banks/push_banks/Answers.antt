use Rattle.std.proofs.Common.{◌∙◌, ◌+◌, flat_map, drop, arith}
use Rattle.chv_defs.specs.TraceText.{bank_part}
use Rattle.chv_trace.proofs.Joined.{flat_map_next, flat_map_rest}
use Rattle.chv_trace.proofs.Putting.{next_added, next_broken}
use Rattle.chv_trace.proofs.banks.push_banks.Goals as goal

pub returns-in_err-push_bank-clause-part : goal.returns-in_err-push_bank-clause-part
returns-in_err-push_bank-clause-part g c =
    next_broken _ c.loop-bank.invariant.added c.in_err-push_bank.ensures.part (flat_map bank_part (drop (c.loop-bank.bank-index + 1) c.args.banks.now)) _
    (flat_map_rest bank_part c.args.banks.now c.loop-bank.bank-index _ c.bank-item.result c.loop-bank-test.true c.bank-item.is)

pub loop-bank-preserved : goal.loop-bank-preserved
loop-bank-preserved g c = record {
  added = next_added c.loop-bank.invariant.added c.in_ok-push_bank.ensures.ok _ (flat_map_next bank_part c.args.banks.now c.loop-bank.bank-index _ c.bank-item.result c.loop-bank-test.true c.bank-item.is);
  later = omega (arith, c.in_ok-push_bank.ensures.later, c.loop-bank.invariant.later);
  kept = c.in_ok-push_bank.ensures.kept ∙ c.loop-bank.invariant.kept;
}
