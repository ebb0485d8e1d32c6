use Rattle.std.proofs.Common.{flat_map, refl}
use Rattle.chv_defs.specs.TraceText.{bank_line}
use Rattle.chv_trace.proofs.Joined.{bank_lines}
use Rattle.chv_trace.proofs.Putting.{first_broken, last_added, last_broken}
use Rattle.chv_trace.proofs.banks.push_bank.Goals as goal

pub returns-in_err-push_head-clause-part : goal.returns-in_err-push_head-clause-part
returns-in_err-push_head-clause-part g c = first_broken _ c.in_err-push_head.ensures.part (flat_map bank_line c.args.bank.now.entries) _ refl

pub returns-clause-ok : goal.returns-clause-ok
returns-clause-ok g c = last_added _ _ _ _ c.in_ok-push_head.ensures.ok c.push_lines.ensures.ok _ (bank_lines c.args.bank.now c.as_slice.result.now c.as_slice.ensures)

pub returns-clause-part : goal.returns-clause-part
returns-clause-part g c = last_broken _ _ _ c.in_ok-push_head.ensures.ok c.push_lines.ensures.part _ (bank_lines c.args.bank.now c.as_slice.result.now c.as_slice.ensures)
