use Rattle.chv_trace.proofs.Putting.{broken_before, broken_last, put_whole}
use Rattle.chv_trace.proofs.printer.print.Goals as goal

pub returns-in_err-push_trace-clause-part : goal.returns-in_err-push_trace-clause-part
returns-in_err-push_trace-clause-part g c = broken_before _ c.new-buffer.ensures.bytes c.in_err-push_trace.ensures.part

pub returns-clause-ok : goal.returns-clause-ok
returns-clause-ok g c = put_whole _ _ _ c.new-buffer.ensures.bytes c.in_ok-push_trace.ensures.ok c.put_all.ensures.ok c.put_all.ensures.none

pub returns-clause-part : goal.returns-clause-part
returns-clause-part g c = broken_last _ _ c.new-buffer.ensures.bytes c.in_ok-push_trace.ensures.ok c.put_all.ensures.part
