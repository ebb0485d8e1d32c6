use Rattle.std.proofs.Common.{rules}
use Rattle.chv_io.proofs.mem_sink.MemSinkSink.put.Goals as goal

pub returns-then-failed-clause-bytes : goal.returns-then-failed-clause-bytes
returns-then-failed-clause-bytes c = search rules

pub returns-then-failed-clause-answered : goal.returns-then-failed-clause-answered
returns-then-failed-clause-answered c = search rules

pub returns-clause-bytes : goal.returns-clause-bytes
returns-clause-bytes c = search rules

pub returns-clause-after : goal.returns-clause-after
returns-clause-after c = search rules
