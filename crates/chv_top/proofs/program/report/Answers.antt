use Rattle.chv_top.proofs.Saying.{reports_trace}
use Rattle.chv_top.proofs.program.report.Goals as goal

pub returns-in-Some-None-clause-reports : goal.returns-in-Some-None-clause-reports
returns-in-Some-None-clause-reports g c shelf given comes =
    reports_trace shelf given c.in-Some-None.trace _ _ _ _ _ (rw c.in-Some-None.is-0 at (rw c.in-Some-None.is-1 at comes)) c.report_trace.ensures.reports
