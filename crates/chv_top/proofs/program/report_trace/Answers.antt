use Rattle.std.proofs.Common.{inl, inr, refl}
use Rattle.chv_top.proofs.program.report_trace.Goals as goal

pub returns-in-Ok-clause-reports : goal.returns-in-Ok-clause-reports
returns-in-Ok-clause-reports g c = inl (inl (refl, c.in-Ok.ensures.ok))

pub returns-in-Err-Memory-clause-reports : goal.returns-in-Err-Memory-clause-reports
returns-in-Err-Memory-clause-reports g c = inr (refl, c.in-Err-Memory.ensures.part)

pub returns-in-Err-Failed-clause-reports : goal.returns-in-Err-Failed-clause-reports
returns-in-Err-Failed-clause-reports g c =
    inl (inr (refl, (rw c.in-Err-Failed.field-0-is at c.in-Err-Failed.ensures.cause) refl, c.in-Err-Failed.ensures.part))
