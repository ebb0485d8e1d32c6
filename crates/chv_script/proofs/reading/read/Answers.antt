use Rattle.std.proofs.Common.{◌≤◌, length, IfOk, IfErr, subst}
use Rattle.chv_script.proofs.LawLemmas.{call_line}
use Rattle.chv_script.proofs.reading.read.Goals as goal

pub returns-clause-line : goal.returns-clause-line
returns-clause-line c =
    subst (λ lines. IfOk c.read_lines.result (λ answer. IfErr answer (λ fault. (1 ≤ fault.line) × (fault.line ≤ length lines)))) c.as_slice-2.ensures
    (call_line c.as_slice-2.result.now c.read_lines.result c.read_lines.ensures)
