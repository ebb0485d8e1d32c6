use Rattle.std.proofs.Common.{◌∙◌, flat_map}
use Rattle.chv_defs.specs.TraceText.{control_line}
use Rattle.chv_trace.proofs.Joined.{control_lines}
use Rattle.chv_trace.proofs.Putting.{first_broken, last_added, last_broken}
use Rattle.chv_trace.proofs.printer.push_control.Goals as goal

pub returns-in_err-push-clause-part : goal.returns-in_err-push-clause-part
returns-in_err-push-clause-part g c =
    first_broken _ c.in_err-push.ensures.part (flat_map control_line c.args.entries.now) _
    (control_lines _ c.args.entries.now (c.as_str.ensures.value ∙ c.in_ok-head.ensures))

pub returns-clause-ok : goal.returns-clause-ok
returns-clause-ok g c =
    last_added _ _ _ _ c.in_ok-push.ensures.ok c.push_lines.ensures.ok _
    (control_lines _ c.args.entries.now (c.as_str.ensures.value ∙ c.in_ok-head.ensures))

pub returns-clause-part : goal.returns-clause-part
returns-clause-part g c =
    last_broken _ _ _ c.in_ok-push.ensures.ok c.push_lines.ensures.part _
    (control_lines _ c.args.entries.now (c.as_str.ensures.value ∙ c.in_ok-head.ensures))
