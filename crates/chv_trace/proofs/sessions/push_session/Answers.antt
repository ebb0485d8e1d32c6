use Rattle.std.proofs.Common.{◌++◌, ◌∙◌, codes, append_assoc, sym}
use Rattle.chv_defs.specs.TraceText.{pairs_or_dash}
use Rattle.chv_trace.specs.Printing.{end_line}
use Rattle.chv_trace.proofs.Joined.{session_lines}
use Rattle.chv_trace.proofs.Putting.{adds_two, first_broken, next_broken, last_added, last_broken}
use Rattle.chv_trace.proofs.sessions.push_session.Goals as goal

pub returns-in_err-push_end-clause-part : goal.returns-in_err-push_end-clause-part
returns-in_err-push_end-clause-part g c =
    let s = c.args.session.now in
    first_broken _ c.in_err-push_end.ensures.part ((codes "ask " ++ pairs_or_dash s.log.asked ++ codes "\n") ++ (codes "reply " ++ pairs_or_dash s.log.replied ++ codes "\n")) _
    (sym (append_assoc (end_line s) (codes "ask " ++ pairs_or_dash s.log.asked ++ codes "\n") (codes "reply " ++ pairs_or_dash s.log.replied ++ codes "\n")) ∙ session_lines s)

pub returns-in_err-push_bytes-clause-part : goal.returns-in_err-push_bytes-clause-part
returns-in_err-push_bytes-clause-part g c =
    next_broken _ c.in_ok-push_end.ensures.ok c.in_err-push_bytes.ensures.part (codes "reply " ++ pairs_or_dash c.args.session.now.log.replied ++ codes "\n") _ (session_lines c.args.session.now)

pub returns-clause-ok : goal.returns-clause-ok
returns-clause-ok g c = last_added _ _ _ _ (adds_two c.in_ok-push_end.ensures.ok c.in_ok-push_bytes.ensures.ok) c.push_bytes-2.ensures.ok _ (session_lines c.args.session.now)

pub returns-clause-part : goal.returns-clause-part
returns-clause-part g c = last_broken _ _ _ (adds_two c.in_ok-push_end.ensures.ok c.in_ok-push_bytes.ensures.ok) c.push_bytes-2.ensures.part _ (session_lines c.args.session.now)
