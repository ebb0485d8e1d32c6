use Rattle.std.proofs.Common.{◌++◌, flat_map, codes, refl}
use Rattle.chv_defs.specs.TraceText.{scene_part, control_part, bank_part, session_part}
use Rattle.chv_trace.proofs.Joined.{trace_parts, two_follow, three_follow, four_follow}
use Rattle.chv_trace.proofs.Putting.{adds_two, first_broken, next_broken, last_added, last_broken}
use Rattle.chv_trace.proofs.printer.push_trace.Goals as goal

pub returns-in_err-push_scene-clause-part : goal.returns-in_err-push_scene-clause-part
returns-in_err-push_scene-clause-part g c =
    let t = c.args.trace.now in
    let begun = codes "trace 1\n" ++ scene_part t in
    let control = control_part t.control in
    let banks = flat_map bank_part t.banks in
    let sessions = flat_map session_part t.sessions in
    first_broken _ c.in_err-push_scene.ensures.part (control ++ (banks ++ (sessions ++ codes "end\n"))) _
    (four_follow begun control banks sessions (codes "end\n") (trace_parts t t.control t.banks t.sessions refl refl refl))

pub returns-in_err-push_control-clause-part : goal.returns-in_err-push_control-clause-part
returns-in_err-push_control-clause-part g c =
    let t = c.args.trace.now in
    let begun = (codes "trace 1\n" ++ scene_part t) ++ control_part c.as_slice.result.now in
    let banks = flat_map bank_part t.banks in
    let sessions = flat_map session_part t.sessions in
    next_broken _ c.in_ok-push_scene.ensures.ok c.in_err-push_control.ensures.part (banks ++ (sessions ++ codes "end\n")) _
    (three_follow begun banks sessions (codes "end\n") (trace_parts t c.as_slice.result.now t.banks t.sessions c.as_slice.ensures refl refl))

pub returns-in_err-push_banks-clause-part : goal.returns-in_err-push_banks-clause-part
returns-in_err-push_banks-clause-part g c =
    let t = c.args.trace.now in
    let begun = (codes "trace 1\n" ++ scene_part t) ++ control_part c.as_slice.result.now ++ flat_map bank_part c.as_slice-2.result.now in
    let sessions = flat_map session_part t.sessions in
    next_broken _ (adds_two c.in_ok-push_scene.ensures.ok c.in_ok-push_control.ensures.ok) c.in_err-push_banks.ensures.part (sessions ++ codes "end\n") _
    (two_follow begun sessions (codes "end\n") (trace_parts t c.as_slice.result.now c.as_slice-2.result.now t.sessions c.as_slice.ensures c.as_slice-2.ensures refl))

pub returns-in_err-push_sessions-clause-part : goal.returns-in_err-push_sessions-clause-part
returns-in_err-push_sessions-clause-part g c =
    next_broken _ (adds_two (adds_two c.in_ok-push_scene.ensures.ok c.in_ok-push_control.ensures.ok) c.in_ok-push_banks.ensures.ok) c.in_err-push_sessions.ensures.part (codes "end\n") _
    (trace_parts c.args.trace.now c.as_slice.result.now c.as_slice-2.result.now c.as_slice-3.result.now c.as_slice.ensures c.as_slice-2.ensures c.as_slice-3.ensures)

pub returns-clause-ok : goal.returns-clause-ok
returns-clause-ok g c =
    last_added _ _ _ _ (adds_two (adds_two (adds_two c.in_ok-push_scene.ensures.ok c.in_ok-push_control.ensures.ok) c.in_ok-push_banks.ensures.ok) c.in_ok-push_sessions.ensures.ok) c.push.ensures.ok _
    (trace_parts c.args.trace.now c.as_slice.result.now c.as_slice-2.result.now c.as_slice-3.result.now c.as_slice.ensures c.as_slice-2.ensures c.as_slice-3.ensures)

pub returns-clause-part : goal.returns-clause-part
returns-clause-part g c =
    last_broken _ _ _ (adds_two (adds_two (adds_two c.in_ok-push_scene.ensures.ok c.in_ok-push_control.ensures.ok) c.in_ok-push_banks.ensures.ok) c.in_ok-push_sessions.ensures.ok) c.push.ensures.part _
    (trace_parts c.args.trace.now c.as_slice.result.now c.as_slice-2.result.now c.as_slice-3.result.now c.as_slice.ensures c.as_slice-2.ensures c.as_slice-3.ensures)
