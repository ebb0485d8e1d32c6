use Rattle.std.proofs.Common.{◌∙◌, ◌++◌, codes, flat_map, refl}
use Rattle.chv_defs_scene.specs.ScriptText.{line_text}
use Rattle.chv_trace.proofs.Joined.{vcpu_lines, two_follow}
use Rattle.chv_trace.proofs.Putting.{adds_two, first_broken, next_broken, last_added, last_broken}
use Rattle.chv_trace.proofs.scene.push_vcpu.Goals as goal

pub returns-in_err-push-clause-part : goal.returns-in_err-push-clause-part
returns-in_err-push-clause-part g c =
    let instructions = flat_map (λ l. line_text l ++ codes "\n") c.args.vcpu.now.script.lines in
    first_broken _ c.in_err-push.ensures.part (instructions ++ codes "end\n") _
    (two_follow _ instructions (codes "end\n") (vcpu_lines c.args.vcpu.now _ _ (c.as_str.ensures.value ∙ c.in_ok-head.ensures) refl))

pub returns-in_err-push_lines-clause-part : goal.returns-in_err-push_lines-clause-part
returns-in_err-push_lines-clause-part g c =
    next_broken _ c.in_ok-push.ensures.ok c.in_err-push_lines.ensures.part (codes "end\n") _
    (vcpu_lines c.args.vcpu.now _ _ (c.as_str.ensures.value ∙ c.in_ok-head.ensures) c.as_slice.ensures)

pub returns-clause-ok : goal.returns-clause-ok
returns-clause-ok g c =
    last_added _ _ _ _ (adds_two c.in_ok-push.ensures.ok c.in_ok-push_lines.ensures.ok) c.push-2.ensures.ok _
    (vcpu_lines c.args.vcpu.now _ _ (c.as_str.ensures.value ∙ c.in_ok-head.ensures) c.as_slice.ensures)

pub returns-clause-part : goal.returns-clause-part
returns-clause-part g c =
    last_broken _ _ _ (adds_two c.in_ok-push.ensures.ok c.in_ok-push_lines.ensures.ok) c.push-2.ensures.part _
    (vcpu_lines c.args.vcpu.now _ _ (c.as_str.ensures.value ∙ c.in_ok-head.ensures) c.as_slice.ensures)
