use Rattle.std.proofs.Common.{◌∙◌, flat_map}
use Rattle.chv_defs_scene.specs.SceneText.{vcpu_section}
use Rattle.chv_trace.proofs.Joined.{scene_sections}
use Rattle.chv_trace.proofs.Putting.{first_broken, last_added, last_broken}
use Rattle.chv_trace.proofs.scene.push_scene.Goals as goal

pub returns-in_err-push-clause-part : goal.returns-in_err-push-clause-part
returns-in_err-push-clause-part g c =
    first_broken _ c.in_err-push.ensures.part (flat_map vcpu_section c.as_slice-vcpus.result.now) _
    (scene_sections c.args.trace.now _ _ c.as_slice-vcpus.result.now c.requires.disks (c.as_str.ensures.value ∙ c.in_ok-head.ensures) c.lines_of.ensures c.as_slice-vcpus.ensures)

pub returns-clause-ok : goal.returns-clause-ok
returns-clause-ok g c =
    last_added _ _ _ _ c.in_ok-push.ensures.ok c.push_vcpus.ensures.ok _
    (scene_sections c.args.trace.now _ _ c.as_slice-vcpus.result.now c.requires.disks (c.as_str.ensures.value ∙ c.in_ok-head.ensures) c.lines_of.ensures c.as_slice-vcpus.ensures)

pub returns-clause-part : goal.returns-clause-part
returns-clause-part g c =
    last_broken _ _ _ c.in_ok-push.ensures.ok c.push_vcpus.ensures.part _
    (scene_sections c.args.trace.now _ _ c.as_slice-vcpus.result.now c.requires.disks (c.as_str.ensures.value ∙ c.in_ok-head.ensures) c.lines_of.ensures c.as_slice-vcpus.ensures)
