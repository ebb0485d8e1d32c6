use Rattle.std.proofs.Common.{◌∙◌, ◌+◌, flat_map, drop, arith}
use Rattle.chv_defs_scene.specs.SceneText.{vcpu_section}
use Rattle.chv_trace.proofs.Joined.{flat_map_next, flat_map_rest}
use Rattle.chv_trace.proofs.Putting.{next_added, next_broken}
use Rattle.chv_trace.proofs.scene.push_vcpus.Goals as goal

pub returns-in_err-push_vcpu-clause-part : goal.returns-in_err-push_vcpu-clause-part
returns-in_err-push_vcpu-clause-part g c =
    next_broken _ c.loop-vcpu.invariant.added c.in_err-push_vcpu.ensures.part (flat_map vcpu_section (drop (c.loop-vcpu.vcpu-index + 1) c.args.vcpus.now)) _
    (flat_map_rest vcpu_section c.args.vcpus.now c.loop-vcpu.vcpu-index _ c.vcpu-item.result c.loop-vcpu-test.true c.vcpu-item.is)

pub loop-vcpu-preserved : goal.loop-vcpu-preserved
loop-vcpu-preserved g c = record {
  added = next_added c.loop-vcpu.invariant.added c.in_ok-push_vcpu.ensures.ok _ (flat_map_next vcpu_section c.args.vcpus.now c.loop-vcpu.vcpu-index _ c.vcpu-item.result c.loop-vcpu-test.true c.vcpu-item.is);
  later = omega (arith, c.in_ok-push_vcpu.ensures.later, c.loop-vcpu.invariant.later);
  kept = c.in_ok-push_vcpu.ensures.kept ∙ c.loop-vcpu.invariant.kept;
}
