use Rattle.std.proofs.Common.{◌≡◌, ◌++◌, flat_map, take}
use Rattle.chv_defs_scene.specs.SceneText.{vcpu_section}
use Rattle.chv_scene.proofs.printing.push_vcpus.Given as goal

-- what was printed so far
abbrev pub invariant-loop-vcpu : goal.invariant-loop-vcpu
invariant-loop-vcpu l = l.shown.items ≡ l.initial.shown.items ++ flat_map vcpu_section (take l.vcpu-index l.vcpus)
