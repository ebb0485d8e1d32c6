use Rattle.std.proofs.Common.{◌≡◌, ◌≤◌, flat_map, take, string_bytes}
use Rattle.chv_defs_scene.specs.SceneText.{vcpu_section}
use Rattle.chv_trace.specs.Printing.{Adds}
use Rattle.chv_trace.proofs.scene.push_vcpus.Given as goal

-- what was added so far
abbrev pub invariant-loop-vcpu : goal.invariant-loop-vcpu
invariant-loop-vcpu g l =
    let written = g.K.Sink.written in
    let faults = g.K.Sink.write_faults in
    record {
      added : Adds (written l.initial.out) (string_bytes l.initial.buffer) (written l.out) (string_bytes l.buffer) (flat_map vcpu_section (take l.vcpu-index l.vcpus));
      later : faults l.initial.out ≤ faults l.out;
      kept : faults l.out ≡ faults l.initial.out;
    }
