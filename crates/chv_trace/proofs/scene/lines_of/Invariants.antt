use Rattle.std.proofs.Common.{◌≡◌, ◌≤◌, ◌+◌, ◌*◌, ◌^◌, take}
use Rattle.chv_trace.proofs.Joined.{lines_in}
use Rattle.chv_trace.proofs.scene.lines_of.Given as goal

-- the lines of the sections so far, of each of which the length of its script has 64 bits
abbrev pub invariant-loop-vcpu : goal.invariant-loop-vcpu
invariant-loop-vcpu l = record {
  counted : l.lines ≡ lines_in (take l.vcpu-index l.vcpus);
  small : l.lines ≤ (2 ^ 64 + 1) * l.vcpu-index;
}
