use Rattle.std.proofs.Common.{◌≡◌, ◌≤◌, flat_map, take, string_bytes}
use Rattle.chv_trace.specs.Printing.{Adds}
use Rattle.chv_trace.proofs.lines.push_lines.Given as goal

-- what was added so far
abbrev pub invariant-loop-item : goal.invariant-loop-item
invariant-loop-item g l =
    let written = g.K.Sink.written in
    let faults = g.K.Sink.write_faults in
    record {
      added : Adds (written l.initial.out) (string_bytes l.initial.buffer) (written l.out) (string_bytes l.buffer) (flat_map g.L.Line.text (take l.item-index l.items));
      later : faults l.initial.out ≤ faults l.out;
      kept : faults l.out ≡ faults l.initial.out;
    }
