use Rattle.std.proofs.Common.{◌≡◌, ◌≤◌, flat_map, take, string_bytes}
use Rattle.chv_defs.specs.TraceText.{bank_part}
use Rattle.chv_trace.specs.Printing.{Adds}
use Rattle.chv_trace.proofs.banks.push_banks.Given as goal

-- what was added so far
abbrev pub invariant-loop-bank : goal.invariant-loop-bank
invariant-loop-bank g l =
    let written = g.K.Sink.written in
    let faults = g.K.Sink.write_faults in
    record {
      added : Adds (written l.initial.out) (string_bytes l.initial.buffer) (written l.out) (string_bytes l.buffer) (flat_map bank_part (take l.bank-index l.banks));
      later : faults l.initial.out ≤ faults l.out;
      kept : faults l.out ≡ faults l.initial.out;
    }
