use Rattle.std.proofs.Common.{string_bytes, decimal}
use Rattle.chv_trace.proofs.Joined.{cpu_same, printed_same}
use Rattle.chv_trace.proofs.notes.cpu_text.Goals as goal

pub returns : goal.returns
returns c =
    let n = c.args.note.now in
    printed_same string_bytes _ _ _ c.format.ensures.ok
    (cpu_same (decimal n.vcpu) (decimal n.pos) (decimal n.fuel) _ _ _ _ c.flag-halted.ensures c.in_ok-regs.ensures)
