use Rattle.std.proofs.Common.{string_bytes}
use Rattle.chv_top.proofs.Texts.{fault_same}
use Rattle.chv_trace.proofs.Joined.{printed_same}
use Rattle.chv_top.proofs.lines.scene_fault.Goals as goal

pub returns : goal.returns
returns c = printed_same string_bytes _ _ _ c.format.ensures.ok (fault_same _ _ _ c.name-reason.ensures)
