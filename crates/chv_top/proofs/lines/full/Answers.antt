use Rattle.std.proofs.Common.{string_bytes}
use Rattle.chv_top.proofs.Texts.{full_same}
use Rattle.chv_trace.proofs.Joined.{printed_same}
use Rattle.chv_top.proofs.lines.full.Goals as goal

pub returns : goal.returns
returns c = printed_same string_bytes _ _ _ c.format.ensures.ok (full_same _ _ _ _ c.in_ok-book.ensures)
