use Rattle.std.proofs.Common.{string_bytes}
use Rattle.chv_top.proofs.Texts.{bank_same}
use Rattle.chv_trace.proofs.Joined.{printed_same}
use Rattle.chv_top.proofs.lines.book.Goals as goal

pub returns-in-Bank : goal.returns-in-Bank
returns-in-Bank c = rw c.in-Bank.is (printed_same string_bytes _ _ _ c.format.ensures.ok (bank_same _ _))
