use Rattle.std.proofs.Common.{rules}
use Rattle.chv_trace.proofs.bank_texts.call_text.Goals as goal

pub returns-in-Open : goal.returns-in-Open
returns-in-Open c = search rules
