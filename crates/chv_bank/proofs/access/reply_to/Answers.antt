use Rattle.std.proofs.Common.{rules}
use Rattle.chv_bank.proofs.access.reply_to.Goals as goal

pub returns-in_ok-bytes-in-Read : goal.returns-in_ok-bytes-in-Read
returns-in_ok-bytes-in-Read c = search rules
