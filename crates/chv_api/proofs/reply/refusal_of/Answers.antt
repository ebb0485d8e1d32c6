use Rattle.std.proofs.Common.{rules}
use Rattle.chv_api.proofs.reply.refusal_of.Goals as goal

pub returns : goal.returns
returns c = search rules
