use Rattle.std.proofs.Common.{rules}
use Rattle.chv_defs_api.specs.Routes.{ping_body}
use Rattle.chv_api.proofs.reply.ping_body.Goals as goal

pub returns : goal.returns
unfolding ping_body
returns c = search rules
