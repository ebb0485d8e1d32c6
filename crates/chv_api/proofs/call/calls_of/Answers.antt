use Rattle.std.proofs.Common.{rules}
use Rattle.chv_defs_api.specs.Routes.{call_of_request}
use Rattle.chv_api.proofs.call.calls_of.Goals as goal

pub returns-in-Some : goal.returns-in-Some
unfolding call_of_request
returns-in-Some c = search rules
