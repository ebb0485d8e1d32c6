use Rattle.std.proofs.Common.{rules}
use Rattle.chv_http.proofs.parser.release.Goals as goal

pub returns-clause-kept : goal.returns-clause-kept
returns-clause-kept c = search rules
