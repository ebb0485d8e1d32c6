use Rattle.std.proofs.Common.{rules}
use Rattle.chv_bank.proofs.steps.close.Goals as goal

pub returns-clause-steps : goal.returns-clause-steps
returns-clause-steps c = search rules
