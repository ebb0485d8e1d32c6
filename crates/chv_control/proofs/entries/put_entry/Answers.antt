use Rattle.std.proofs.Common.{arith, rules}
use Rattle.std.proofs.lemmas.Grind.{common_steps}
use Rattle.chv_control.proofs.entries.put_entry.Goals as goal

pub returns-clause-items : goal.returns-clause-items
returns-clause-items c = search rules

pub returns-clause-len : goal.returns-clause-len
returns-clause-len c = grind (arith, common_steps)
