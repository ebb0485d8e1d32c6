use Rattle.std.proofs.Common.{rules}
use Rattle.chv_bank.proofs.bank.Bank.refusal.Goals as goal

pub returns-in-Some : goal.returns-in-Some
returns-in-Some c = search rules

pub returns-then-passes_limit : goal.returns-then-passes_limit
returns-then-passes_limit c = search rules

pub returns : goal.returns
returns c = search rules
