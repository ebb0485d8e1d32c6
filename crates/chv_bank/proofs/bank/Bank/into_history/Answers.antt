use Rattle.std.proofs.Common.{rules, subst}
use Rattle.chv_defs_memory.specs.LegalBank.{IsLegal}
use Rattle.chv_defs_memory.specs.BankBook.{BankBook}
use Rattle.chv_bank.proofs.bank.Bank.into_history.Goals as goal

pub returns-clause-legal : goal.returns-clause-legal
returns-clause-legal c = subst (λ (b : BankBook). IsLegal b.bank b.history) c.self.view_is c.self.invariant.legal

pub returns-clause-value : goal.returns-clause-value
returns-clause-value c = search rules
