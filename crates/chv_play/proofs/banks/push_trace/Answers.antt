use Rattle.std.proofs.Common.{◌∙◌, sym, subst, ℕ}
use Rattle.chv_defs_memory.specs.LegalBank.{IsLegal}
use Rattle.chv_defs.specs.declared.trace.BankTrace.{BankTrace}
use Rattle.chv_play.proofs.TraceLemmas.{legal_pushed}
use Rattle.chv_play.proofs.banks.push_trace.Goals as goal

pub returns-clause-legal : goal.returns-clause-legal
returns-clause-legal c =
    let b : BankTrace = record { zone = c.number-zone.result.0; bank = c.number-zone.result.1; entries = c.into_history-entries.result } in
    legal_pushed c.push.result c.args.traces.now c.push.new.self b c.push.ensures.ok
    (subst (λ entries. IsLegal c.number-zone.result.1 entries) (sym c.into_history-entries.ensures.value)
    (subst (λ (bank : ℕ). IsLegal bank c.args.bank.history) (sym c.number-zone.ensures.bank) c.into_history-entries.ensures.legal))
