use Rattle.std.proofs.Common.{◌≡◌, ◌≤◌, arith, length, subst}
use Rattle.chv_defs_base.specs.Sizes.{most_entries, most_payload}
use Rattle.chv_defs_memory.specs.BankState.{pins_of}
use Rattle.chv_defs_memory.specs.LegalBank.{IsLegal}
use Rattle.chv_defs_memory.specs.BankBook.{BankBook, bytes_taken, entries_taken}
use Rattle.chv_bank.specs.CallerPins.{total}
use Rattle.chv_bank.proofs.KeptSteps.{seen}
use Rattle.chv_bank.proofs.bank.Bank.history.Goals as goal

pub returns-clause-legal : goal.returns-clause-legal
returns-clause-legal c = subst (λ (b : BankBook). IsLegal b.bank b.history) c.self.view_is c.self.invariant.legal

pub returns-clause-entries : goal.returns-clause-entries
returns-clause-entries c =
    let pins : total c.self.inside.state.pins ≡ length (pins_of c.self.inside.history.items) = c.self.invariant.state.pins.counted in
    let fits : entries_taken (seen c.self.inside) ≤ most_entries = omega (arith, pins, c.self.invariant.entries_fit) in
    subst (λ (b : BankBook). entries_taken b ≤ most_entries) c.self.view_is fits

pub returns-clause-bytes : goal.returns-clause-bytes
returns-clause-bytes c =
    let fits : bytes_taken (seen c.self.inside) ≤ most_payload = omega (arith, c.self.invariant.bytes_counted, c.self.invariant.bytes_fit) in
    subst (λ (b : BankBook). bytes_taken b ≤ most_payload) c.self.view_is fits
