use Rattle.std.proofs.Common.{◌≡◌, ◌∙◌, sym, ap, subst, arith, List, [], length}
use Rattle.chv_defs_memory.specs.declared.bank.BankEntry.{BankEntry}
use Rattle.chv_defs_memory.specs.BankState.{payload}
use Rattle.chv_defs_memory.specs.LegalBank.{IsLegal}
use Rattle.chv_bank.specs.Caches.{IsStateAfter}
use Rattle.chv_bank.specs.CallerPins.{total}
use Rattle.chv_bank.proofs.Appended.{IsLegal-none}
use Rattle.chv_bank.proofs.bank.Bank.new.Goals as goal

pub invariant_of-result : goal.invariant_of-result
invariant_of-result c =
    let none : [] ≡ c.new-2.result.items = sym c.new-2.ensures.items in
    let state : IsStateAfter c.args.bank [] c.in_ok-state.state = c.in_ok-state.ensures.state c.args.bank in
    let long : length c.new-2.result.items ≡ 0 = ap length c.new-2.ensures.items in
    let pins : total c.in_ok-state.state.pins ≡ 0 = state.pins.counted in
    let sheets : c.none.result ≡ 0 = c.none.ensures in
    record {
      bank_known = c.requires;
      legal = subst (λ (h : List BankEntry). IsLegal c.args.bank h) none (IsLegal-none c.args.bank);
      state = subst (λ (h : List BankEntry). IsStateAfter c.args.bank h c.in_ok-state.state) none state;
      bytes_counted = sym (ap payload c.new-2.ensures.items);
      sheets_counted = sheets ∙ sym c.in_ok-state.ensures.reserved;
      entries_fit = omega (arith, long, pins);
      bytes_fit = omega (arith, sheets);
      room = omega (arith, long, pins);
    }
