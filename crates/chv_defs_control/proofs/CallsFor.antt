-- The owner's calls that a control history asks for grow by those of its last entry.
use Rattle.std.proofs.Common.{◌≡◌, ℕ, List, [], ◌∷◌, ◌++◌, sym, subst, ap, ◌∙◌, append_assoc}
use Rattle.std.proofs.lemmas.List.{append-nil}
use Rattle.chv_defs_memory.specs.declared.bank.BankCall.{BankCall}
use Rattle.chv_defs_control.specs.declared.machine.Machine.{Machine}
use Rattle.chv_defs_api.specs.declared.shelf.OnShelf.{OnShelf}
use Rattle.chv_defs_api.specs.declared.control.ControlEntry.{ControlEntry}
use Rattle.chv_defs_control.specs.ApiStep.{after}
use Rattle.chv_defs_control.specs.LegalControl.{Leads}
use Rattle.chv_defs_control.specs.OwnerCalls.{calls_for, owner_calls}

-- one more entry, of the machine that the entries before it lead to
pub calls_for-push : (shelf : List OnShelf) (old m : Machine) (history : List ControlEntry) (entry : ControlEntry) (zone bank : ℕ) → Leads shelf old history m
    → calls_for old (history ++ entry ∷ []) zone bank ≡ calls_for old history zone bank ++ owner_calls m entry.call entry.reply zone bank
calls_for-push shelf old m [] entry zone bank leads =
    append-nil (owner_calls old entry.call entry.reply zone bank) ∙ ap (λ (x : Machine). owner_calls x entry.call entry.reply zone bank) (sym leads)
calls_for-push shelf old m (e ∷ es) entry zone bank (middle, step, rest) =
    let next : Machine = after old e.caller e.call e.reply in
    let here : List BankCall = owner_calls old e.call e.reply zone bank in
    let behind : Leads shelf next es m = subst (λ (x : Machine). Leads shelf x es m) step.left rest in
    ap (λ (calls : List BankCall). here ++ calls) (calls_for-push shelf next m es entry zone bank behind)
    ∙ sym (append_assoc here (calls_for next es zone bank) (owner_calls m entry.call entry.reply zone bank))
