-- Control histories grow by one step at their end.
use Rattle.std.proofs.Common.{List, [], ◌∷◌, ◌++◌, refl, subst}
use Rattle.chv_defs_control.specs.declared.machine.Machine.{Machine}
use Rattle.chv_defs_api.specs.declared.shelf.OnShelf.{OnShelf}
use Rattle.chv_defs_api.specs.declared.control.ControlEntry.{ControlEntry}
use Rattle.chv_defs_control.specs.ControlStep.{Step}
use Rattle.chv_defs_control.specs.LegalControl.{Leads}

-- a step from where the entries lead to
pub Leads-push : (shelf : List OnShelf) (old middle new : Machine) (history : List ControlEntry) (entry : ControlEntry) → Leads shelf old history middle → Step shelf middle entry new → Leads shelf old (history ++ entry ∷ []) new
Leads-push shelf old middle new [] entry leads step = (new, subst (λ m. Step shelf m entry new) leads step, refl)
Leads-push shelf old middle new (e ∷ es) entry (next, first, rest) step = (next, first, Leads-push shelf next middle new es entry rest step)
