-- Refused calls change nothing.
use Rattle.std.proofs.Common.{◌≡◌, ℕ, Bool, true, false, List, [], ◌∷◌, filter, if◌then◌else◌, refl, subst, ◌∙◌}
use Rattle.chv_defs_control.specs.declared.machine.Machine.{Machine}
use Rattle.chv_defs_api.specs.declared.shelf.OnShelf.{OnShelf}
use Rattle.chv_defs_api.specs.declared.control.Goal.TheVariants.{Shutdown, Delete}
use Rattle.chv_defs_api.specs.declared.control.ControlCall.{ControlCall}
use Rattle.chv_defs_api.specs.declared.control.ControlCall.TheVariants as call
use Rattle.chv_defs_api.specs.declared.control.ControlReply.{ControlReply}
use Rattle.chv_defs_api.specs.declared.control.ControlReply.TheVariants as reply
use Rattle.chv_defs_api.specs.declared.control.ControlEntry.{ControlEntry}
use Rattle.chv_defs_control.specs.ApiStep.{after}
use Rattle.chv_defs_control.specs.ControlStep.{Step}
use Rattle.chv_defs_control.specs.LegalControl.{Leads, is_accepting, is_accepted}

after-Ruled : (m : Machine) (caller : ℕ) (c : ControlCall) (r : ControlReply) → is_accepting r ≡ false → after m caller c r ≡ m
after-Ruled m caller (call.Create config) reply.Done h = cc
after-Ruled m caller call.Boot reply.Done h = cc
after-Ruled m caller (call.Begin Shutdown) reply.Done h = cc
after-Ruled m caller (call.Begin Delete) reply.Done h = cc
after-Ruled m caller (call.AddDisk disk) reply.Done h = cc
after-Ruled m caller (call.Remove id) reply.Done h = cc
after-Ruled m caller call.Bye reply.Done h = cc
after-Ruled m caller call.Stop reply.Done h = cc
after-Ruled m caller c r h = refl

-- with the entry where it was accepted, and without it where it was refused
with_or_without : (shelf : List OnShelf) (old new middle : Machine) (entry : ControlEntry) (rest : List ControlEntry) (b : Bool) → is_accepted entry ≡ b → Step shelf old entry middle → Leads shelf middle rest new → Leads shelf old (if b then entry ∷ rest else rest) new
with_or_without shelf old new middle entry rest true h step leads = (middle, step, leads)
with_or_without shelf old new middle entry rest false h step leads =
    subst (λ m. Leads shelf m rest new) (step.left ∙ after-Ruled old entry.caller entry.call entry.reply h) leads

pub refusals : (shelf : List OnShelf) (old new : Machine) (history : List ControlEntry) → Leads shelf old history new → Leads shelf old (filter is_accepted history) new
refusals shelf old new [] leads = leads
refusals shelf old new (e ∷ es) (middle, step, rest) =
    with_or_without shelf old new middle e (filter is_accepted es) (is_accepted e) refl step (refusals shelf middle new es rest)
