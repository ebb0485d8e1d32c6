-- Control histories: each entry is a step from the state that the entries before it leave.
use Rattle.std.specs.Prelude.{◌≡◌, ◌==◌, ℕ, List, [], ◌∷◌, Bool, true, false, map, filter}
use Rattle.chv_defs_control.specs.declared.machine.Machine.{Machine}
use Rattle.chv_defs_api.specs.declared.shelf.OnShelf.{OnShelf}
use Rattle.chv_defs_api.specs.declared.control.ControlReply.{ControlReply}
use Rattle.chv_defs_api.specs.declared.control.ControlReply.TheVariants as reply
use Rattle.chv_defs_api.specs.declared.control.ControlEntry.{ControlEntry}
use Rattle.chv_defs_control.specs.Machine.{empty_machine}
use Rattle.chv_defs_api.specs.Desks.{Answer}
use Rattle.chv_defs_control.specs.ControlStep.{Step}

-- Where these disks stand by, the entries lead from the old state to the new one.
abbrev pub Leads : List OnShelf → Machine → List ControlEntry → Machine → Type 0
Leads shelf old [] new = new ≡ old
Leads shelf old (entry ∷ entries) new = (middle : Machine) × Step shelf old entry middle × Leads shelf middle entries new

-- A history is legal where these disks stand by, with this as its last state, where it leads from the empty state to it.
abbrev pub IsLegal : List OnShelf → List ControlEntry → Machine → Type 0
IsLegal shelf history machine = Leads shelf empty_machine history machine

-- A caller's entries, in order.
abbrev pub entries_by : ℕ → List ControlEntry → List ControlEntry
entries_by caller history = filter (λ (e : ControlEntry). e.caller == caller) history

-- A caller's calls, each with its answer, in order.
abbrev pub answers_by : ℕ → List ControlEntry → List Answer
answers_by caller history = map (λ (e : ControlEntry). record { call = e.call; reply = e.reply }) (entries_by caller history)

-- whether an answer is no refusal by rule
abbrev pub is_accepting : ControlReply → Bool
is_accepting (reply.Ruled rule) = false
is_accepting _ = true

-- whether an entry's call was not refused by rule
abbrev pub is_accepted : ControlEntry → Bool
is_accepted e = is_accepting e.reply

-- The law that a refused call changes nothing, over whole histories: without the refused calls a history leads to
-- the same state.
abbrev pub RefusalsChangeNothing : Type 0
RefusalsChangeNothing =
    (shelf : List OnShelf) (old new : Machine) (history : List ControlEntry) → Leads shelf old history new
    → Leads shelf old (filter is_accepted history) new
