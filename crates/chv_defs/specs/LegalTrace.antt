-- Legal traces: what holds of everything that happened in a run, whatever the order in which it happened. So far these are the
-- traces of runs of sessions, in which no context is ever lent.
use Rattle.std.specs.Prelude.{◌≡◌, ◌≢◌, ◌<◌, ◌⊎◌, ℕ, ◌==◌, ◌&&◌, Bool, true, List, [], ◌∷◌, map, find, Option, None, Some}
use Rattle.std.specs.List.{AllByRecursion, Contains, list_all}
use Rattle.chv_defs_control.specs.declared.machine.Machine.{Machine}
use Rattle.chv_defs_api.specs.declared.shelf.OnShelf.{OnShelf}
use Rattle.chv_defs_api.specs.declared.control.ControlEntry.{ControlEntry}
use Rattle.chv_defs_api.specs.declared.session.SessionEnd.TheVariants as end
use Rattle.chv_defs_memory.specs.declared.bank.BankEntry.{BankEntry}
use Rattle.chv_defs.specs.declared.trace.Trace.{Trace}
use Rattle.chv_defs.specs.declared.trace.BankTrace.{BankTrace}
use Rattle.chv_defs.specs.declared.trace.SessionTrace.{SessionTrace}
use Rattle.chv_defs_control.specs.LegalControl.{IsLegal, answers_by}
use Rattle.chv_defs_control.specs.OwnerCalls.{IsLinked}
use Rattle.chv_defs_memory.specs.LegalBank as bank_law
use Rattle.chv_defs_memory.specs.Zones.{IsBank}
use Rattle.chv_defs_api.specs.Desks.{IsSession}
use Rattle.chv_defs_api.specs.SessionBytes.{IsSessionLog}

-- ---- sessions

-- A session ended, and was not stopped; and it made the calls of its requests in order, and then one Bye: its entries in the
-- control history are the calls of a session that asked and replied so and ended so.
abbrev pub MadeItsCalls : List ControlEntry → SessionTrace → Type 0
MadeItsCalls history session =
    (session.log.end ≢ end.Stopped)
    × IsSessionLog session.log.end session.log.asked session.log.replied (answers_by session.session history)

-- Each of the sessions did so.
abbrev pub AreInOrder : List ControlEntry → List SessionTrace → Type 0
AreInOrder history sessions = AllByRecursion (MadeItsCalls history) sessions

-- the numbers of the sessions that a trace has, in its order
abbrev pub numbers_of : List SessionTrace → List ℕ
numbers_of sessions = map (λ (session : SessionTrace). session.session) sessions

-- a session has a lower number than another
abbrev pub IsLower : SessionTrace → SessionTrace → Type 0
IsLower a b = a.session < b.session

-- Each of the sessions has a number from 1 to 16, and the numbers ascend, none standing twice. (A session that has no lines is not
-- among them, so that there may be gaps.)
abbrev pub AreNumbered : List SessionTrace → Type 0
AreNumbered [] = Unit {0}
AreNumbered (session ∷ sessions) = IsSession session.session × AllByRecursion (IsLower session) sessions × AreNumbered sessions

-- The caller of an entry is one of these sessions, by its number.
abbrev pub IsCallOfOne : List SessionTrace → ControlEntry → Type 0
IsCallOfOne sessions entry = Contains (numbers_of sessions) entry.caller

-- No entry is another caller's: each is the call of one of the sessions that the trace has. So a session without lines has made no
-- call.
abbrev pub AreCallsOf : List SessionTrace → List ControlEntry → Type 0
AreCallsOf sessions history = AllByRecursion (IsCallOfOne sessions) history

-- ---- banks

-- whether this is the history of the bank of this zone and number
abbrev pub is_of_bank : ℕ → ℕ → BankTrace → Bool
is_of_bank zone bank b = b.zone == zone && b.bank == bank

-- the entries of a bank that may be there
abbrev pub entries_or_none : Option BankTrace → List BankEntry
entries_or_none None = []
entries_or_none (Some b) = b.entries

-- The history of a bank among these; of one that is not among them it is empty.
abbrev pub entries_in : List BankTrace → ℕ → ℕ → List BankEntry
entries_in banks zone bank = entries_or_none (find (is_of_bank zone bank) banks)

-- whether an entry is the owner's
abbrev pub is_owners : BankEntry → Bool
is_owners e = e.caller == 0

-- A bank of the trace is one that there is, has entries, and its history is legal. All of them are the owner's, as no context is
-- ever lent so far.
pub record IsLegalBank (b : BankTrace) : Type 0 where
  pub there : IsBank b.zone b.bank
  pub some : b.entries ≢ []
  pub legal : bank_law.IsLegal b.bank b.entries
  pub owners : list_all is_owners b.entries ≡ true

-- a bank stands before another: in a lower zone, or with a lower number in the same one
abbrev pub IsBefore : BankTrace → BankTrace → Type 0
IsBefore a b = (a.zone < b.zone) ⊎ ((a.zone ≡ b.zone) × (a.bank < b.bank))

-- the banks ascend, none standing twice
abbrev pub Ascend : List BankTrace → Type 0
Ascend [] = Unit {0}
Ascend (b ∷ banks) = AllByRecursion (IsBefore b) banks × Ascend banks

-- ---- the whole

-- A trace is legal, where these disks stand by. The control history is legal; so is that of each bank, and the banks ascend; in
-- each bank the owner's calls are those that the control history asks for, and no others. The sessions' numbers lie in 1 to 16
-- and ascend; each control entry is the call of one of them, and each of them made its calls in order.
pub record IsLegalTrace (shelf : List OnShelf) (trace : Trace) : Type 0 where
  pub machine : Machine
  pub legal : IsLegal shelf trace.control machine
  pub banks : AllByRecursion IsLegalBank trace.banks
  pub ascend : Ascend trace.banks
  pub linked : IsLinked trace.control (entries_in trace.banks)
  pub numbers : AreNumbered trace.sessions
  pub callers : AreCallsOf trace.sessions trace.control
  pub in_order : AreInOrder trace.control trace.sessions
