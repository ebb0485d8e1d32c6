-- Where a slice is made: a value through which a context reaches the banks and asks the control machine at once.
use Rattle.std.specs.Prelude.{◌≡◌, ℕ, List, [], ◌∷◌, Option}
use Rattle.chv_defs_api.specs.declared.control.ControlCall.{ControlCall}
use Rattle.chv_defs_api.specs.Desks.{Answer}
use Rattle.chv_defs_memory.specs.declared.bank.BankCall.{BankCall}
use Rattle.chv_defs_memory.specs.declared.bank.BankEntry.{BankEntry}
use Rattle.chv_defs_memory.specs.Lending.{Access}
use Rattle.chv_defs_memory.specs.Zones.{IsBank}
use Rattle.chv_defs_guest.specs.Course.{Course, Exchange, Accessed, Asked, Leads}
use Rattle.chv_defs_guest.specs.Moments.{Makes, Moment, OnlySeesOn}

-- These exchanges were made at a value, one after another, and nothing else was done to it; `accesses` and `asks` say what holds
-- between the value before a call and the value behind it, in a bank and at the control machine.
abbrev pub Chains : {W : Type 0} → (W → ℕ → ℕ → BankCall → Access → W → Type 0) → (W → ControlCall → W → Type 0) → W → List Exchange → W → Type 0
Chains accesses asks before [] after = after ≡ before
Chains {W} accesses asks before (Accessed zone bank call answer ∷ es) after =
    (between : W) × accesses before zone bank call answer between × Chains accesses asks between es after
Chains {W} accesses asks before (Asked call answer ∷ es) after =
    (between : W) × asks before call between × Chains accesses asks between es after

-- An access leaves all that the value means as a desk: its caller, the context that is out with it, its answers, and the last call
-- to which it answered that the run stops.
abbrev pub AccessesKeepTheDesk : {W : Type 0} → (W → ℕ → ℕ → BankCall → Access → W → Type 0)
    → (W → ℕ) → (W → Option ℕ) → (W → List Answer) → (W → Option ControlCall) → Type 0
AccessesKeepTheDesk {W} accesses caller context answers stopped =
    (before after : W) (zone bank : ℕ) (call : BankCall) (answer : Access) → accesses before zone bank call answer after
    → (caller after ≡ caller before) × (context after ≡ context before) × (answers after ≡ answers before) × (stopped after ≡ stopped before)

-- What a call at the control machine leaves of what a value means as a reach: the context's number, its own entries, that it is
-- lent, and the locks behind which the banks stand. Of the banks' histories it may have seen more, by entries of others.
pub record ReachStays {W : Type 0} (caller : W → ℕ) (own : W → ℕ → ℕ → List BankEntry) (seen : W → ℕ → ℕ → Option (List BankEntry))
    (lent : W → ℕ → Type 0) (books : W → List (List ℕ)) (before after : W) : Type 0 where
  pub same_caller : caller after ≡ caller before
  pub same_own : (zone bank : ℕ) → IsBank zone bank → own after zone bank ≡ own before zone bank
  pub sees_on : (zone bank : ℕ) → IsBank zone bank → OnlySeesOn (caller before) (seen before zone bank) (seen after zone bank)
  pub still_lent : lent before (caller before) → lent after (caller after)
  pub same_books : books after ≡ books before

-- A call at the control machine leaves all that the value means as a reach, but for what was seen.
abbrev pub AsksKeepTheReach : {W : Type 0} → (W → ControlCall → W → Type 0)
    → (W → ℕ) → (W → ℕ → ℕ → List BankEntry) → (W → ℕ → ℕ → Option (List BankEntry)) → (W → ℕ → Type 0) → (W → List (List ℕ)) → Type 0
AsksKeepTheReach {W} asks caller own seen lent books =
    (before after : W) (call : ControlCall) → asks before call after → ReachStays caller own seen lent books before after

-- The context is still out: lent to the same number, by the same banks, and with the same caller at the control machine.
pub record StaysOut {W : Type 0} (bank_caller : W → ℕ) (lent : W → ℕ → Type 0) (books : W → List (List ℕ)) (caller : W → ℕ) (context : W → Option ℕ)
    (before after : W) : Type 0 where
  pub still_lent : lent after (bank_caller after)
  pub same_bank_caller : bank_caller after ≡ bank_caller before
  pub same_books : books after ≡ books before
  pub same_caller : caller after ≡ caller before
  pub same_context : context after ≡ context before

-- By a course, exchanges were made at a value, from one moment of it to another, that leave a course still to do.
pub record Does {N W : Type 0} (accesses : W → ℕ → ℕ → BankCall → Access → W → Type 0) (asks : W → ControlCall → W → Type 0)
    (course : Course N) (before : W) (then : Moment) (after : W) (now : Moment) (rest : Course N) : Type 0 where
  pub exchanges : List Exchange
  pub leads : Leads course exchanges rest
  pub makes : Makes then exchanges now
  pub chains : Chains accesses asks before exchanges after
