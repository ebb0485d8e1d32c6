-- What a control call asks of the banks of the zones in effect, and what it leaves there.
use Rattle.std.specs.Prelude.{◌≡◌, ◌<◌, ℕ, Bool, length, Option, None, Some, Result, Ok, Err}
use Rattle.chv_defs_base.specs.declared.book.Full.{Full}
use Rattle.chv_defs_control.specs.declared.machine.Machine.{Machine}
use Rattle.chv_defs_memory.specs.BankState.{banks, is_frozen}
use Rattle.chv_defs_memory.specs.MadeCalls.{IsAtRest}
use Rattle.chv_defs_control.specs.OwnerCalls.{zones_of}
use Rattle.chv_defs_memory.specs.Zones.{IsBank, Known}

-- A bank at rest that is frozen, or that is not.
pub record IsAtRestSo (frozen : Bool) (known : Known) : Type 0 where
  pub rest : IsAtRest known
  pub frozen_so : is_frozen known.history ≡ frozen

-- the banks of the zones in effect are at rest, all of them frozen or none
abbrev pub AreAtRest : Bool → Machine → (ℕ → ℕ → Known) → Type 0
AreAtRest frozen m known = (z b : ℕ) → z < length (zones_of m) → b < banks → IsAtRestSo frozen (known z b)

-- all banks are as before
abbrev pub AreAsBefore : (ℕ → ℕ → Known) → (ℕ → ℕ → Known) → Type 0
AreAsBefore before after = (z b : ℕ) → IsBank z b → after z b ≡ before z b

-- the answer, which is a book that is full where one is
abbrev pub unless_full : Option Full → Result (Unit {0}) Full
unless_full None = Ok (tt {0})
unless_full (Some full) = Err full
