-- What a bank's history is like while its bank is lent to contexts, whoever holds the bank.
use Rattle.std.specs.Prelude.{◌≡◌, ℕ, ◌==◌, true, List, [], filter, Option, None, Some}
use Rattle.std.specs.List.{list_all}
use Rattle.chv_defs_memory.specs.declared.bank.BankEntry.{BankEntry}
use Rattle.chv_defs_memory.specs.BankState.{is_frozen, pins_of, PinOut}
use Rattle.chv_defs_memory.specs.Lending.{is_in}

-- the entries that a caller made
abbrev pub made_by : ℕ → List BankEntry → List BankEntry
made_by caller history = filter (λ (e : BankEntry). e.caller == caller) history

-- What was seen of a history is told, and the caller's entries in it are these and no others.
abbrev pub TellsOwn : ℕ → Option (List BankEntry) → List BankEntry → Type 0
TellsOwn caller None own = ⊥
TellsOwn caller (Some seen) own = own ≡ made_by caller seen

-- each outstanding pin is one of these contexts'
abbrev pub ArePinsOf : List ℕ → List BankEntry → Type 0
ArePinsOf lent history = list_all (λ (pin : PinOut). is_in pin.caller lent) (pins_of history) ≡ true

-- A bank is lent to these contexts alone: each outstanding pin is one of theirs, so that none is outstanding while nobody is
-- lent; and where the bank is frozen nobody is.
pub record IsLentTo (lent : List ℕ) (history : List BankEntry) : Type 0 where
  pub pins : ArePinsOf lent history
  pub home : is_frozen history ≡ true → lent ≡ []
