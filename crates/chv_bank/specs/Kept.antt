-- What the type of a bank keeps.
use Rattle.std.specs.Prelude.{◌≡◌, ◌<◌, ◌≤◌, ◌+◌, ◌*◌, length}
use Rattle.std.specs.Vec.{vec_capacity}
use Rattle.chv_defs_memory.specs.BankState.{banks, payload}
use Rattle.chv_defs_base.specs.Sizes.{most_entries, most_payload}
use Rattle.chv_defs_memory.specs.LegalBank.{IsLegal}
use Rattle.chv_bank.specs.declared.bank.Bank.TheInside.{Inside}
use Rattle.chv_bank.specs.Caches.{IsStateAfter}
use Rattle.chv_bank.specs.CallerPins.{total}

-- the history is legal, and what is kept beside it is what the definitions say at its end; every place that is reserved
-- or kept for an Unpin is below the limits, and there is memory for it
pub record IsKept (b : Inside) : Type 0 where
  pub bank_known : b.bank < banks
  pub legal : IsLegal b.bank b.history.items
  pub state : IsStateAfter b.bank b.history.items b.state
  pub bytes_counted : b.payload ≡ payload b.history.items
  pub sheets_counted : b.sheets ≡ b.state.memory.reserved
  pub entries_fit : length b.history.items + b.reserved + total b.state.pins ≤ most_entries
  pub bytes_fit : b.payload + b.sheets * 4096 ≤ most_payload
  pub room : length b.history.items + b.reserved + total b.state.pins ≤ vec_capacity b.history
