-- What the code keeps beside a bank's history, and how it follows the history.
use Rattle.std.specs.Prelude.{◌≡◌, ℕ, ◌<◌, List, [], ◌∷◌, ◌++◌, length, filter, unwrap_or}
use Rattle.chv_defs_memory.specs.declared.bank.BankCall.{BankCall}
use Rattle.chv_defs_memory.specs.declared.bank.BankCall.TheVariants as call
use Rattle.chv_defs_memory.specs.declared.bank.BankReply.{BankReply}
use Rattle.chv_defs_memory.specs.declared.bank.BankReply.TheVariants as reply
use Rattle.chv_defs_memory.specs.declared.bank.BankEntry.{BankEntry}
use Rattle.chv_defs_memory.specs.BlockSets.{has}
use Rattle.chv_defs_memory.specs.PageContents.{byte_at}
use Rattle.chv_defs_memory.specs.BankState.{PinOut, pins_of, is_open, is_sealed, is_frozen, most_blocks, says_open, says_sealed, says_frozen}
use Rattle.chv_defs_memory.specs.LastByte.{last_byte, says_byte}
use Rattle.chv_bank.specs.CallerPins.{HoldPins, is_other}
use Rattle.chv_bank.specs.declared.state.State.{State}

-- the sets and the memory are of the blocks that a zone can have
pub record IsFormed (s : State) : Type 0 where
  pub opened : length s.open_blocks ≡ most_blocks
  pub sealed : length s.sealed_blocks ≡ most_blocks
  pub memory : s.memory.blocks ≡ most_blocks

-- what is kept is what the definitions say at the history's end
pub record IsStateAfter (bank : ℕ) (history : List BankEntry) (s : State) : Type 0 where
  pub formed : IsFormed s
  pub opened : (k : ℕ) → k < most_blocks → has s.open_blocks k ≡ is_open bank history k
  pub sealed : (k : ℕ) → k < most_blocks → has s.sealed_blocks k ≡ is_sealed bank history k
  pub frozen : s.frozen ≡ is_frozen history
  pub pins : HoldPins s.pins (pins_of history)
  pub bytes : (k at : ℕ) → k < most_blocks → byte_at s.memory k at ≡ last_byte bank history k at

-- the outstanding pins after an entry
abbrev pub pins_after : List PinOut → ℕ → BankCall → BankReply → List PinOut
pins_after pins caller (call.Unpin number) r = filter (is_other caller number) pins
pins_after pins caller (call.Pin number span) reply.Pinned = pins ++ record { caller = caller; number = number; span = span } ∷ []
pins_after pins caller c r = pins

-- a step by one entry: each part is what the entry says of it, and as before where it says nothing
pub record Steps (bank : ℕ) (old new : State) (caller : ℕ) (c : BankCall) (r : BankReply) : Type 0 where
  pub formed : IsFormed new
  pub opened : (k : ℕ) → k < most_blocks → has new.open_blocks k ≡ unwrap_or (says_open bank k c r) (has old.open_blocks k)
  pub sealed : (k : ℕ) → k < most_blocks → has new.sealed_blocks k ≡ unwrap_or (says_sealed bank k c r) (has old.sealed_blocks k)
  pub frozen : new.frozen ≡ unwrap_or (says_frozen c) old.frozen
  pub pins : (pins : List PinOut) → HoldPins old.pins pins → HoldPins new.pins (pins_after pins caller c r)
  pub bytes : (k at : ℕ) → k < most_blocks → byte_at new.memory k at ≡ unwrap_or (says_byte bank k at c r) (byte_at old.memory k at)
