-- Laws of legal bank histories, over whole histories. Places are counted from 0; what holds at a place is what the
-- entries before it say.
use Rattle.std.specs.Prelude.{◌≡◌, ◌<◌, ◌≤◌, ℕ, ◌+◌, ◌-◌, ◌*◌, ◌==◌, ◌&&◌, Bool, true, false, nat_lt, slice_get, slice_index, take, List, length, Option, None, Some}
use Rattle.chv_defs_memory.specs.declared.bank.BankCall.{BankCall}
use Rattle.chv_defs_memory.specs.declared.bank.BankCall.TheVariants as call
use Rattle.chv_defs_memory.specs.declared.bank.BankReply.{BankReply}
use Rattle.chv_defs_memory.specs.declared.bank.BankReply.TheVariants as reply
use Rattle.chv_defs_memory.specs.declared.bank.BankEntry.{BankEntry}
use Rattle.chv_defs_memory.specs.PageContents.{is_inside}
use Rattle.chv_defs_memory.specs.BankState.{PinOut, names, if_named, gives_back, is_open, is_sealed}
use Rattle.chv_defs_memory.specs.LastByte.{last_byte}
use Rattle.chv_defs_memory.specs.LegalBank.{IsLegal}

-- ---- pins

-- A pin is held at a place: an entry before it made the pin, and no entry between the two gives it back.
pub record IsHeldAt (history : List BankEntry) (pin : PinOut) (from at : ℕ) : Type 0 where
  pub made : slice_get history from ≡ Some (record { caller = pin.caller; call = call.Pin pin.number pin.span; reply = reply.Pinned })
  pub later : from < at
  pub inside : at ≤ length history
  pub kept : (k : ℕ) (e : BankEntry) → from < k → k < at → slice_get history k ≡ Some e → gives_back pin e ≡ false

-- Between a Pin that is answered Pinned and its Unpin the blocks are open and not sealed at every place.
abbrev pub PinnedBlocksStayOpen : Type 0
PinnedBlocksStayOpen = (bank : ℕ) (history : List BankEntry) (pin : PinOut) (from at block : ℕ) → IsLegal bank history → IsHeldAt history pin from at → names bank pin.span block ≡ true →
    (is_open bank (take at history) block ≡ true) × (is_sealed bank (take at history) block ≡ false)

-- whether a call freezes, shapes or wipes the bank
abbrev pub overturns : BankCall → Bool
overturns (call.Shape n) = true
overturns call.Wipe = true
overturns call.Freeze = true
overturns c = false

-- No entry there freezes, shapes or wipes the bank.
abbrev pub PinnedBankIsLeft : Type 0
PinnedBankIsLeft = (bank : ℕ) (history : List BankEntry) (pin : PinOut) (from at : ℕ) (e : BankEntry) → IsLegal bank history → IsHeldAt history pin from at → slice_get history at ≡ Some e → overturns e.call ≡ false

-- ---- closed blocks

-- whether a call opens a block of the bank
abbrev pub opens : ℕ → ℕ → BankCall → Bool
opens bank block (call.Shape n) = nat_lt block n
opens bank block (call.Open span) = names bank span block
opens bank block c = false

-- whether a call reads, writes or pins a block of the bank
abbrev pub reaches : ℕ → ℕ → BankCall → Bool
reaches bank block (call.Read b offset len) = b == block
reaches bank block (call.Write b offset bytes) = b == block
reaches bank block (call.Pin number span) = names bank span block
reaches bank block c = false

-- whether an entry closes a block of the bank
abbrev pub is_close : ℕ → ℕ → BankCall → BankReply → Bool
is_close bank block (call.Close span) reply.Closed = names bank span block
is_close bank block c r = false

-- whether a reply is a fault
abbrev pub is_fault : BankReply → Bool
is_fault (reply.Fault block) = true
is_fault r = false

-- A block is closed from one place to another: a Close of it was answered Closed, and no entry between the two opens it.
pub record IsClosedAt (bank : ℕ) (history : List BankEntry) (block from at : ℕ) : Type 0 where
  pub closing : BankEntry
  pub stands : slice_get history from ≡ Some closing
  pub closes : is_close bank block closing.call closing.reply ≡ true
  pub later : from < at
  pub inside : at ≤ length history
  pub kept : (k : ℕ) (e : BankEntry) → from < k → k < at → slice_get history k ≡ Some e → opens bank block e.call ≡ false

-- Between a Close of a block and the next Open or Shape that opens it, no Read, Write or Pin of it is done.
abbrev pub ClosedBlocksAreNotReached : Type 0
ClosedBlocksAreNotReached = (bank : ℕ) (history : List BankEntry) (block from at : ℕ) (e : BankEntry) → IsLegal bank history → IsClosedAt bank history block from at → slice_get history at ≡ Some e → reaches bank block e.call ≡ true → is_fault e.reply ≡ true

-- ---- bytes

-- A newly opened block reads as zero.
abbrev pub OpenedBlocksAreZero : Type 0
OpenedBlocksAreZero = (bank : ℕ) (history : List BankEntry) (from block at : ℕ) (e : BankEntry) → slice_get history from ≡ Some e → opens bank block e.call ≡ true → last_byte bank (take (from + 1) history) block at ≡ 0

-- the byte that a done Write or Fill puts at an offset of a block
abbrev pub puts : ℕ → ℕ → BankCall → BankReply → Option ℕ
puts block at (call.Write b offset bytes) reply.Done = if_named (b == block && is_inside offset (length bytes) at) (slice_index bytes (at - offset))
puts block at (call.Fill b page bytes) reply.Done = if_named (b == block && is_inside (page * 4096) (length bytes) at) (slice_index bytes (at - page * 4096))
puts block at c r = None

-- whether an entry opens or closes a block, or shapes or wipes the bank
abbrev pub replaces : ℕ → ℕ → BankCall → BankReply → Bool
replaces bank block (call.Open span) r = names bank span block
replaces bank block (call.Close span) reply.Closed = names bank span block
replaces bank block (call.Shape n) r = true
replaces bank block call.Wipe r = true
replaces bank block c r = false

-- An entry puts a byte at an offset of a block, and no entry between it and another place puts one there or replaces the
-- block.
pub record IsLastWritten (bank : ℕ) (history : List BankEntry) (block at byte from to : ℕ) : Type 0 where
  pub writing : BankEntry
  pub stands : slice_get history from ≡ Some writing
  pub put : puts block at writing.call writing.reply ≡ Some byte
  pub later : from < to
  pub kept : (k : ℕ) (e : BankEntry) → from < k → k < to → slice_get history k ≡ Some e → (puts block at e.call e.reply ≡ None) × (replaces bank block e.call e.reply ≡ false)

-- A Read that is done gives at each offset the byte of the last done Write or Fill that covers it.
abbrev pub ReadsGiveTheLastWrite : Type 0
ReadsGiveTheLastWrite = (bank : ℕ) (history : List BankEntry) (block offset len k byte from to caller : ℕ) (bytes : List ℕ) → IsLegal bank history → IsLastWritten bank history block (offset + k) byte from to →
    slice_get history to ≡ Some (record { caller = caller; call = call.Read block offset len; reply = reply.Got bytes }) → k < len → slice_index bytes k ≡ byte

-- An entry opens a block, and no entry between it and another place puts a byte at an offset of the block.
pub record IsUnwritten (bank : ℕ) (history : List BankEntry) (block at from to : ℕ) : Type 0 where
  pub opening : BankEntry
  pub stands : slice_get history from ≡ Some opening
  pub opened : opens bank block opening.call ≡ true
  pub later : from < to
  pub kept : (k : ℕ) (e : BankEntry) → from < k → k < to → slice_get history k ≡ Some e → puts block at e.call e.reply ≡ None

-- A Read that is done gives 0 at each offset that no done Write or Fill covers since the block was opened.
abbrev pub UnwrittenBytesAreZero : Type 0
UnwrittenBytesAreZero = (bank : ℕ) (history : List BankEntry) (block offset len k from to caller : ℕ) (bytes : List ℕ) → IsLegal bank history → IsUnwritten bank history block (offset + k) from to →
    slice_get history to ≡ Some (record { caller = caller; call = call.Read block offset len; reply = reply.Got bytes }) → k < len → slice_index bytes k ≡ 0
