-- What a bank's history says of its blocks. A bank is one lock's share of a memory zone; its history is the list of its
-- entries. Which blocks are open or sealed, whether the bank is frozen, and which pins are outstanding is asked of the
-- entries before a place, read backwards from the latest one that decides. Banks are this project's own; a block has the
-- 2 MiB of the memory device's `block_size` (OASIS VIRTIO 1.2, 5.15).
use Rattle.std.specs.Prelude.{◌≡◌, ◌≤◌, ◌<◌, ℕ, ◌+◌, ◌%◌, ◌==◌, ◌&&◌, Bool, true, false, nat_lt, min, if◌then◌else◌, List, [], ◌∷◌, length, map, filter, find, sum_by, Option, None, Some, unwrap_or}
use Rattle.std.specs.List.{list_any, range_with_len}
use Rattle.chv_defs_memory.specs.declared.bank.Span.{Span}
use Rattle.chv_defs_memory.specs.declared.bank.BankCall.{BankCall}
use Rattle.chv_defs_memory.specs.declared.bank.BankCall.TheVariants as call
use Rattle.chv_defs_memory.specs.declared.bank.BankReply.{BankReply}
use Rattle.chv_defs_memory.specs.declared.bank.BankReply.TheVariants as reply
use Rattle.chv_defs_memory.specs.declared.bank.BankEntry.{BankEntry}
use Rattle.chv_defs_memory.specs.BlockSets.{is_within}

-- ---- blocks

-- how many banks a zone has
abbrev pub banks : ℕ
banks = 1

-- how many blocks a zone has at most
abbrev pub most_blocks : ℕ
most_blocks = 32768

-- whether a block of the zone belongs to the bank
abbrev pub belongs : ℕ → ℕ → Bool
belongs bank block = block % banks == bank

-- whether a span names a block of the bank
abbrev pub names : ℕ → Span → ℕ → Bool
names bank span block = belongs bank block && is_within span block

-- the blocks of the bank that a span names, ascending
abbrev pub blocks_in : ℕ → Span → List ℕ
blocks_in bank span = filter (belongs bank) (range_with_len span.first span.count)

-- the blocks of the bank that a call names, ascending
abbrev pub blocks_of : ℕ → BankCall → List ℕ
blocks_of bank (call.Open span) = blocks_in bank span
blocks_of bank (call.Seal span) = blocks_in bank span
blocks_of bank (call.Unseal span) = blocks_in bank span
blocks_of bank (call.Close span) = blocks_in bank span
blocks_of bank (call.Fill block page bytes) = block ∷ []
blocks_of bank (call.Read block offset len) = block ∷ []
blocks_of bank (call.Write block offset bytes) = block ∷ []
blocks_of bank (call.Pin number span) = blocks_in bank span
blocks_of bank _ = []

-- ---- the latest entry that decides

-- the later of two findings
abbrev pub later : {A : Type 0} → Option A → Option A → Option A
later earlier (Some x) = Some x
later earlier None = earlier

-- what the latest of the entries says that says something
abbrev pub latest : {A : Type 0} → (BankEntry → Option A) → List BankEntry → Option A
latest says [] = None
latest says (e ∷ es) = later (says e) (latest says es)

-- what is said of a block by a call that names it
abbrev pub if_named : {A : Type 0} → Bool → A → Option A
if_named named x = if named then Some x else None

-- ---- open, sealed, frozen

-- what a call and its reply say of whether a block is open
abbrev pub says_open : ℕ → ℕ → BankCall → BankReply → Option Bool
says_open bank block (call.Shape n) r = Some (nat_lt block n)
says_open bank block call.Wipe r = Some false
says_open bank block (call.Open span) r = if_named (names bank span block) true
says_open bank block (call.Close span) reply.Closed = if_named (names bank span block) false
says_open bank block _ _ = None

-- A block is open where the latest entry says so that shapes or wipes the bank, or opens or closes the block. With none
-- of them it is not.
abbrev pub is_open : ℕ → List BankEntry → ℕ → Bool
is_open bank history block = unwrap_or (latest (λ e. says_open bank block e.call e.reply) history) false

-- what a call and its reply say of whether a block is sealed
abbrev pub says_sealed : ℕ → ℕ → BankCall → BankReply → Option Bool
says_sealed bank block (call.Shape n) r = Some false
says_sealed bank block call.Wipe r = Some false
says_sealed bank block (call.Seal span) reply.Sealed = if_named (names bank span block) true
says_sealed bank block (call.Unseal span) r = if_named (names bank span block) false
says_sealed bank block (call.Close span) reply.Closed = if_named (names bank span block) false
says_sealed bank block _ _ = None

-- A block is sealed where the latest entry that seals, unseals or closes it, or shapes or wipes the bank, seals it.
abbrev pub is_sealed : ℕ → List BankEntry → ℕ → Bool
is_sealed bank history block = unwrap_or (latest (λ e. says_sealed bank block e.call e.reply) history) false

-- what a call says of whether the bank is frozen
abbrev pub says_frozen : BankCall → Option Bool
says_frozen call.Freeze = Some true
says_frozen call.Thaw = Some false
says_frozen _ = None

-- The bank is frozen where the latest entry that freezes or thaws it freezes it.
abbrev pub is_frozen : List BankEntry → Bool
is_frozen history = unwrap_or (latest (λ e. says_frozen e.call) history) false

-- ---- pins

-- An outstanding pin: who made it, its number, and its blocks.
pub record PinOut : Type 0 where
  pub caller : ℕ
  pub number : ℕ
  pub span : Span

-- the pin that a call makes
abbrev pub pin_made : ℕ → BankCall → BankReply → Option PinOut
pin_made caller (call.Pin number span) reply.Pinned = Some (record { caller = caller; number = number; span = span })
pin_made caller _ _ = None

-- whether a call gives back the pin of this number
abbrev pub is_unpin_of : ℕ → BankCall → Bool
is_unpin_of number (call.Unpin n) = n == number
is_unpin_of number _ = false

-- whether an entry gives a pin back
abbrev pub gives_back : PinOut → BankEntry → Bool
gives_back pin e = (e.caller == pin.caller) && is_unpin_of pin.number e.call

-- a pin before others, unless a later entry gives it back
abbrev pub unless_given_back : Option PinOut → List BankEntry → List PinOut → List PinOut
unless_given_back None later pins = pins
unless_given_back (Some pin) later pins = if list_any (gives_back pin) later then pins else pin ∷ pins

-- The outstanding pins, in the order in which they were made: those that no later entry gives back.
abbrev pub pins_of : List BankEntry → List PinOut
pins_of [] = []
pins_of (e ∷ es) = unless_given_back (pin_made e.caller e.call e.reply) es (pins_of es)

-- whether a caller has a pin of this number outstanding
abbrev pub has_pin : List PinOut → ℕ → ℕ → Bool
has_pin pins caller number = list_any (λ (pin : PinOut). pin.caller == caller && pin.number == number) pins

-- whether a pin pins a block of the bank
abbrev pub pins_block : ℕ → ℕ → PinOut → Bool
pins_block bank block pin = names bank pin.span block

-- the lesser of a number and one that there may be
abbrev pub lesser : ℕ → Option ℕ → ℕ
lesser n None = n
lesser n (Some m) = min n m

-- the lowest of some numbers
abbrev pub lowest : List ℕ → Option ℕ
lowest [] = None
lowest (n ∷ ns) = Some (lesser n (lowest ns))

-- the lowest of some ascending blocks that a pin pins
abbrev pub lowest_pinned : ℕ → List PinOut → List ℕ → Option ℕ
lowest_pinned bank pins blocks = find (λ block. list_any (pins_block bank block) pins) blocks

-- the lowest caller that pins a block, 0 where none does
abbrev pub lowest_pinner : ℕ → List PinOut → ℕ → ℕ
lowest_pinner bank pins block = unwrap_or (lowest (map (λ (pin : PinOut). pin.caller) (filter (pins_block bank block) pins))) 0

-- ---- limits

-- the payload of a call, in bytes: what a Read asks for, and what a Write or a Fill carries, whatever it is answered
abbrev pub payload_of : BankCall → ℕ
payload_of (call.Read block offset len) = len
payload_of (call.Write block offset bytes) = length bytes
payload_of (call.Fill block page bytes) = length bytes
payload_of _ = 0

-- the payload of a history, in bytes
abbrev pub payload : List BankEntry → ℕ
payload history = sum_by (λ (e : BankEntry). payload_of e.call) history

-- ---- what a call is

-- a call of the bank's owner
abbrev pub is_owner_call : BankCall → Bool
is_owner_call (call.Read block offset len) = false
is_owner_call (call.Write block offset bytes) = false
is_owner_call (call.Pin number span) = false
is_owner_call (call.Unpin number) = false
is_owner_call _ = true

-- some bytes of one block: at least one and at most 4,096
pub record IsInBlock (bank block offset len : ℕ) : Type 0 where
  pub block_known : block < most_blocks
  pub owned : belongs bank block ≡ true
  pub some : 1 ≤ len
  pub few : len ≤ 4096
  pub whole : offset + len ≤ 2097152

-- blocks that a zone can have
abbrev pub IsInZone : Span → Type 0
IsInZone span = span.first + span.count ≤ most_blocks

-- what a call on a bank names: blocks that a zone can have, for bytes one block of the bank, for a page one of its 512
abbrev pub IsCall : ℕ → BankCall → Type 0
IsCall bank (call.Shape n) = n ≤ most_blocks
IsCall bank (call.Open span) = IsInZone span
IsCall bank (call.Seal span) = IsInZone span
IsCall bank (call.Unseal span) = IsInZone span
IsCall bank (call.Close span) = IsInZone span
IsCall bank (call.Fill block page bytes) = (block < most_blocks) × (belongs bank block ≡ true) × (page < 512)
IsCall bank (call.Read block offset len) = IsInBlock bank block offset len
IsCall bank (call.Write block offset bytes) = IsInBlock bank block offset (length bytes)
IsCall bank (call.Pin number span) = IsInZone span
IsCall bank _ = Unit {0}
