-- The book of a bank: what contracts see of one lock's share of a memory zone, by which refusal a call on it is refused, and
-- what it is answered. The limits are this project's own, and the same as the control book's.
use Rattle.std.specs.Prelude.{◌≡◌, ℕ, ◌+◌, ◌*◌, Bool, true, false, ◌||◌, nat_lt, if◌then◌else◌, List, [], ◌∷◌, ◌++◌, length, Option, None, Some, Result, Ok, Err}
use Rattle.chv_defs_memory.specs.declared.bank.BankCall.{BankCall}
use Rattle.chv_defs_memory.specs.declared.bank.BankCall.TheVariants as call
use Rattle.chv_defs_memory.specs.declared.bank.BankReply.{BankReply}
use Rattle.chv_defs_memory.specs.declared.bank.BankReply.TheVariants as reply
use Rattle.chv_defs_memory.specs.declared.bank.BankEntry.{BankEntry}
use Rattle.chv_defs_memory.specs.declared.bank.Refusal.{Refusal}
use Rattle.chv_defs_memory.specs.declared.bank.Refusal.TheVariants as refusal
use Rattle.chv_defs_base.specs.declared.book.BookId.TheVariants as book
use Rattle.chv_defs_memory.specs.BankState.{pins_of, has_pin, is_frozen, most_blocks, payload, payload_of}
use Rattle.chv_defs_base.specs.Sizes.{most_entries, most_payload}
use Rattle.chv_defs_memory.specs.declared.bank.PageAt.{PageAt}
use Rattle.chv_defs_memory.specs.PageContents.{pages_of}
use Rattle.chv_defs_memory.specs.LastByte.{last_byte}
use Rattle.chv_defs_memory.specs.LegalBank.{first_sealed, seal_reply, page_count}

-- A bank: which one it is, its history, and for how many entries and pages of its owner places are reserved.
pub record BankBook : Type 0 where
  pub zone : ℕ
  pub bank : ℕ
  pub history : List BankEntry
  pub entries : ℕ
  pub pages : ℕ

-- a bank to which nothing happened yet
abbrev pub fresh : ℕ → ℕ → BankBook
fresh zone bank = record { zone = zone; bank = bank; history = []; entries = 0; pages = 0 }

-- the history with one more entry
abbrev pub with_entry : List BankEntry → ℕ → BankCall → BankReply → List BankEntry
with_entry history caller c r = history ++ record { caller = caller; call = c; reply = r } ∷ []

-- ---- limits

-- how many entries a bank holds, reserved ones and one for the Unpin of each outstanding pin counted
abbrev pub entries_taken : BankBook → ℕ
entries_taken b = length b.history + b.entries + length (pins_of b.history)

-- how many bytes of payload a bank holds, 4,096 for each reserved page counted
abbrev pub bytes_taken : BankBook → ℕ
bytes_taken b = payload b.history + b.pages * 4096

-- whether further entries and bytes pass a limit
abbrev pub passes_limit : BankBook → ℕ → ℕ → Bool
passes_limit b entries bytes = nat_lt most_entries (entries_taken b + entries) || nat_lt most_payload (bytes_taken b + bytes)

-- the refusal of a bank that is full
abbrev pub full : BankBook → Refusal
full b = refusal.Full (record { book = book.Bank b.zone b.bank; entries = entries_taken b; bytes = bytes_taken b })

-- how many places an access needs: a Pin one for its Unpin too, which needs none then
abbrev pub places_of : BankCall → ℕ
places_of (call.Pin number span) = 2
places_of (call.Unpin number) = 0
places_of c = 1

-- ---- accesses

-- the refusal of an access that names no sealed block or this one first
abbrev pub sealed_or_full : BankBook → BankCall → Option ℕ → Option Refusal
sealed_or_full b c (Some block) = Some (refusal.Sealed block (length b.history))
sealed_or_full b c None = if passes_limit b (places_of c) (payload_of c) then Some (full b) else None

-- The refusal of an access, where one is due: Frozen where the bank is frozen, else Sealed where a block of the call is,
-- the lowest one, else Full where a limit would be passed. An Unpin is never refused.
abbrev pub refusal_of : BankBook → BankCall → Option Refusal
refusal_of b (call.Unpin number) = None
refusal_of b c = if is_frozen b.history then Some (refusal.Frozen (length b.history)) else sealed_or_full b c (first_sealed b.bank b.history c)

-- whether a call is an Unpin
abbrev pub is_unpin : BankCall → Bool
is_unpin (call.Unpin number) = true
is_unpin c = false

-- the condition on the number of a Pin, which is not outstanding for its caller, and of an Unpin, which is
abbrev pub HasItsNumber : List BankEntry → ℕ → BankCall → Type 0
HasItsNumber before caller (call.Pin number span) = has_pin (pins_of before) caller number ≡ false
HasItsNumber before caller (call.Unpin number) = has_pin (pins_of before) caller number ≡ true
HasItsNumber before caller c = Unit {0}

-- ---- the owner's calls

-- the pages that are not all zero, ascending, by the last byte that was written at each place
unfoldable pub pages_shown : ℕ → List BankEntry → List PageAt
pages_shown bank history = pages_of most_blocks (last_byte bank history)

-- how many there are
unfoldable pub pages_counted : ℕ → List BankEntry → ℕ
pages_counted bank history = page_count bank history

-- the reply to a call of the owner
abbrev pub owner_reply : ℕ → List BankEntry → BankCall → BankReply
owner_reply bank before (call.Seal span) = seal_reply bank before (call.Seal span)
owner_reply bank before (call.Close span) = reply.Closed
owner_reply bank before call.Show = reply.Pages (pages_counted bank before)
owner_reply bank before c = reply.Done

-- how many reserved pages a call uses
abbrev pub pages_used : BankCall → ℕ
pages_used (call.Fill block page bytes) = 1
pages_used c = 0

-- ---- room

-- the refusal of room for these entries and pages, where one is due
abbrev pub room_refusal : BankBook → ℕ → ℕ → Option Refusal
room_refusal b entries pages = if passes_limit b entries (pages * 4096) then Some (full b) else None

-- the answer, which is a refusal where one is due
abbrev pub refused_or : {A : Type 0} → Option Refusal → A → Result A Refusal
refused_or (Some why) a = Err why
refused_or None a = Ok a
