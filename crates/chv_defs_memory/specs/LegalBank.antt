-- Legal bank histories: what each entry has to be, judged by the entries before it.
use Rattle.std.specs.Prelude.{◌≡◌, ℕ, ◌==◌, true, false, not, List, [], length, take, find, slice_get, Option, None, Some}
use Rattle.std.specs.List.{list_all}
use Rattle.chv_defs_memory.specs.declared.bank.BankCall.{BankCall}
use Rattle.chv_defs_memory.specs.declared.bank.BankCall.TheVariants as call
use Rattle.chv_defs_memory.specs.declared.bank.BankReply.{BankReply}
use Rattle.chv_defs_memory.specs.declared.bank.BankReply.TheVariants as reply
use Rattle.chv_defs_memory.specs.declared.bank.BankEntry.{BankEntry}
use Rattle.chv_defs_memory.specs.PageContents.{pages_of}
use Rattle.chv_defs_memory.specs.BankState.{blocks_in, blocks_of, is_open, is_sealed, is_frozen, PinOut, pins_of, has_pin, lowest_pinned, lowest_pinner, most_blocks, is_owner_call}
use Rattle.chv_defs_memory.specs.LastByte.{last_byte, last_bytes}

-- ---- conditions

-- every block of the list is open
abbrev pub AreOpen : ℕ → List BankEntry → List ℕ → Type 0
AreOpen bank before blocks = list_all (is_open bank before) blocks ≡ true

-- none of them is
abbrev pub AreNotOpen : ℕ → List BankEntry → List ℕ → Type 0
AreNotOpen bank before blocks = list_all (λ block. not (is_open bank before block)) blocks ≡ true

-- every block of the list is sealed
abbrev pub AreSealed : ℕ → List BankEntry → List ℕ → Type 0
AreSealed bank before blocks = list_all (is_sealed bank before) blocks ≡ true

-- none of them is
abbrev pub AreNotSealed : ℕ → List BankEntry → List ℕ → Type 0
AreNotSealed bank before blocks = list_all (λ block. not (is_sealed bank before block)) blocks ≡ true

-- the bank is not frozen
abbrev pub IsThawed : List BankEntry → Type 0
IsThawed before = is_frozen before ≡ false

-- no pin is outstanding
abbrev pub HasNoPin : List BankEntry → Type 0
HasNoPin before = pins_of before ≡ []

-- the condition of an owner's call
abbrev pub OwnerMay : ℕ → List BankEntry → BankCall → Type 0
OwnerMay bank before (call.Shape n) = IsThawed before × HasNoPin before
OwnerMay bank before call.Wipe = IsThawed before × HasNoPin before
OwnerMay bank before (call.Open span) = IsThawed before × AreNotOpen bank before (blocks_in bank span)
OwnerMay bank before (call.Seal span) =
    IsThawed before × AreOpen bank before (blocks_in bank span) × AreNotSealed bank before (blocks_in bank span)
OwnerMay bank before (call.Unseal span) = AreSealed bank before (blocks_in bank span)
OwnerMay bank before (call.Close span) = AreSealed bank before (blocks_in bank span)
OwnerMay bank before call.Freeze = IsThawed before × HasNoPin before
OwnerMay bank before call.Thaw = is_frozen before ≡ true
OwnerMay bank before (call.Fill block page bytes) = IsThawed before × (is_open bank before block ≡ true) × (length bytes ≡ 4096)
OwnerMay bank before call.Show = is_frozen before ≡ true
OwnerMay bank before _ = Unit {0}

-- ---- replies

-- the lowest block of a call that is not open
abbrev pub first_closed : ℕ → List BankEntry → BankCall → Option ℕ
first_closed bank before c = find (λ block. not (is_open bank before block)) (blocks_of bank c)

-- the lowest block of a call that is sealed
abbrev pub first_sealed : ℕ → List BankEntry → BankCall → Option ℕ
first_sealed bank before c = find (is_sealed bank before) (blocks_of bank c)

-- a fault at a block, or else the reply of what is done
abbrev pub fault_or : Option ℕ → BankReply → BankReply
fault_or (Some block) otherwise = reply.Fault block
fault_or None otherwise = otherwise

-- the reply to a Read, Write or Pin that is done: a Read gives the last bytes written
abbrev pub done_reply : ℕ → List BankEntry → BankCall → BankReply
done_reply bank before (call.Read block offset len) = reply.Got (last_bytes bank before block offset len)
done_reply bank before (call.Pin number span) = reply.Pinned
done_reply bank before _ = reply.Done

-- the reply to a Read, Write or Pin: a fault at its lowest block that is not open, else it is done
abbrev pub access_reply : ℕ → List BankEntry → BankCall → BankReply
access_reply bank before c = fault_or (first_closed bank before c) (done_reply bank before c)

-- the reply to a Seal, by the lowest pinned block, if there is one
abbrev pub busy_or_sealed : ℕ → List PinOut → Option ℕ → BankReply
busy_or_sealed bank pins None = reply.Sealed
busy_or_sealed bank pins (Some block) = reply.Busy block (lowest_pinner bank pins block)

-- the reply to a Seal: Busy with the lowest pinned one of its blocks and the lowest caller that pins it, or else Sealed
abbrev pub seal_reply : ℕ → List BankEntry → BankCall → BankReply
seal_reply bank before c = busy_or_sealed bank (pins_of before) (lowest_pinned bank (pins_of before) (blocks_of bank c))

-- how many pages of the bank are not all zero
abbrev pub page_count : ℕ → List BankEntry → ℕ
page_count bank before = length (pages_of most_blocks (last_byte bank before))

-- ---- an entry

-- no block of an access is sealed, and the bank is not frozen; its reply is a fault at its lowest block that is not open,
-- or else that it is done
pub record IsAccess (bank : ℕ) (before : List BankEntry) (c : BankCall) (r : BankReply) : Type 0 where
  pub thawed : IsThawed before
  pub unsealed : AreNotSealed bank before (blocks_of bank c)
  pub replied : r ≡ access_reply bank before c

-- a Read, Write or Pin is an access; nothing is said of other calls
abbrev pub IfAccess : ℕ → List BankEntry → BankCall → BankReply → Type 0
IfAccess bank before (call.Read block offset len) r = IsAccess bank before (call.Read block offset len) r
IfAccess bank before (call.Write block offset bytes) r = IsAccess bank before (call.Write block offset bytes) r
IfAccess bank before (call.Pin number span) r = IsAccess bank before (call.Pin number span) r
IfAccess bank before _ r = Unit {0}

-- the number of a Pin is not outstanding for its caller; that of an Unpin is, and it is done
abbrev pub NumbersPins : List BankEntry → ℕ → BankCall → BankReply → Type 0
NumbersPins before caller (call.Pin number span) r = has_pin (pins_of before) caller number ≡ false
NumbersPins before caller (call.Unpin number) r = (has_pin (pins_of before) caller number ≡ true) × (r ≡ reply.Done)
NumbersPins before caller _ r = Unit {0}

-- a Seal replies Busy exactly where an outstanding pin touches one of its blocks
abbrev pub IfSeal : ℕ → List BankEntry → BankCall → BankReply → Type 0
IfSeal bank before (call.Seal span) r = r ≡ seal_reply bank before (call.Seal span)
IfSeal bank before _ r = Unit {0}

-- the replies to the owner's other calls
abbrev pub IfOwner : ℕ → List BankEntry → BankCall → BankReply → Type 0
IfOwner bank before (call.Seal span) r = Unit {0}
IfOwner bank before (call.Close span) r = r ≡ reply.Closed
IfOwner bank before call.Show r = r ≡ reply.Pages (page_count bank before)
IfOwner bank before (call.Shape n) r = r ≡ reply.Done
IfOwner bank before call.Wipe r = r ≡ reply.Done
IfOwner bank before (call.Open span) r = r ≡ reply.Done
IfOwner bank before (call.Unseal span) r = r ≡ reply.Done
IfOwner bank before call.Freeze r = r ≡ reply.Done
IfOwner bank before call.Thaw r = r ≡ reply.Done
IfOwner bank before (call.Fill block page bytes) r = r ≡ reply.Done
IfOwner bank before _ r = Unit {0}

-- An entry may follow these entries in the bank's history.
pub record IsNext (bank : ℕ) (before : List BankEntry) (e : BankEntry) : Type 0 where
  -- The owner's calls are caller 0's, and the others are others'.
  pub who : is_owner_call e.call ≡ (e.caller == 0)
  pub condition : OwnerMay bank before e.call
  pub access : IfAccess bank before e.call e.reply
  pub numbers : NumbersPins before e.caller e.call e.reply
  pub seal : IfSeal bank before e.call e.reply
  pub owner : IfOwner bank before e.call e.reply

-- A history is legal where each entry may follow the entries before it.
abbrev pub IsLegal : ℕ → List BankEntry → Type 0
IsLegal bank history = (i : ℕ) (e : BankEntry) → slice_get history i ≡ Some e → IsNext bank (take i history) e
