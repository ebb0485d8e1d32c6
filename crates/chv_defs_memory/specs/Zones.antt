-- What the banks of all zones mean to their owner: the history of each bank as far as the owner knows it, what is reserved
-- there, and which contexts are lent. Contexts that are lent read, write and pin. Where the banks stand behind locks they do so
-- while the owner makes its calls, so that a call may find entries that the owner has not seen before; where the owner holds the
-- banks by value, and while no context is lent, what the owner knows is all that there is.
use Rattle.std.specs.Prelude.{◌≡◌, ◌<◌, ℕ, ◌+◌, ◌-◌, ◌==◌, ◌&&◌, Bool, true, false, nat_lt, not, min, List, [], ◌∷◌, ◌++◌, map, Option, None, Some, Result, Ok, Err}
use Rattle.std.specs.List.{list_all, list_any, range_with_len}
use Rattle.chv_defs_memory.specs.declared.bank.BankCall.{BankCall}
use Rattle.chv_defs_memory.specs.declared.bank.BankCall.TheVariants as call
use Rattle.chv_defs_memory.specs.declared.bank.BankReply.{BankReply}
use Rattle.chv_defs_memory.specs.declared.bank.BankEntry.{BankEntry}
use Rattle.chv_defs_memory.specs.declared.bank.Refusal.{Refusal}
use Rattle.chv_defs_memory.specs.BankState.{banks, is_owner_call}
use Rattle.chv_defs_memory.specs.BankBook.{BankBook, owner_reply, pages_used, refused_or, room_refusal, with_entry}
use Rattle.chv_defs_memory.specs.LegalBank.{IsThawed, OwnerMay}

-- how many zones there are at most
abbrev pub most_zones : ℕ
most_zones = 8

-- a zone's number and the number of a bank of it
abbrev pub IsBank : ℕ → ℕ → Type 0
IsBank zone bank = (zone < most_zones) × (bank < banks)

-- What the owner knows of a bank: a beginning of its history, which has all entries of the owner, and for how many entries and
-- pages of the owner places are reserved.
pub record Known : Type 0 where
  pub history : List BankEntry
  pub entries : ℕ
  pub pages : ℕ

-- the bank as it is where its history is what the owner knows of it
abbrev pub book_of : ℕ → ℕ → Known → BankBook
book_of zone bank known = record { zone = zone; bank = bank; history = known.history; entries = known.entries; pages = known.pages }

-- ---- what contexts do meanwhile

-- The contexts that may make accesses while the owner makes a call: those that are lent where the banks are shared with them,
-- and else none.
abbrev pub acting : Bool → List ℕ → List ℕ
acting true lent = lent
acting false lent = []

-- whether an entry is an access (a Read, Write, Pin or Unpin) of one of these contexts
abbrev pub is_of : List ℕ → BankEntry → Bool
is_of contexts e = nat_lt 0 e.caller && not (is_owner_call e.call) && list_any (λ caller. caller == e.caller) contexts

-- these entries are accesses of these contexts
abbrev pub AreOf : List ℕ → List BankEntry → Type 0
AreOf contexts entries = list_all (is_of contexts) entries ≡ true

-- A history goes on by accesses of these contexts, and by nothing else.
abbrev pub GoesOn : List ℕ → List BankEntry → List BankEntry → Type 0
GoesOn contexts before after = (others : List BankEntry) × AreOf contexts others × (after ≡ before ++ others)

-- The owner may know more of a bank's history than before, and nothing else is changed.
abbrev pub OnlySeesMore : List ℕ → Known → Known → Type 0
OnlySeesMore contexts before after = GoesOn contexts before.history after.history × (after ≡ record before { history = after.history })

-- the banks of the other zones are as before
abbrev pub OtherZonesStay : (ℕ → ℕ → Known) → (ℕ → ℕ → Known) → ℕ → Type 0
OtherZonesStay before after zone = (z b : ℕ) → IsBank z b → (z == zone) ≡ false → after z b ≡ before z b

-- all other banks are as before
abbrev pub OtherBanksStay : (ℕ → ℕ → Known) → (ℕ → ℕ → Known) → ℕ → ℕ → Type 0
OtherBanksStay before after zone bank = (z b : ℕ) → IsBank z b → (z == zone && b == bank) ≡ false → after z b ≡ before z b

-- ---- room

-- the first refusal that is due
abbrev pub first_due : List (Option Refusal) → Option Refusal
first_due [] = None
first_due (Some why ∷ more) = Some why
first_due (None ∷ more) = first_due more

-- The refusal of room for these entries and pages in each bank of a zone, where one is due: that of its lowest bank which
-- has no such room.
abbrev pub zone_refusal : ℕ → (ℕ → Known) → ℕ → ℕ → Option Refusal
zone_refusal zone known entries pages =
    first_due (map (λ bank. room_refusal (book_of zone bank (known bank)) entries pages) (range_with_len 0 banks))

-- what is known of a bank with room for further entries, and for pages where none were reserved, unless it was refused
abbrev pub with_room : {A : Type 0} → Known → ℕ → ℕ → Result A Refusal → Known
with_room known entries pages (Ok a) = record known { entries = known.entries + entries; pages = pages }
with_room known entries pages (Err why) = known

-- Room in a zone: each bank is asked at a moment of the call (one behind a bank that refuses need not be). The answer is the
-- first refusal that is due by these moments, if one is. Room is made in every bank, or after a refusal in none.
pub record MakesRoom {A : Type 0} (contexts : List ℕ) (before after : ℕ → Known) (zone entries pages : ℕ) (done : A) (answer : Result A Refusal) : Type 0 where
  pub at : ℕ → List BankEntry
  pub seen : (bank : ℕ) → bank < banks → GoesOn contexts (before bank).history (at bank)
  pub later : (bank : ℕ) → bank < banks → GoesOn contexts (at bank) (after bank).history
  pub answered : answer ≡ refused_or (zone_refusal zone (λ bank. record (before bank) { history = at bank }) entries pages) done
  pub reserved : (bank : ℕ) → bank < banks → after bank ≡ with_room (record (before bank) { history = (after bank).history }) entries pages answer

-- What is left of reserved places: at most so many entries, and no page.
abbrev pub GivesBack : List ℕ → ℕ → Known → Known → Type 0
GivesBack contexts keep before after =
    GoesOn contexts before.history after.history
    × (after ≡ record before { history = after.history; entries = min before.entries keep; pages = 0 })

-- ---- the owner's calls

-- The condition of an owner's call, by what the owner knows. A Shape, a Wipe and a Freeze are made while no context is
-- lent, so that no pin is outstanding; nothing that a context does meanwhile touches the conditions of the others.
abbrev pub OwnerMayAsk : List ℕ → ℕ → List BankEntry → BankCall → Type 0
OwnerMayAsk lent bank seen (call.Shape n) = IsThawed seen × (lent ≡ [])
OwnerMayAsk lent bank seen call.Wipe = IsThawed seen × (lent ≡ [])
OwnerMayAsk lent bank seen call.Freeze = IsThawed seen × (lent ≡ [])
OwnerMayAsk lent bank seen c = OwnerMay bank seen c

-- An owner's call appends its one entry behind those that are there by then, is answered by the bank's history up to it, and
-- uses one reserved entry, and a Fill a reserved page.
pub record Enters (contexts : List ℕ) (bank : ℕ) (before after : Known) (c : BankCall) (r : BankReply) : Type 0 where
  pub others : List BankEntry
  pub of_contexts : AreOf contexts others
  pub replied : r ≡ owner_reply bank (before.history ++ others) c
  pub entered : after ≡ record before {
    history = with_entry (before.history ++ others) 0 c r;
    entries = before.entries - 1;
    pages = before.pages - pages_used c;
  }
