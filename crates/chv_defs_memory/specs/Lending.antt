-- Contexts that are lent: what the banks' owner and a context's passes tell of them, and what an access of one comes to.
use Rattle.std.specs.Prelude.{◌≡◌, ◌≤◌, ℕ, ◌==◌, ◌||◌, Bool, true, false, not, List, ◌++◌, Option, IfSome, Result, Ok, Err, unwrap_or}
use Rattle.std.specs.List.{list_all, list_any}
use Rattle.std.specs.declared.alloc.AllocError.{AllocError}
use Rattle.chv_defs_memory.specs.declared.bank.BankCall.{BankCall}
use Rattle.chv_defs_memory.specs.declared.bank.BankReply.{BankReply}
use Rattle.chv_defs_memory.specs.declared.bank.BankEntry.{BankEntry}
use Rattle.chv_defs_memory.specs.declared.bank.Refusal.{Refusal}
use Rattle.chv_defs_memory.specs.BankState.{is_frozen, pins_of, PinOut}
use Rattle.chv_defs_base.specs.Sizes.{most_entries, most_payload}
use Rattle.chv_defs_memory.specs.BankBook.{bytes_taken, entries_taken, refusal_of, refused_or, with_entry, BankBook}
use Rattle.chv_defs_memory.specs.LegalBank.{access_reply, IsLegal}

-- the greatest number of a context, as which it calls on banks
abbrev pub most_contexts : ℕ
most_contexts = 143

-- whether a number is among others
abbrev pub is_in : ℕ → List ℕ → Bool
is_in caller lent = list_any (λ n. n == caller) lent

-- one number more, and no other, is among them
abbrev pub OneMore : ℕ → List ℕ → List ℕ → Type 0
OneMore caller before after = (n : ℕ) → is_in n after ≡ (caller == n || is_in n before)

-- one number less, and no other
abbrev pub OneLess : ℕ → List ℕ → List ℕ → Type 0
OneLess caller before after = (is_in caller after ≡ false) × ((n : ℕ) → (n == caller) ≡ false → is_in n after ≡ is_in n before)

-- what passes tell of a bank's history, or where they tell nothing, what the owner knows of it
abbrev pub told_or : Option (List BankEntry) → List BankEntry → List BankEntry
told_or told known = unwrap_or told known

-- none of these entries is this caller's
abbrev pub AreNotBy : ℕ → List BankEntry → Type 0
AreNotBy caller entries = list_all (λ (e : BankEntry). not (e.caller == caller)) entries ≡ true

-- none of the outstanding pins is this caller's
abbrev pub HasNoPinBy : ℕ → List BankEntry → Type 0
HasNoPinBy caller history = list_all (λ (pin : PinOut). not (pin.caller == caller)) (pins_of history) ≡ true

-- A history has gone on from what a caller has seen of it, by entries of others.
abbrev pub GoesOnFor : ℕ → List BankEntry → List BankEntry → Type 0
GoesOnFor caller seen history = (others : List BankEntry) × AreNotBy caller others × (history ≡ seen ++ others)

-- what an access comes to: a reply, or a refusal, or want of memory
abbrev pub Access : Type 0
Access = Result (Result BankReply Refusal) AllocError

-- the history behind an access: one entry more, or after a refusal none
abbrev pub left_by : List BankEntry → ℕ → BankCall → Result BankReply Refusal → List BankEntry
left_by at caller c (Ok reply) = with_entry at caller c reply
left_by at caller c (Err why) = at

-- What a bank holds is within the limits of a book, with the places that are reserved for its owner and those that are kept for
-- the Unpins of outstanding pins.
pub record IsWithinLimits (b : BankBook) : Type 0 where
  pub entries : entries_taken b ≤ most_entries
  pub bytes : bytes_taken b ≤ most_payload

-- An access in one turn. At the turn the history was a legal one that is not frozen and has, of the caller, what its passes
-- told; the answer is the bank's own by that history and by some reserved places of the owner, with which the bank is within its
-- limits.
pub record Accesses (caller zone bank : ℕ) (before after : Option (List BankEntry)) (c : BankCall) (answer : Result BankReply Refusal) : Type 0 where
  pub at : List BankEntry
  pub legal : IsLegal bank at
  pub thawed : is_frozen at ≡ false
  pub seen : IfSome before (λ seen. GoesOnFor caller seen at)
  pub entries : ℕ
  pub pages : ℕ
  pub limits : IsWithinLimits (record { zone = zone; bank = bank; history = at; entries = entries; pages = pages })
  pub answered : answer ≡ refused_or (refusal_of (record { zone = zone; bank = bank; history = at; entries = entries; pages = pages }) c) (access_reply bank at c)
  pub left : IfSome after (λ told. told ≡ left_by at caller c answer)
