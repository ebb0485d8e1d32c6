-- Calls of the owner that are made one after another in a bank: what they leave of its history, how much room they want
-- beforehand, and what is reserved between them.
use Rattle.std.specs.Prelude.{◌≡◌, ℕ, ◌==◌, ◌&&◌, max, if◌then◌else◌, List, [], ◌∷◌, ◌++◌, map, filter, sum_by, Option, None}
use Rattle.std.specs.List.{range_with_len}
use Rattle.chv_defs_memory.specs.declared.bank.BankCall.{BankCall}
use Rattle.chv_defs_memory.specs.declared.bank.BankCall.TheVariants as call
use Rattle.chv_defs_memory.specs.declared.bank.BankEntry.{BankEntry}
use Rattle.chv_defs_memory.specs.declared.bank.Refusal.{Refusal}
use Rattle.chv_defs_memory.specs.BankState.{banks, is_frozen}
use Rattle.chv_defs_memory.specs.BankBook.{owner_reply, pages_used, with_entry}
use Rattle.chv_defs_memory.specs.Zones.{zone_refusal, AreOf, GoesOn, Known}

-- ---- the owner's calls in a history

-- the calls of a bank's owner, who is caller 0, in order
abbrev pub owned : List BankEntry → List BankCall
owned history = map (λ (e : BankEntry). e.call) (filter (λ (e : BankEntry). e.caller == 0) history)

-- The history behind these calls of the owner and no others, each answered by the history up to it.
abbrev pub with_calls : ℕ → List BankEntry → List BankCall → List BankEntry
with_calls bank before [] = before
with_calls bank before (c ∷ calls) = with_calls bank (with_entry before 0 c (owner_reply bank before c)) calls

-- These calls of the owner were made one after another and no others, each answered by the history up to it. These contexts may
-- have made accesses before, between and behind them.
abbrev pub AreMade : List ℕ → ℕ → List BankEntry → List BankCall → List BankEntry → Type 0
AreMade contexts bank before [] after = GoesOn contexts before after
AreMade contexts bank before (c ∷ calls) after =
    (others : List BankEntry) × AreOf contexts others
    × AreMade contexts bank (with_entry (before ++ others) 0 c (owner_reply bank (before ++ others) c)) calls after

-- ---- between control calls

-- A bank at rest: nothing is reserved there but, while it is frozen, the place of its Thaw.
abbrev pub at_rest : List BankEntry → Known
at_rest history = record { history = history; entries = (if is_frozen history then 1 else 0); pages = 0 }

-- a bank is at rest
abbrev pub IsAtRest : Known → Type 0
IsAtRest known = known ≡ at_rest known.history

-- ---- room

-- How many further places a call wants: one, a Freeze one more, which is kept for its Thaw, and the Thaw then none.
abbrev pub place_wanted : BankCall → ℕ
place_wanted call.Freeze = 2
place_wanted call.Thaw = 0
place_wanted _ = 1

-- how many places calls want in a bank
abbrev pub places_wanted : List BankCall → ℕ
places_wanted calls = sum_by place_wanted calls

-- how many pages
abbrev pub pages_wanted : List BankCall → ℕ
pages_wanted calls = sum_by pages_used calls

-- the greatest of some numbers
abbrev pub greatest : List ℕ → ℕ
greatest [] = 0
greatest (n ∷ ns) = max n (greatest ns)

-- the greatest number that any bank of a zone wants
abbrev pub most_in_zone : (ℕ → ℕ) → ℕ
most_in_zone wanted = greatest (map wanted (range_with_len 0 banks))

-- The refusal of what is wanted in a zone, by each bank's calls there: room is asked for the greatest number of places and the
-- greatest number of pages that any of its banks wants, in each of them. A zone in which nothing is wanted is not asked.
abbrev pub wanted_refusal : ℕ → (ℕ → Known) → (ℕ → List BankCall) → Option Refusal
wanted_refusal zone known calls =
    let places = most_in_zone (λ bank. places_wanted (calls bank)) in
    let pages = most_in_zone (λ bank. pages_wanted (calls bank)) in
    if places == 0 && pages == 0 then None else zone_refusal zone known places pages
