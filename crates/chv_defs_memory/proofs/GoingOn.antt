-- What a history says behind what lent contexts did (which blocks are open), and behind one more entry (which blocks are open or
-- sealed, and whether the bank is frozen).
use Rattle.std.proofs.Common.{◌≡◌, ℕ, ◌==◌, Bool, true, false, List, [], ◌∷◌, ◌++◌, Option, None, Some, refl, sym, ◌∙◌, ap}
use Rattle.std.specs.Prelude.{◌&&◌, not, nat_lt, unwrap_or}
use Rattle.std.specs.List.{list_all, list_any}
use Rattle.chv_defs_memory.specs.declared.bank.BankCall.{BankCall}
use Rattle.chv_defs_memory.specs.declared.bank.BankCall.TheVariants as call
use Rattle.chv_defs_memory.specs.declared.bank.BankReply.{BankReply}
use Rattle.chv_defs_memory.specs.declared.bank.BankEntry.{BankEntry}
use Rattle.chv_defs_memory.specs.BankState.{is_frozen, is_open, is_owner_call, is_sealed, later, latest, says_frozen, says_open, says_sealed}
use Rattle.chv_defs_memory.specs.BankBook.{with_entry}
use Rattle.chv_defs_memory.specs.Zones.{is_of, AreOf}

-- ---- truths of tests

both : (a b : Bool) → (a && b) ≡ true → (a ≡ true) × (b ≡ true)
both true b e = (refl, e)
both false b e = cc

not-true : (a : Bool) → not a ≡ true → a ≡ false
not-true true e = cc
not-true false e = refl

-- ---- what was said latest

later-none : {A : Type 0} (o : Option A) → later None o ≡ o
later-none None = refl
later-none (Some x) = refl

later-later : {A : Type 0} (a b c : Option A) → later a (later b c) ≡ later (later a b) c
later-later a b None = refl
later-later a b (Some x) = refl

-- in a history and what stands behind it
pub latest-append : {A : Type 0} (says : BankEntry → Option A) (h g : List BankEntry) → latest says (h ++ g) ≡ later (latest says h) (latest says g)
latest-append says [] g = sym (later-none (latest says g))
latest-append says (e ∷ h) g = ap (later (says e)) (latest-append says h g) ∙ later-later (says e) (latest says h) (latest says g)

-- ---- behind what lent contexts did

-- an entry of a lent context is above caller 0 and no call of the owner
of-parts : (lent : List ℕ) (e : BankEntry) → is_of lent e ≡ true → (nat_lt 0 e.caller ≡ true) × (is_owner_call e.call ≡ false)
of-parts lent e of =
    let parts = both (nat_lt 0 e.caller && not (is_owner_call e.call)) (list_any (λ caller. caller == e.caller) lent) of in
    let who = both (nat_lt 0 e.caller) (not (is_owner_call e.call)) parts.0 in
    (who.0, not-true (is_owner_call e.call) who.1)

-- they say nothing where an access says nothing
nothing-said : {A : Type 0} (says : BankEntry → Option A) → ((e : BankEntry) → is_owner_call e.call ≡ false → says e ≡ None) → (lent : List ℕ) (others : List BankEntry) → AreOf lent others → latest says others ≡ None
nothing-said says silent lent [] of = refl
nothing-said says silent lent (e ∷ es) of =
    let parts = both (is_of lent e) (list_all (is_of lent) es) of in
    rw (silent e (of-parts lent e parts.0).1) (rw (nothing-said says silent lent es parts.1) refl)

said-before : {A : Type 0} (says : BankEntry → Option A) → ((e : BankEntry) → is_owner_call e.call ≡ false → says e ≡ None) → (lent : List ℕ) (h others : List BankEntry) → AreOf lent others → latest says (h ++ others) ≡ latest says h
said-before says silent lent h others of =
    latest-append says h others ∙ ap (later (latest says h)) (nothing-said says silent lent others of)

open-silent : (bank block : ℕ) (c : BankCall) (r : BankReply) → is_owner_call c ≡ false → says_open bank block c r ≡ None
open-silent bank block (call.Read b offset len) r other = refl
open-silent bank block (call.Write b offset bytes) r other = refl
open-silent bank block (call.Pin number span) r other = refl
open-silent bank block (call.Unpin number) r other = refl
open-silent bank block c r other = absurd (cc other)

-- lent contexts do not change which blocks are open
pub open-goes : (lent : List ℕ) (bank : ℕ) (h others : List BankEntry) → AreOf lent others → (block : ℕ) → is_open bank (h ++ others) block ≡ is_open bank h block
open-goes lent bank h others of block =
    ap (λ o. unwrap_or o false) (said-before (λ e. says_open bank block e.call e.reply) (λ e other. open-silent bank block e.call e.reply other) lent h others of)

-- ---- behind one more entry

-- a block is open where the entry says so, or else where it was
pub open-entry : (bank block : ℕ) (h : List BankEntry) (c : BankCall) (r : BankReply)
    → is_open bank (with_entry h 0 c r) block ≡ unwrap_or (later (latest (λ e. says_open bank block e.call e.reply) h) (says_open bank block c r)) false
open-entry bank block h c r = ap (λ o. unwrap_or o false) (latest-append (λ e. says_open bank block e.call e.reply) h (record { caller = 0; call = c; reply = r } ∷ []))

-- and so for sealed and frozen
pub sealed-entry : (bank block : ℕ) (h : List BankEntry) (c : BankCall) (r : BankReply)
    → is_sealed bank (with_entry h 0 c r) block ≡ unwrap_or (later (latest (λ e. says_sealed bank block e.call e.reply) h) (says_sealed bank block c r)) false
sealed-entry bank block h c r = ap (λ o. unwrap_or o false) (latest-append (λ e. says_sealed bank block e.call e.reply) h (record { caller = 0; call = c; reply = r } ∷ []))

pub frozen-entry : (h : List BankEntry) (c : BankCall) (r : BankReply) → is_frozen (with_entry h 0 c r) ≡ unwrap_or (later (latest (λ e. says_frozen e.call) h) (says_frozen c)) false
frozen-entry h c r = ap (λ o. unwrap_or o false) (latest-append (λ e. says_frozen e.call) h (record { caller = 0; call = c; reply = r } ∷ []))
