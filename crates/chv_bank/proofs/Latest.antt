-- The latest entry that decides, where one more entry is appended.
use Rattle.std.proofs.Common.{◌≡◌, ℕ, false, List, [], ◌∷◌, ◌++◌, Option, None, Some, refl, sym, ◌∙◌, ap}
use Rattle.std.specs.Prelude.{unwrap_or}
use Rattle.chv_defs_memory.specs.declared.bank.BankEntry.{BankEntry}
use Rattle.chv_defs_memory.specs.BankState.{later, latest, says_open, says_sealed, says_frozen, is_open, is_sealed, is_frozen}
use Rattle.chv_defs_memory.specs.LastByte.{last_byte, says_byte}

later-none : {A : Type 0} (o : Option A) → later None o ≡ o
later-none None = refl
later-none (Some x) = refl

later_assoc : {A : Type 0} (a b c : Option A) → later a (later b c) ≡ later (later a b) c
later_assoc a b None = refl
later_assoc a b (Some x) = refl

-- the appended entry decides, if it says something
pub latest-push : {A : Type 0} (says : BankEntry → Option A) (h : List BankEntry) (e : BankEntry) → latest says (h ++ e ∷ []) ≡ later (latest says h) (says e)
latest-push says [] e = sym (later-none (says e))
latest-push says (x ∷ h) e = ap (later (says x)) (latest-push says h e) ∙ later_assoc (says x) (latest says h) (says e)

unwrap_or-later : {A : Type 0} (o s : Option A) (d : A) → unwrap_or (later o s) d ≡ unwrap_or s (unwrap_or o d)
unwrap_or-later o None d = refl
unwrap_or-later o (Some x) d = refl

-- what is said after one more entry: what it says, and else what was said before
pub said-push : {A : Type 0} (says : BankEntry → Option A) (h : List BankEntry) (e : BankEntry) (d : A) → unwrap_or (latest says (h ++ e ∷ [])) d ≡ unwrap_or (says e) (unwrap_or (latest says h) d)
said-push says h e d = ap (λ o. unwrap_or o d) (latest-push says h e) ∙ unwrap_or-later (latest says h) (says e) d

pub is_open-push : (bank : ℕ) (h : List BankEntry) (e : BankEntry) (k : ℕ) → is_open bank (h ++ e ∷ []) k ≡ unwrap_or (says_open bank k e.call e.reply) (is_open bank h k)
is_open-push bank h e k = said-push (λ (x : BankEntry). says_open bank k x.call x.reply) h e false

pub is_sealed-push : (bank : ℕ) (h : List BankEntry) (e : BankEntry) (k : ℕ) → is_sealed bank (h ++ e ∷ []) k ≡ unwrap_or (says_sealed bank k e.call e.reply) (is_sealed bank h k)
is_sealed-push bank h e k = said-push (λ (x : BankEntry). says_sealed bank k x.call x.reply) h e false

pub is_frozen-push : (h : List BankEntry) (e : BankEntry) → is_frozen (h ++ e ∷ []) ≡ unwrap_or (says_frozen e.call) (is_frozen h)
is_frozen-push h e = said-push (λ (x : BankEntry). says_frozen x.call) h e false

pub last_byte-push : (bank : ℕ) (h : List BankEntry) (e : BankEntry) (k at : ℕ) → last_byte bank (h ++ e ∷ []) k at ≡ unwrap_or (says_byte bank k at e.call e.reply) (last_byte bank h k at)
last_byte-push bank h e k at = said-push (λ (x : BankEntry). says_byte bank k at x.call x.reply) h e 0
