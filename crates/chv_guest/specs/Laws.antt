-- What follows of every access of a context that is lent, and of who may act while the owner makes its calls.
use Rattle.std.specs.Prelude.{◌≡◌, ℕ, Bool, true, List, length, Option, Some, Result, Ok, Err}
use Rattle.chv_defs_memory.specs.declared.bank.BankCall.{BankCall}
use Rattle.chv_defs_memory.specs.declared.bank.BankCall.TheVariants as call
use Rattle.chv_defs_memory.specs.declared.bank.BankReply.{BankReply}
use Rattle.chv_defs_memory.specs.declared.bank.BankReply.TheVariants as reply
use Rattle.chv_defs_memory.specs.declared.bank.BankEntry.{BankEntry}
use Rattle.chv_defs_memory.specs.declared.bank.Refusal.{Refusal}
use Rattle.chv_defs_memory.specs.declared.bank.Refusal.TheVariants as refusal
use Rattle.chv_defs_memory.specs.LegalBank.{first_sealed}
use Rattle.chv_defs_memory.specs.Lending.{is_in, Accesses}
use Rattle.chv_defs_memory.specs.Zones.{acting}

-- The law of frozen banks: no access is refused because its bank is frozen.
abbrev pub NoneFindsItFrozen : Type 0
NoneFindsItFrozen =
    (caller zone bank : ℕ) (before after : Option (List BankEntry)) (c : BankCall) (seen : ℕ)
    → Accesses caller zone bank before after c (Err (refusal.Frozen seen)) → ⊥

-- The law of sealed blocks: behind an access that was refused at one, what is seen has as many entries as the refusal tells, and the
-- block is the lowest one of the call that is sealed then.
abbrev pub SealedIsSeen : Type 0
SealedIsSeen =
    (caller zone bank : ℕ) (before : Option (List BankEntry)) (told : List BankEntry) (c : BankCall) (block seen : ℕ)
    → Accesses caller zone bank before (Some told) c (Err (refusal.Sealed block seen))
    → (length told ≡ seen) × (first_sealed bank told c ≡ Some block)

-- The law of Unpins: one is always done.
abbrev pub UnpinsAreDone : Type 0
UnpinsAreDone =
    (caller zone bank : ℕ) (before after : Option (List BankEntry)) (number : ℕ) (answer : Result BankReply Refusal)
    → Accesses caller zone bank before after (call.Unpin number) answer → answer ≡ Ok reply.Done

-- The law of those who act: whether banks are shared or not, a context that may make accesses while the owner makes a call is lent.
abbrev pub WhoActsIsLent : Type 0
WhoActsIsLent =
    (shared : Bool) (lent : List ℕ) (caller : ℕ) → is_in caller (acting shared lent) ≡ true → is_in caller lent ≡ true
