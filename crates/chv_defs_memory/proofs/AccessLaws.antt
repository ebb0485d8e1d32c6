-- What an access of a context cannot come to, and what is seen where it is refused.
use Rattle.std.proofs.Common.{◌≡◌, ℕ, Bool, true, false, List, length, Option, None, Some, Result, Ok, Err, ap, sym, ◌∙◌}
use Rattle.std.specs.Prelude.{if◌then◌else◌}
use Rattle.chv_defs_memory.specs.declared.bank.BankCall.{BankCall}
use Rattle.chv_defs_memory.specs.declared.bank.BankCall.TheVariants as call
use Rattle.chv_defs_memory.specs.declared.bank.BankReply.{BankReply}
use Rattle.chv_defs_memory.specs.declared.bank.BankReply.TheVariants as reply
use Rattle.chv_defs_memory.specs.declared.bank.BankEntry.{BankEntry}
use Rattle.chv_defs_memory.specs.declared.bank.Refusal.{Refusal}
use Rattle.chv_defs_memory.specs.declared.bank.Refusal.TheVariants as refusal
use Rattle.chv_defs_memory.specs.BankBook.{full, passes_limit, places_of, refusal_of, refused_or, sealed_or_full, BankBook}
use Rattle.chv_defs_memory.specs.BankState.{is_frozen, payload_of}
use Rattle.chv_defs_memory.specs.LegalBank.{access_reply, first_sealed}
use Rattle.chv_defs_memory.specs.Lending.{Accesses}

-- ---- a bank that is not frozen

frozen-by : (b : BankBook) (c : BankCall) (o : Option ℕ) (n : ℕ) (r : BankReply) → Err (refusal.Frozen n) ≡ refused_or (sealed_or_full b c o) r → ⊥
frozen-by b c (Some block) n r e = cc
frozen-by b c None n r e = frozen-full (passes_limit b (places_of c) (payload_of c)) e
  where
    frozen-full : (passes : Bool) → Err (refusal.Frozen n) ≡ refused_or (if passes then Some (full b) else None) r → ⊥
    frozen-full true e = cc
    frozen-full false e = cc

never-at : (b : BankBook) (c : BankCall) (n : ℕ) (r : BankReply) → is_frozen b.history ≡ false → Err (refusal.Frozen n) ≡ refused_or (refusal_of b c) r → ⊥
never-at b (call.Unpin number) n r thawed e = cc
never-at b c n r thawed e =
    frozen-by b c (first_sealed b.bank b.history c) n r
    (e ∙ ap (λ f. refused_or (if f then Some (refusal.Frozen (length b.history)) else sealed_or_full b c (first_sealed b.bank b.history c)) r) thawed)

-- no access is refused because the bank is frozen
pub never-frozen : (caller zone bank : ℕ) (before after : Option (List BankEntry)) (c : BankCall) (n : ℕ) → Accesses caller zone bank before after c (Err (refusal.Frozen n)) → ⊥
never-frozen caller zone bank before after c n a =
    never-at (record { zone = zone; bank = bank; history = a.at; entries = a.entries; pages = a.pages }) c n (access_reply bank a.at c) a.thawed a.answered

-- ---- a sealed block

sealed-by : (b : BankBook) (c : BankCall) (o : Option ℕ) (block n : ℕ) (r : BankReply) → Err (refusal.Sealed block n) ≡ refused_or (sealed_or_full b c o) r → (n ≡ length b.history) × (o ≡ Some block)
sealed-by b c (Some at) block n r e = let where_so : n ≡ length b.history = cc in let which : at ≡ block = cc in (where_so, ap Some which)
sealed-by b c None block n r e = absurd (sealed-full (passes_limit b (places_of c) (payload_of c)) e)
  where
    sealed-full : (passes : Bool) → Err (refusal.Sealed block n) ≡ refused_or (if passes then Some (full b) else None) r → ⊥
    sealed-full true e = cc
    sealed-full false e = cc

-- where it is refused because a block is sealed, the refusal tells the history's length and the lowest sealed block of the call
pub sealed-at : (b : BankBook) (c : BankCall) (block n : ℕ) (r : BankReply) → is_frozen b.history ≡ false → Err (refusal.Sealed block n) ≡ refused_or (refusal_of b c) r → (n ≡ length b.history) × (first_sealed b.bank b.history c ≡ Some block)
sealed-at b (call.Unpin number) block n r thawed e = absurd (let wrong : ⊥ = cc in wrong)
sealed-at b c block n r thawed e =
    sealed-by b c (first_sealed b.bank b.history c) block n r
    (e ∙ ap (λ f. refused_or (if f then Some (refusal.Frozen (length b.history)) else sealed_or_full b c (first_sealed b.bank b.history c)) r) thawed)

-- Where it is refused because a block is sealed, what is seen then has just as many entries as the refusal tells, and the block is
-- the lowest one of the call that is sealed at its end.
pub sealed-told : (caller zone bank : ℕ) (before : Option (List BankEntry)) (told : List BankEntry) (c : BankCall) (block n : ℕ)
    → Accesses caller zone bank before (Some told) c (Err (refusal.Sealed block n)) → (length told ≡ n) × (first_sealed bank told c ≡ Some block)
sealed-told caller zone bank before told c block n a =
    let at = sealed-at (record { zone = zone; bank = bank; history = a.at; entries = a.entries; pages = a.pages }) c block n (access_reply bank a.at c) a.thawed a.answered in
    (ap length a.left ∙ sym at.0, ap (λ (h : List BankEntry). first_sealed bank h c) a.left ∙ at.1)

-- ---- an Unpin

-- an Unpin is done
pub unpin-done : (caller zone bank : ℕ) (before after : Option (List BankEntry)) (number : ℕ) (answer : Result BankReply Refusal)
    → Accesses caller zone bank before after (call.Unpin number) answer → answer ≡ Ok reply.Done
unpin-done caller zone bank before after number answer a = a.answered
