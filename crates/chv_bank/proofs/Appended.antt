-- A history and what is kept beside it, where one more entry is appended.
use Rattle.std.proofs.Common.{◌≡◌, ℕ, ◌+◌, ◌*◌, ◌<◌, ◌≤◌, Bool, true, false, List, [], ◌∷◌, ◌++◌, Option, None, Some, refl, sym, ◌∙◌, ap, subst, arith, suc, zero, length, take, inl, inr, ◌⊎◌}
use Rattle.std.specs.Prelude.{◌==◌, if◌then◌else◌, slice_get, unwrap_or}
use Rattle.std.specs.Vec.{vec_capacity}
use Rattle.std.proofs.lemmas.Bool.Decides.{nat_tests}
use Rattle.std.proofs.lemmas.List.{take-append-le, length_push}
use Rattle.std.proofs.lemmas.List.Sums.{sum_by-append}
use Rattle.std.proofs.Math.Seq.{take-append_seam}
use Rattle.chv_defs_memory.specs.declared.bank.BankCall.{BankCall}
use Rattle.chv_defs_memory.specs.declared.bank.BankCall.TheVariants as call
use Rattle.chv_defs_memory.specs.declared.bank.BankReply.{BankReply}
use Rattle.chv_defs_memory.specs.declared.bank.BankReply.TheVariants as reply
use Rattle.chv_defs_memory.specs.declared.bank.BankEntry.{BankEntry}
use Rattle.chv_defs_memory.specs.declared.bank.Refusal.TheVariants as refusal
use Rattle.chv_defs_memory.specs.BankState.{pins_of, has_pin, is_owner_call, is_sealed, is_frozen, payload, payload_of, blocks_of, says_open, says_sealed, says_frozen}
use Rattle.chv_defs_base.specs.Sizes.{most_entries, most_payload}
use Rattle.chv_defs_memory.specs.LastByte.{says_byte}
use Rattle.chv_bank.proofs.ShownPages.{is-count}
use Rattle.chv_defs_memory.specs.LegalBank.{IsNext, IsLegal, OwnerMay, IfAccess, NumbersPins, IfSeal, IfOwner, IsAccess, first_sealed, access_reply}
use Rattle.chv_bank.specs.declared.state.State.{State}
use Rattle.chv_bank.specs.declared.bank.Bank.TheInside.{Inside}
use Rattle.chv_defs_memory.specs.BankBook.{BankBook, with_entry, owner_reply, is_unpin, HasItsNumber, refusal_of, sealed_or_full, full, passes_limit, places_of}
use Rattle.chv_bank.specs.Caches.{IsStateAfter, Steps}
use Rattle.chv_bank.specs.CallerPins.{HoldPins, total}
use Rattle.chv_bank.specs.Kept.{IsKept}
use Rattle.chv_bank.proofs.Latest.{is_open-push, is_sealed-push, is_frozen-push, last_byte-push}
use Rattle.chv_bank.proofs.PinLists.{pins_of-push}
use Rattle.chv_bank.proofs.Ranges.{none_passes}

-- ---- legality

place : (h : List BankEntry) (e : BankEntry) (i : ℕ) (x : BankEntry) → slice_get (h ++ e ∷ []) i ≡ Some x → ((i < length h) × (slice_get h i ≡ Some x)) ⊎ ((i ≡ length h) × (e ≡ x))
place [] e zero x at = inr (refl, cc)
place [] e (suc i) x at = cc
place (y ∷ h) e zero x at = inl (omega arith, at)
place (y ∷ h) e (suc i) x at = elim (place h e i x at) [
  | inl old ↦ inl (omega arith, old.1)
  | inr new ↦ inr (ap suc new.0, new.1)
]

-- a legal history with an entry that may follow is legal
pub IsLegal-push : (bank : ℕ) (h : List BankEntry) (e : BankEntry) → IsLegal bank h → IsNext bank h e → IsLegal bank (h ++ e ∷ [])
IsLegal-push bank h e legal next = λ i x at. elim (place h e i x at) [
  | inl old ↦ (let low : i ≤ length h = omega arith in subst (λ before. IsNext bank before x) (sym (take-append-le i h (e ∷ []) low)) (legal i x old.1))
  | inr new ↦ (let here : take i (h ++ e ∷ []) ≡ h = ap (λ n. take n (h ++ e ∷ [])) new.0 ∙ take-append_seam h (e ∷ []) in
      subst (λ before. IsNext bank before x) (sym here) (subst (λ y. IsNext bank h y) new.1 next))
]

-- the empty history is legal
pub IsLegal-none : (bank : ℕ) → IsLegal bank []
IsLegal-none bank = λ i e at. cc

owner_access : (bank : ℕ) (h : List BankEntry) (c : BankCall) (r : BankReply) → is_owner_call c ≡ true → IfAccess bank h c r
owner_access bank h (call.Read block offset len) r own = cc
owner_access bank h (call.Write block offset bytes) r own = cc
owner_access bank h (call.Pin number span) r own = cc
owner_access bank h c r own = tt

owner_numbers : (h : List BankEntry) (c : BankCall) (r : BankReply) → is_owner_call c ≡ true → NumbersPins h 0 c r
owner_numbers h (call.Pin number span) r own = cc
owner_numbers h (call.Unpin number) r own = cc
owner_numbers h c r own = tt

owner_seal : (bank : ℕ) (h : List BankEntry) (c : BankCall) → IfSeal bank h c (owner_reply bank h c)
owner_seal bank h (call.Seal span) = refl
owner_seal bank h c = tt

owner_replied : (bank : ℕ) (h : List BankEntry) (c : BankCall) → IfOwner bank h c (owner_reply bank h c)
owner_replied bank h (call.Seal span) = tt
owner_replied bank h (call.Close span) = refl
owner_replied bank h call.Show = ap reply.Pages (is-count bank h)
owner_replied bank h (call.Shape n) = refl
owner_replied bank h call.Wipe = refl
owner_replied bank h (call.Open span) = refl
owner_replied bank h (call.Unseal span) = refl
owner_replied bank h call.Freeze = refl
owner_replied bank h call.Thaw = refl
owner_replied bank h (call.Fill block page bytes) = refl
owner_replied bank h c = tt

-- a call of the owner whose condition holds may follow, answered as the definition says
pub IsNext-owner : (bank : ℕ) (h : List BankEntry) (c : BankCall) → is_owner_call c ≡ true → OwnerMay bank h c → IsNext bank h (record { caller = 0; call = c; reply = owner_reply bank h c })
IsNext-owner bank h c own may = record {
  who = own;
  condition = may;
  access = owner_access bank h c (owner_reply bank h c) own;
  numbers = owner_numbers h c (owner_reply bank h c) own;
  seal = owner_seal bank h c;
  owner = owner_replied bank h c;
}

not_owner : (caller : ℕ) → 0 < caller → (caller == 0) ≡ false
not_owner caller h = grind (arith, nat_tests)

-- an Unpin of an outstanding pin may follow
pub IsNext-unpin : (bank : ℕ) (h : List BankEntry) (caller number : ℕ) → 0 < caller → has_pin (pins_of h) caller number ≡ true → IsNext bank h (record { caller = caller; call = call.Unpin number; reply = reply.Done })
IsNext-unpin bank h caller number above there = record {
  who = sym (not_owner caller above);
  condition = tt;
  access = tt;
  numbers = (there, refl);
  seal = tt;
  owner = tt;
}

-- what it means that no refusal is due
pub record IsFree (b : BankBook) (c : BankCall) : Type 0 where
  pub thawed : is_frozen b.history ≡ false
  pub unsealed : first_sealed b.bank b.history c ≡ None
  pub fits : passes_limit b (places_of c) (payload_of c) ≡ false

free_by : (b : BankBook) (c : BankCall) (frozen over : Bool) (block : Option ℕ) → is_frozen b.history ≡ frozen → first_sealed b.bank b.history c ≡ block → passes_limit b (places_of c) (payload_of c) ≡ over →
    (if frozen then Some (refusal.Frozen (length b.history)) else sealed_or_full b c block) ≡ None → IsFree b c
free_by b c true over block e f g h = cc
free_by b c false over (Some block) e f g h = cc
free_by b c false true None e f g h =
    let due : Some (full b) ≡ None = ap (λ t. if t then Some (full b) else None) (sym g) ∙ h in cc
free_by b c false false None e f g h = record { thawed = e; unsealed = f; fits = g }

pub free : (b : BankBook) (c : BankCall) → is_owner_call c ≡ false → is_unpin c ≡ false → refusal_of b c ≡ None → IsFree b c
free b (call.Read block offset len) own un h = free_by b (call.Read block offset len) (is_frozen b.history) (passes_limit b (places_of (call.Read block offset len)) (payload_of (call.Read block offset len))) (first_sealed b.bank b.history (call.Read block offset len)) refl refl refl h
free b (call.Write block offset bytes) own un h = free_by b (call.Write block offset bytes) (is_frozen b.history) (passes_limit b (places_of (call.Write block offset bytes)) (payload_of (call.Write block offset bytes))) (first_sealed b.bank b.history (call.Write block offset bytes)) refl refl refl h
free b (call.Pin number span) own un h = free_by b (call.Pin number span) (is_frozen b.history) (passes_limit b (places_of (call.Pin number span)) (payload_of (call.Pin number span))) (first_sealed b.bank b.history (call.Pin number span)) refl refl refl h
free b (call.Unpin number) own un h = cc
free b (call.Shape n) own un h = cc
free b call.Wipe own un h = cc
free b (call.Open span) own un h = cc
free b (call.Seal span) own un h = cc
free b (call.Unseal span) own un h = cc
free b (call.Close span) own un h = cc
free b call.Freeze own un h = cc
free b call.Thaw own un h = cc
free b (call.Fill block page bytes) own un h = cc
free b call.Show own un h = cc

is_access : (b : BankBook) (c : BankCall) → IsFree b c → IsAccess b.bank b.history c (access_reply b.bank b.history c)
is_access b c f = record {
  thawed = f.thawed;
  unsealed = none_passes (is_sealed b.bank b.history) (blocks_of b.bank c) f.unsealed;
  replied = refl;
}

-- an access to which no refusal is due may follow, answered as the definition says
pub IsNext-access : (b : BankBook) (caller : ℕ) (c : BankCall) → 0 < caller → is_owner_call c ≡ false → is_unpin c ≡ false → HasItsNumber b.history caller c → IsFree b c → IsNext b.bank b.history (record { caller = caller; call = c; reply = access_reply b.bank b.history c })
IsNext-access b caller (call.Read block offset len) above own un number f = record { who = sym (not_owner caller above); condition = tt; access = is_access b (call.Read block offset len) f; numbers = tt; seal = tt; owner = tt }
IsNext-access b caller (call.Write block offset bytes) above own un number f = record { who = sym (not_owner caller above); condition = tt; access = is_access b (call.Write block offset bytes) f; numbers = tt; seal = tt; owner = tt }
IsNext-access b caller (call.Pin n span) above own un number f = record { who = sym (not_owner caller above); condition = tt; access = is_access b (call.Pin n span) f; numbers = number; seal = tt; owner = tt }
IsNext-access b caller (call.Unpin n) above own un number f = absurd (cc)
IsNext-access b caller (call.Shape n) above own un number f = absurd (cc)
IsNext-access b caller call.Wipe above own un number f = absurd (cc)
IsNext-access b caller (call.Open span) above own un number f = absurd (cc)
IsNext-access b caller (call.Seal span) above own un number f = absurd (cc)
IsNext-access b caller (call.Unseal span) above own un number f = absurd (cc)
IsNext-access b caller (call.Close span) above own un number f = absurd (cc)
IsNext-access b caller call.Freeze above own un number f = absurd (cc)
IsNext-access b caller call.Thaw above own un number f = absurd (cc)
IsNext-access b caller (call.Fill block page bytes) above own un number f = absurd (cc)
IsNext-access b caller call.Show above own un number f = absurd (cc)

-- ---- what is kept beside it

pub IsStateAfter-push : (bank : ℕ) (h : List BankEntry) (s t : State) (caller : ℕ) (c : BankCall) (r : BankReply) → IsStateAfter bank h s → Steps bank s t caller c r → IsStateAfter bank (with_entry h caller c r) t
IsStateAfter-push bank h s t caller c r is steps =
    let e : BankEntry = record { caller = caller; call = c; reply = r } in
    record {
      formed = steps.formed;
      opened = λ k small. steps.opened k small ∙ ap (unwrap_or (says_open bank k c r)) (is.opened k small) ∙ sym (is_open-push bank h e k);
      sealed = λ k small. steps.sealed k small ∙ ap (unwrap_or (says_sealed bank k c r)) (is.sealed k small) ∙ sym (is_sealed-push bank h e k);
      frozen = steps.frozen ∙ ap (unwrap_or (says_frozen c)) is.frozen ∙ sym (is_frozen-push h e);
      pins = subst (HoldPins t.pins) (sym (pins_of-push h caller c r)) (steps.pins (pins_of h) is.pins);
      bytes = λ k at small. steps.bytes k at small ∙ ap (unwrap_or (says_byte bank k at c r)) (is.bytes k at small) ∙ sym (last_byte-push bank h e k at);
    }

pub payload-push : (h : List BankEntry) (caller : ℕ) (c : BankCall) (r : BankReply) → payload (with_entry h caller c r) ≡ payload h + payload_of c
payload-push h caller c r =
    let sums : payload (with_entry h caller c r) ≡ payload h + (0 + payload_of c) = sum_by-append (λ (e : BankEntry). payload_of e.call) h (record { caller = caller; call = c; reply = r } ∷ []) in
    omega (arith, sums)

-- the bank after an entry keeps what its type says
pub IsKept-entry : (old new : Inside) (caller : ℕ) (c : BankCall) (r : BankReply) → IsKept old
    → IsNext old.bank old.history.items (record { caller = caller; call = c; reply = r })
    → Steps old.bank old.state new.state caller c r
    → new.bank ≡ old.bank
    → new.history.items ≡ with_entry old.history.items caller c r
    → new.payload ≡ old.payload + payload_of c
    → new.sheets ≡ new.state.memory.reserved
    → length old.history.items + 1 + new.reserved + total new.state.pins ≤ most_entries
    → new.payload + new.sheets * 4096 ≤ most_payload
    → length old.history.items + 1 + new.reserved + total new.state.pins ≤ vec_capacity new.history
    → IsKept new
IsKept-entry old new caller c r kept next steps same items bytes sheets entries fits room =
    let e : BankEntry = record { caller = caller; call = c; reply = r } in
    let longer : length new.history.items ≡ length old.history.items + 1 = ap length items ∙ length_push old.history.items e in
    record {
      bank_known = omega (arith, same, kept.bank_known);
      legal = subst (λ n. IsLegal n new.history.items) (sym same) (subst (λ (h : List BankEntry). IsLegal old.bank h) (sym items) (IsLegal-push old.bank old.history.items e kept.legal next));
      state = subst (λ n. IsStateAfter n new.history.items new.state) (sym same) (subst (λ (h : List BankEntry). IsStateAfter old.bank h new.state) (sym items) (IsStateAfter-push old.bank old.history.items old.state new.state caller c r kept.state steps));
      bytes_counted = bytes ∙ ap (λ n. n + payload_of c) kept.bytes_counted ∙ sym (payload-push old.history.items caller c r) ∙ sym (ap payload items);
      sheets_counted = sheets;
      entries_fit = omega (arith, longer, entries);
      bytes_fit = fits;
      room = omega (arith, longer, room);
    }
