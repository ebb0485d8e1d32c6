-- What the type of a bank keeps, through each kind of call.
use Rattle.std.proofs.Common.{◌≡◌, ℕ, ◌+◌, ◌*◌, ◌<◌, ◌≤◌, true, false, List, None, refl, sym, ◌∙◌, ap, subst, arith, length}
use Rattle.std.specs.Prelude.{◌||◌, nat_lt}
use Rattle.std.specs.Vec.{vec_capacity}
use Rattle.std.proofs.lemmas.Bool.Decides.{nat_tests}
use Rattle.std.proofs.lemmas.List.{length_push}
use Rattle.chv_defs_memory.specs.declared.bank.BankCall.{BankCall}
use Rattle.chv_defs_memory.specs.declared.bank.BankCall.TheVariants as call
use Rattle.chv_defs_memory.specs.declared.bank.BankReply.{BankReply}
use Rattle.chv_defs_memory.specs.declared.bank.BankReply.TheVariants as reply
use Rattle.chv_defs_memory.specs.declared.bank.BankEntry.{BankEntry}
use Rattle.chv_defs_memory.specs.PageContents.{Contents, byte_of}
use Rattle.chv_defs_memory.specs.BankState.{PinOut, pins_of, has_pin, is_owner_call, payload, payload_of}
use Rattle.chv_defs_base.specs.Sizes.{most_entries, most_payload}
use Rattle.chv_defs_memory.specs.LegalBank.{IsNext, IsLegal, OwnerMay, access_reply}
use Rattle.chv_bank.specs.declared.state.State.{State}
use Rattle.chv_bank.specs.declared.bank.Bank.TheInside.{Inside}
use Rattle.chv_defs_memory.specs.BankBook.{BankBook, with_entry, owner_reply, is_unpin, pages_used, HasItsNumber, refusal_of, passes_limit, places_of, entries_taken, bytes_taken}
use Rattle.chv_bank.specs.Caches.{IsStateAfter, Steps, pins_after}
use Rattle.chv_bank.specs.CallerPins.{HoldPins, total}
use Rattle.chv_bank.specs.Kept.{IsKept}
use Rattle.chv_bank.proofs.Appended.{IsKept-entry, IsLegal-push, IsNext-owner, IsNext-access, IsNext-unpin, IsFree, free}
use Rattle.chv_bank.proofs.PinLists.{fewer}

-- what contracts see of the fields
abbrev pub seen : Inside → BankBook
seen b = record { zone = b.zone; bank = b.bank; history = b.history.items; entries = b.reserved; pages = b.sheets }

-- ---- no entry

-- with the same history
pub IsKept-like : (old new : Inside) → IsKept old → new.bank ≡ old.bank → new.history.items ≡ old.history.items → IsStateAfter old.bank old.history.items new.state → new.payload ≡ old.payload → new.sheets ≡ new.state.memory.reserved
    → length old.history.items + new.reserved + total new.state.pins ≤ most_entries
    → old.payload + new.sheets * 4096 ≤ most_payload
    → length old.history.items + new.reserved + total new.state.pins ≤ vec_capacity new.history
    → IsKept new
IsKept-like old new kept same items state bytes sheets entries fits room =
    let long : length new.history.items ≡ length old.history.items = ap length items in
    record {
      bank_known = omega (arith, same, kept.bank_known);
      legal = subst (λ n. IsLegal n new.history.items) (sym same) (subst (λ (h : List BankEntry). IsLegal old.bank h) (sym items) kept.legal);
      state = subst (λ n. IsStateAfter n new.history.items new.state) (sym same) (subst (λ (h : List BankEntry). IsStateAfter old.bank h new.state) (sym items) state);
      bytes_counted = bytes ∙ kept.bytes_counted ∙ sym (ap payload items);
      sheets_counted = sheets;
      entries_fit = omega (arith, long, entries);
      bytes_fit = omega (arith, bytes, fits);
      room = omega (arith, long, room);
    }

-- with more memory for the history
pub IsKept-roomier : (old new : Inside) → IsKept old → new.bank ≡ old.bank → new.history.items ≡ old.history.items → new.state ≡ old.state → new.payload ≡ old.payload → new.sheets ≡ old.sheets → new.reserved ≡ old.reserved
    → vec_capacity old.history ≤ vec_capacity new.history → IsKept new
IsKept-roomier old new kept same items state bytes sheets reserved room =
    let pins : total new.state.pins ≡ total old.state.pins = ap (λ (s : State). total s.pins) state in
    IsKept-like old new kept same items (subst (λ (s : State). IsStateAfter old.bank old.history.items s) (sym state) kept.state) bytes
    (sheets ∙ kept.sheets_counted ∙ sym (ap (λ (s : State). s.memory.reserved) state))
    (omega (arith, pins, reserved, kept.entries_fit)) (omega (arith, sheets, kept.bytes_fit)) (omega (arith, pins, reserved, kept.room, room))

-- with other pages reserved
pub IsStateAfter-memory : (bank : ℕ) (h : List BankEntry) (s : State) (m : Contents) → IsStateAfter bank h s → m.blocks ≡ s.memory.blocks → m.pages ≡ s.memory.pages → IsStateAfter bank h (record s { memory = m })
IsStateAfter-memory bank h s m is blocks pages = record {
  formed = record { opened = is.formed.opened; sealed = is.formed.sealed; memory = blocks ∙ is.formed.memory };
  opened = is.opened;
  sealed = is.sealed;
  frozen = is.frozen;
  pins = is.pins;
  bytes = λ k at small. ap (λ ps. byte_of ps k at) pages ∙ is.bytes k at small;
}

-- a limit that is not passed
pub below_limits : (b : BankBook) (entries bytes : ℕ) → passes_limit b entries bytes ≡ false → (entries_taken b + entries ≤ most_entries) × (bytes_taken b + bytes ≤ most_payload)
below_limits b entries bytes h = below (entries_taken b + entries) (bytes_taken b + bytes) most_entries most_payload h
  where
    below : (m n p q : ℕ) → (nat_lt p m || nat_lt q n) ≡ false → (m ≤ p) × (n ≤ q)
    below m n p q g = (grind (arith, nat_tests), grind (arith, nat_tests))

-- ---- the owner's calls

owner_pins : (pins : List PinOut) (c : BankCall) (r : BankReply) → is_owner_call c ≡ true → pins_after pins 0 c r ≡ pins
owner_pins pins (call.Pin number span) r own = cc
owner_pins pins (call.Unpin number) r own = cc
owner_pins pins c r own = refl

owner_bytes : (bank : ℕ) (h : List BankEntry) (c : BankCall) → is_owner_call c ≡ true → OwnerMay bank h c → payload_of c ≡ pages_used c * 4096
owner_bytes bank h (call.Read block offset len) own may = cc
owner_bytes bank h (call.Write block offset bytes) own may = cc
owner_bytes bank h (call.Fill block page bytes) own may = may.2
owner_bytes bank h c own may = refl

pub owner-kept : (old new : Inside) (c : BankCall) (r : BankReply) → IsKept old → is_owner_call c ≡ true → OwnerMay old.bank old.history.items c → r ≡ owner_reply old.bank old.history.items c
    → Steps old.bank old.state new.state 0 c r → new.bank ≡ old.bank → new.history.items ≡ with_entry old.history.items 0 c r → new.payload ≡ old.payload + payload_of c
    → new.sheets + pages_used c ≡ old.sheets → new.state.memory.reserved + pages_used c ≡ old.state.memory.reserved → new.reserved + 1 ≡ old.reserved
    → vec_capacity old.history ≤ vec_capacity new.history → IsKept new
owner-kept old new c r kept own may answer steps same items bytes sheets reserved entries room =
    let next : IsNext old.bank old.history.items (record { caller = 0; call = c; reply = r }) = subst (λ (x : BankReply). IsNext old.bank old.history.items (record { caller = 0; call = c; reply = x })) (sym answer) (IsNext-owner old.bank old.history.items c own may) in
    let held : HoldPins old.state.pins (pins_of old.history.items) = kept.state.pins in
    let after : HoldPins new.state.pins (pins_after (pins_of old.history.items) 0 c r) = steps.pins (pins_of old.history.items) held in
    let as_many : length (pins_after (pins_of old.history.items) 0 c r) ≡ length (pins_of old.history.items) = ap length (owner_pins (pins_of old.history.items) c r own) in
    let pins : total new.state.pins ≡ total old.state.pins = after.counted ∙ as_many ∙ sym held.counted in
    let weight : payload_of c ≡ pages_used c * 4096 = owner_bytes old.bank old.history.items c own may in
    IsKept-entry old new 0 c r kept next steps same items bytes
    (omega (arith, sheets, reserved, kept.sheets_counted))
    (omega (arith, entries, pins, kept.entries_fit))
    (omega (arith, bytes, weight, sheets, kept.bytes_fit))
    (omega (arith, entries, pins, kept.room, room))

-- the history stays legal
pub owner-legal : (bank : ℕ) (before after : List BankEntry) (c : BankCall) (r : BankReply) → IsLegal bank before → is_owner_call c ≡ true → OwnerMay bank before c → r ≡ owner_reply bank before c → after ≡ with_entry before 0 c r → IsLegal bank after
owner-legal bank before after c r legal own may answer grown =
    let next : IsNext bank before (record { caller = 0; call = c; reply = r }) = subst (λ (x : BankReply). IsNext bank before (record { caller = 0; call = c; reply = x })) (sym answer) (IsNext-owner bank before c own may) in
    subst (λ (h : List BankEntry). IsLegal bank h) (sym grown) (IsLegal-push bank before (record { caller = 0; call = c; reply = r }) legal next)

-- ---- accesses

access_pins : (pins : List PinOut) (caller : ℕ) (c : BankCall) (r : BankReply) → is_owner_call c ≡ false → is_unpin c ≡ false → length (pins_after pins caller c r) + 1 ≤ length pins + places_of c
access_pins pins caller (call.Read block offset len) r own un = omega arith
access_pins pins caller (call.Write block offset bytes) r own un = omega arith
access_pins pins caller (call.Pin number span) reply.Pinned own un = omega (arith, length_push pins (record { caller = caller; number = number; span = span }))
access_pins pins caller (call.Pin number span) r own un = omega arith
access_pins pins caller (call.Unpin number) r own un = absurd (cc)
access_pins pins caller (call.Shape n) r own un = absurd (cc)
access_pins pins caller call.Wipe r own un = absurd (cc)
access_pins pins caller (call.Open span) r own un = absurd (cc)
access_pins pins caller (call.Seal span) r own un = absurd (cc)
access_pins pins caller (call.Unseal span) r own un = absurd (cc)
access_pins pins caller (call.Close span) r own un = absurd (cc)
access_pins pins caller call.Freeze r own un = absurd (cc)
access_pins pins caller call.Thaw r own un = absurd (cc)
access_pins pins caller (call.Fill block page bytes) r own un = absurd (cc)
access_pins pins caller call.Show r own un = absurd (cc)

few_places : (c : BankCall) → places_of c ≤ 2
few_places (call.Pin number span) = omega arith
few_places (call.Unpin number) = omega arith
few_places c = omega arith

pub access-kept : (old new : Inside) (caller : ℕ) (c : BankCall) (r : BankReply) → IsKept old → 0 < caller → is_owner_call c ≡ false → is_unpin c ≡ false → HasItsNumber old.history.items caller c → refusal_of (seen old) c ≡ None
    → r ≡ access_reply old.bank old.history.items c
    → Steps old.bank old.state new.state caller c r → new.bank ≡ old.bank → new.history.items ≡ with_entry old.history.items caller c r → new.payload ≡ old.payload + payload_of c
    → new.sheets ≡ old.sheets → new.state.memory.reserved ≡ old.state.memory.reserved → new.reserved ≡ old.reserved
    → length old.history.items + old.reserved + total old.state.pins + 2 ≤ vec_capacity new.history → IsKept new
access-kept old new caller c r kept above own un number due answer steps same items bytes sheets reserved entries room =
    let is : IsFree (seen old) c = free (seen old) c own un due in
    let next : IsNext old.bank old.history.items (record { caller = caller; call = c; reply = r }) = subst (λ (x : BankReply). IsNext old.bank old.history.items (record { caller = caller; call = c; reply = x })) (sym answer) (IsNext-access (seen old) caller c above own un number is) in
    let fits = below_limits (seen old) (places_of c) (payload_of c) is.fits in
    let many : total old.state.pins ≡ length (pins_of old.history.items) = kept.state.pins.counted in
    let pins : total new.state.pins + 1 ≤ total old.state.pins + places_of c = (let after : HoldPins new.state.pins (pins_after (pins_of old.history.items) caller c r) = steps.pins (pins_of old.history.items) kept.state.pins in omega (arith, after.counted, many, access_pins (pins_of old.history.items) caller c r own un)) in
    let few : places_of c ≤ 2 = few_places c in
    IsKept-entry old new caller c r kept next steps same items bytes
    (sheets ∙ kept.sheets_counted ∙ sym reserved)
    (omega (arith, entries, pins, many, fits.0))
    (omega (arith, bytes, sheets, kept.bytes_counted, fits.1))
    (omega (arith, entries, pins, few, room))

pub unpin-kept : (old new : Inside) (caller number : ℕ) → IsKept old → 0 < caller → has_pin (pins_of old.history.items) caller number ≡ true
    → Steps old.bank old.state new.state caller (call.Unpin number) reply.Done → new.bank ≡ old.bank → new.history.items ≡ with_entry old.history.items caller (call.Unpin number) reply.Done → new.payload ≡ old.payload
    → new.sheets ≡ old.sheets → new.state.memory.reserved ≡ old.state.memory.reserved → new.reserved ≡ old.reserved
    → vec_capacity old.history ≤ vec_capacity new.history → IsKept new
unpin-kept old new caller number kept above there steps same items bytes sheets reserved entries room =
    let held : HoldPins old.state.pins (pins_of old.history.items) = kept.state.pins in
    let after : HoldPins new.state.pins (pins_after (pins_of old.history.items) caller (call.Unpin number) reply.Done) = steps.pins (pins_of old.history.items) held in
    let less : length (pins_after (pins_of old.history.items) caller (call.Unpin number) reply.Done) < length (pins_of old.history.items) = fewer caller number (pins_of old.history.items) there in
    let pins : total new.state.pins < total old.state.pins = omega (arith, after.counted, less, held.counted) in
    IsKept-entry old new caller (call.Unpin number) reply.Done kept (IsNext-unpin old.bank old.history.items caller number above there) steps same items
    (omega (arith, bytes))
    (sheets ∙ kept.sheets_counted ∙ sym reserved)
    (omega (arith, entries, pins, kept.entries_fit))
    (omega (arith, bytes, sheets, kept.bytes_fit))
    (omega (arith, entries, pins, kept.room, room))
