-- A pin that is held keeps its blocks open and not sealed, and the bank as it is.
use Rattle.std.proofs.Common.{◌≡◌, ℕ, Bool, true, false, List, [], ◌∷◌, ◌++◌, Option, None, Some, refl, sym, ◌∙◌, ap, subst, take}
use Rattle.std.specs.Prelude.{not, ◌&&◌, ◌||◌, filter, find, cond, unwrap_or}
use Rattle.std.specs.List.{list_all, list_any}
use Rattle.std.specs.Option.{option_to_list}
use Rattle.std.proofs.lemmas.List.Folds.{list_any-append}
use Rattle.std.proofs.lemmas.Bool.{and_from, or_left, or_right, not-true}
use Rattle.chv_defs_memory.specs.declared.bank.BankCall.{BankCall}
use Rattle.chv_defs_memory.specs.declared.bank.BankCall.TheVariants as call
use Rattle.chv_defs_memory.specs.declared.bank.BankReply.{BankReply}
use Rattle.chv_defs_memory.specs.declared.bank.BankReply.TheVariants as reply
use Rattle.chv_defs_memory.specs.declared.bank.BankEntry.{BankEntry}
use Rattle.chv_defs_memory.specs.BankState.{PinOut, pins_of, pin_made, gives_back, names, pins_block, if_named, blocks_in, lowest_pinned, is_open, is_sealed, says_open, says_sealed}
use Rattle.chv_defs_memory.specs.LegalBank.{IsNext, IsLegal, OwnerMay, IfSeal, fault_or, busy_or_sealed}
use Rattle.chv_bank.specs.Laws.{IsHeldAt, overturns, PinnedBlocksStayOpen, PinnedBankIsLeft}
use Rattle.chv_bank.proofs.Latest.{is_open-push, is_sealed-push}
use Rattle.chv_bank.proofs.PinLists.{kept_by, pins_of-append}
use Rattle.chv_bank.proofs.Ranges.{none_passes}
use Rattle.chv_bank.proofs.Walks.{walk, take_snoc, each_named, not_not_true}

-- the pin is outstanding: whatever test it passes, an outstanding pin passes
abbrev pub IsOut : PinOut → List BankEntry → Type 0
IsOut pin h = (p : PinOut → Bool) → p pin ≡ true → list_any p (pins_of h) ≡ true

pub record Holds (bank : ℕ) (pin : PinOut) (h : List BankEntry) : Type 0 where
  pub out : IsOut pin h
  pub opened : (block : ℕ) → names bank pin.span block ≡ true → is_open bank h block ≡ true
  pub sealed : (block : ℕ) → names bank pin.span block ≡ true → is_sealed bank h block ≡ false

any_filter : (p q : PinOut → Bool) (pins : List PinOut) → list_any p (filter q pins) ≡ list_any (λ pin. q pin && p pin) pins
any_filter p q [] = refl
any_filter p q (x ∷ xs) = by (q x) (any_filter p q xs)
  where
    by : (b : Bool) → list_any p (filter q xs) ≡ list_any (λ pin. q pin && p pin) xs → list_any p (cond b (x ∷ filter q xs) (filter q xs)) ≡ ((b && p x) || list_any (λ pin. q pin && p pin) xs)
    by true e = ap (λ b. p x || b) e
    by false e = e

-- no pin is out where none is outstanding
none_out : (pin : PinOut) (h : List BankEntry) → IsOut pin h → pins_of h ≡ [] → ⊥
none_out pin h out none =
    let some : list_any (λ (_ : PinOut). true) (pins_of h) ≡ true = out (λ _. true) refl in
    let nothing : list_any (λ (_ : PinOut). true) (pins_of h) ≡ false = ap (list_any (λ (_ : PinOut). true)) none in
    cc

-- ---- the Pin itself

fault_none : (o : Option ℕ) → reply.Pinned ≡ fault_or o reply.Pinned → o ≡ None
fault_none None h = refl
fault_none (Some block) h = cc

pub holds_made : (bank : ℕ) (h : List BankEntry) (pin : PinOut) → IsNext bank h (record { caller = pin.caller; call = call.Pin pin.number pin.span; reply = reply.Pinned }) → Holds bank pin (h ++ record { caller = pin.caller; call = call.Pin pin.number pin.span; reply = reply.Pinned } ∷ [])
holds_made bank h pin next =
    let e : BankEntry = record { caller = pin.caller; call = call.Pin pin.number pin.span; reply = reply.Pinned } in
    let none : find (λ block. not (is_open bank h block)) (blocks_in bank pin.span) ≡ None = fault_none (find (λ block. not (is_open bank h block)) (blocks_in bank pin.span)) next.access.replied in
    let all : list_all (λ block. not (not (is_open bank h block))) (blocks_in bank pin.span) ≡ true = none_passes (λ block. not (is_open bank h block)) (blocks_in bank pin.span) none in
    record {
      out = λ p passes.
          ap (list_any p) (pins_of-append h e) ∙ list_any-append p (kept_by e (pins_of h)) (pin ∷ [])
          ∙ or_right (list_any p (kept_by e (pins_of h))) (p pin || false) (or_left (p pin) false passes);
      opened = λ block named. is_open-push bank h e block ∙ not_not_true (is_open bank h block) (each_named (λ k. not (not (is_open bank h k))) bank pin.span block named all);
      sealed = λ block named. is_sealed-push bank h e block ∙ not-true (is_sealed bank h block) (each_named (λ k. not (is_sealed bank h k)) bank pin.span block named next.access.unsealed);
    }

-- ---- a later entry

named_true : (n old : Bool) → old ≡ true → unwrap_or (if_named n true) old ≡ true
named_true true old h = refl
named_true false old h = h

named_false : (n old : Bool) → old ≡ false → unwrap_or (if_named n false) old ≡ false
named_false true old h = refl
named_false false old h = h

not_named : (n b old x : Bool) → (n ≡ true → ⊥) → old ≡ x → unwrap_or (if_named n b) old ≡ x
not_named true b old x h e = absurd (h refl)
not_named false b old x h e = e

stays_open : (bank block : ℕ) (h : List BankEntry) (pin : PinOut) (c : BankCall) (r : BankReply) → OwnerMay bank h c → IsOut pin h → is_open bank h block ≡ true → is_sealed bank h block ≡ false → unwrap_or (says_open bank block c r) (is_open bank h block) ≡ true
stays_open bank block h pin (call.Shape n) r may out opened sealed = absurd (none_out pin h out may.1)
stays_open bank block h pin call.Wipe r may out opened sealed = absurd (none_out pin h out may.1)
stays_open bank block h pin (call.Open span) r may out opened sealed = named_true (names bank span block) (is_open bank h block) opened
stays_open bank block h pin (call.Close span) reply.Closed may out opened sealed =
    not_named (names bank span block) false (is_open bank h block) true (λ named. let is : is_sealed bank h block ≡ true = each_named (is_sealed bank h) bank span block named may in cc) opened
stays_open bank block h pin c r may out opened sealed = opened

sealed_none : (bank : ℕ) (pins : List PinOut) (o : Option ℕ) → reply.Sealed ≡ busy_or_sealed bank pins o → o ≡ None
sealed_none bank pins None h = refl
sealed_none bank pins (Some block) h = cc

stays_unsealed : (bank block : ℕ) (h : List BankEntry) (pin : PinOut) (c : BankCall) (r : BankReply) → IfSeal bank h c r → IsOut pin h → names bank pin.span block ≡ true → is_sealed bank h block ≡ false → unwrap_or (says_sealed bank block c r) (is_sealed bank h block) ≡ false
stays_unsealed bank block h pin (call.Shape n) r seal out named sealed = refl
stays_unsealed bank block h pin call.Wipe r seal out named sealed = refl
stays_unsealed bank block h pin (call.Seal span) reply.Sealed seal out named sealed =
    not_named (names bank span block) true (is_sealed bank h block) false
    (λ there.
    let none : lowest_pinned bank (pins_of h) (blocks_in bank span) ≡ None = sealed_none bank (pins_of h) (lowest_pinned bank (pins_of h) (blocks_in bank span)) seal in
    let free : list_any (pins_block bank block) (pins_of h) ≡ false = not-true (list_any (pins_block bank block) (pins_of h)) (each_named (λ k. not (list_any (pins_block bank k) (pins_of h))) bank span block there (none_passes (λ k. list_any (pins_block bank k) (pins_of h)) (blocks_in bank span) none)) in
    let pinned : list_any (pins_block bank block) (pins_of h) ≡ true = out (pins_block bank block) named in
    cc)
    sealed
stays_unsealed bank block h pin (call.Unseal span) r seal out named sealed = named_false (names bank span block) (is_sealed bank h block) sealed
stays_unsealed bank block h pin (call.Close span) reply.Closed seal out named sealed = named_false (names bank span block) (is_sealed bank h block) sealed
stays_unsealed bank block h pin c r seal out named sealed = sealed

pub holds_kept : (bank : ℕ) (h : List BankEntry) (pin : PinOut) (e : BankEntry) → IsNext bank h e → gives_back pin e ≡ false → Holds bank pin h → Holds bank pin (h ++ e ∷ [])
holds_kept bank h pin e next kept holds = record {
  out = λ p passes.
      ap (list_any p) (pins_of-append h e) ∙ list_any-append p (kept_by e (pins_of h)) (option_to_list (pin_made e.caller e.call e.reply))
      ∙ or_left (list_any p (kept_by e (pins_of h))) (list_any p (option_to_list (pin_made e.caller e.call e.reply)))
      (any_filter p (λ (x : PinOut). not (gives_back x e)) (pins_of h) ∙ holds.out (λ x. not (gives_back x e) && p x) (and_from (not (gives_back pin e)) (p pin) (ap not kept) passes));
  opened = λ block named. is_open-push bank h e block ∙ stays_open bank block h pin e.call e.reply next.condition holds.out (holds.opened block named) (holds.sealed block named);
  sealed = λ block named. is_sealed-push bank h e block ∙ stays_unsealed bank block h pin e.call e.reply next.seal holds.out named (holds.sealed block named);
}

-- ---- the laws

pub holds_at : (bank : ℕ) (history : List BankEntry) (pin : PinOut) (from at : ℕ) → IsLegal bank history → IsHeldAt history pin from at → Holds bank pin (take at history)
holds_at bank history pin from at legal held =
    let e : BankEntry = record { caller = pin.caller; call = call.Pin pin.number pin.span; reply = reply.Pinned } in
    walk history (Holds bank pin) from at
    (subst (Holds bank pin) (sym (take_snoc history from e held.made)) (holds_made bank (take from history) pin (legal from e held.made)))
    held.later held.inside
    (λ m x low high there holds. holds_kept bank (take m history) pin x (legal m x there) (held.kept m x low high there) holds)

pub pinned_open : PinnedBlocksStayOpen
pinned_open bank history pin from at block legal held named =
    let holds : Holds bank pin (take at history) = holds_at bank history pin from at legal held in
    (holds.opened block named, holds.sealed block named)

left_alone : (bank : ℕ) (h : List BankEntry) (pin : PinOut) (c : BankCall) → OwnerMay bank h c → IsOut pin h → overturns c ≡ false
left_alone bank h pin (call.Shape n) may out = absurd (none_out pin h out may.1)
left_alone bank h pin call.Wipe may out = absurd (none_out pin h out may.1)
left_alone bank h pin call.Freeze may out = absurd (none_out pin h out may.1)
left_alone bank h pin c may out = refl

pub pinned_left : PinnedBankIsLeft
pinned_left bank history pin from at e legal held there = left_alone bank (take at history) pin e.call (legal at e there).condition (holds_at bank history pin from at legal held).out
