-- What stays of a bank that is lent to contexts, through the owner's calls, accesses, and as contexts are lent and come back.
use Rattle.std.proofs.Common.{◌≡◌, ℕ, Bool, true, false, List, [], ◌∷◌, None, refl, sym, ap, subst, ◌∙◌, arith}
use Rattle.std.specs.Prelude.{◌==◌, ◌||◌, not, unwrap_or}
use Rattle.std.specs.List.{list_all}
use Rattle.std.specs.Cmp.Derive.{both_true}
use Rattle.std.proofs.lemmas.Bool.{and_parts, not-true}
use Rattle.std.proofs.lemmas.Bool.Decides.{nat_tests}
use Rattle.chv_defs_memory.specs.declared.bank.BankCall.{BankCall}
use Rattle.chv_defs_memory.specs.declared.bank.BankCall.TheVariants as call
use Rattle.chv_defs_memory.specs.declared.bank.BankReply.{BankReply}
use Rattle.chv_defs_memory.specs.declared.bank.BankEntry.{BankEntry}
use Rattle.chv_defs_memory.specs.BankState.{is_frozen, is_owner_call, later, latest, pin_made, pins_of, says_frozen, unless_given_back, PinOut}
use Rattle.chv_defs_memory.specs.BankBook.{with_entry}
use Rattle.chv_defs_memory.specs.LegalBank.{OwnerMay}
use Rattle.chv_defs_memory.specs.Lending.{is_in, HasNoPinBy, OneLess, OneMore}
use Rattle.chv_defs_memory.specs.LentHistory.{ArePinsOf, IsLentTo}
use Rattle.chv_defs_memory.specs.Zones.{OwnerMayAsk}
use Rattle.chv_defs_memory.proofs.GoingOn.{latest-append}
use Rattle.chv_defs_memory.proofs.LentPins.{owner-makes-none, pins-append, pins-made}
use Rattle.chv_defs_memory.proofs.ZoneLaws.{thawed-by-thaw}

-- nothing happened yet
pub lent-new : IsLentTo [] []
lent-new = record { pins = refl; home = λ frozen. refl }

-- ---- a call of the owner

none-lent : (pins : List PinOut) → list_all (λ (pin : PinOut). is_in pin.caller []) pins ≡ true → pins ≡ []
none-lent [] all = refl
none-lent (pin ∷ pins) all = cc

-- while nobody is lent, no pin is outstanding
no-pin : (lent : List ℕ) (h : List BankEntry) → lent ≡ [] → IsLentTo lent h → pins_of h ≡ []
no-pin lent h home is = none-lent (pins_of h) (subst (λ l. ArePinsOf l h) home is.pins)

-- what the owner may ask for it may do
pub lent-may : (lent : List ℕ) (bank : ℕ) (h : List BankEntry) (c : BankCall) → IsLentTo lent h → OwnerMayAsk lent bank h c → OwnerMay bank h c
lent-may lent bank h (call.Shape n) is ask = (ask.0, no-pin lent h ask.1 is)
lent-may lent bank h call.Wipe is ask = (ask.0, no-pin lent h ask.1 is)
lent-may lent bank h call.Freeze is ask = (ask.0, no-pin lent h ask.1 is)
lent-may lent bank h c is ask = ask

-- an entry that says nothing of it leaves whether the bank is frozen
frozen-behind : (h : List BankEntry) (caller : ℕ) (c : BankCall) (r : BankReply) → says_frozen c ≡ None → is_frozen (with_entry h caller c r) ≡ is_frozen h
frozen-behind h caller c r silent =
    ap (λ o. unwrap_or o false) (latest-append (λ e. says_frozen e.call) h (record { caller = caller; call = c; reply = r } ∷ [])
    ∙ ap (λ o. later (latest (λ e. says_frozen e.call) h) (later o None)) silent)

home-behind : (lent : List ℕ) (bank : ℕ) (h : List BankEntry) (c : BankCall) (r : BankReply) → OwnerMayAsk lent bank h c → IsLentTo lent h → is_frozen (with_entry h 0 c r) ≡ true → lent ≡ []
home-behind lent bank h call.Freeze r ask is frozen = ask.1
home-behind lent bank h call.Thaw r ask is frozen = let not_so = sym frozen ∙ thawed-by-thaw h r in cc
home-behind lent bank h c r ask is frozen = is.home (sym (frozen-behind h 0 c r refl) ∙ frozen)

-- behind a call of the owner
pub lent-owner : (lent : List ℕ) (bank : ℕ) (h : List BankEntry) (c : BankCall) (r : BankReply) → is_owner_call c ≡ true → OwnerMayAsk lent bank h c → IsLentTo lent h → IsLentTo lent (with_entry h 0 c r)
lent-owner lent bank h c r own ask is =
    let none : pin_made 0 c r ≡ None = owner-makes-none 0 c r own in
    let behind : ArePinsOf lent (record { caller = 0; call = c; reply = r } ∷ []) = ap (λ o. list_all (λ (pin : PinOut). is_in pin.caller lent) (unless_given_back o [] [])) none in
    record {
      pins = pins-append (λ (pin : PinOut). is_in pin.caller lent) h (record { caller = 0; call = c; reply = r } ∷ []) is.pins behind;
      home = home-behind lent bank h c r ask is;
    }

-- ---- an access of a context that is lent

thawed-so : (lent : List ℕ) (caller : ℕ) (frozen : Bool) → (frozen ≡ true → lent ≡ []) → is_in caller lent ≡ true → frozen ≡ false
thawed-so lent caller true home here =
    let none : is_in caller lent ≡ false = ap (is_in caller) (home refl) in cc
thawed-so lent caller false home here = refl

-- while a context is lent the bank is not frozen
pub lent-thawed : (lent : List ℕ) (caller : ℕ) (h : List BankEntry) → is_in caller lent ≡ true → IsLentTo lent h → is_frozen h ≡ false
lent-thawed lent caller h here is = thawed-so lent caller (is_frozen h) is.home here

access-silent : (c : BankCall) → is_owner_call c ≡ false → says_frozen c ≡ None
access-silent (call.Read block offset len) other = refl
access-silent (call.Write block offset bytes) other = refl
access-silent (call.Pin number span) other = refl
access-silent (call.Unpin number) other = refl
access-silent c other = absurd (cc other)

-- behind an access of it
pub lent-access : (lent : List ℕ) (caller : ℕ) (h : List BankEntry) (c : BankCall) (r : BankReply) → is_owner_call c ≡ false → is_in caller lent ≡ true → IsLentTo lent h → IsLentTo lent (with_entry h caller c r)
lent-access lent caller h c r other here is = record {
  pins = pins-append (λ (pin : PinOut). is_in pin.caller lent) h (record { caller = caller; call = c; reply = r } ∷ []) is.pins
      (pins-made (λ n. is_in n lent) (record { caller = caller; call = c; reply = r }) here);
  home = λ frozen. let thawed = sym frozen ∙ frozen-behind h caller c r (access-silent c other) ∙ lent-thawed lent caller h here is in cc;
}

-- ---- a context is lent, and comes back

all-so : {A : Type 0} (p q : A → Bool) → ((x : A) → p x ≡ true → q x ≡ true) → (xs : List A) → list_all p xs ≡ true → list_all q xs ≡ true
all-so p q so [] all = refl
all-so p q so (x ∷ xs) all =
    let parts = and_parts (p x) (list_all p xs) all in
    both_true (so x parts.0) (all-so p q so xs parts.1)

all-both : {A : Type 0} (p q r : A → Bool) → ((x : A) → p x ≡ true → q x ≡ true → r x ≡ true) → (xs : List A) → list_all p xs ≡ true → list_all q xs ≡ true → list_all r xs ≡ true
all-both p q r so [] one two = refl
all-both p q r so (x ∷ xs) one two =
    let first = and_parts (p x) (list_all p xs) one in
    let second = and_parts (q x) (list_all q xs) two in
    both_true (so x first.0 second.0) (all-both p q r so xs first.1 second.1)

or-right : (a b : Bool) → b ≡ true → (a || b) ≡ true
or-right true b e = refl
or-right false b e = e

-- a context is lent while the bank is not frozen
pub lent-lend : (lent more : List ℕ) (caller : ℕ) (h : List BankEntry) → OneMore caller lent more → is_frozen h ≡ false → IsLentTo lent h → IsLentTo more h
lent-lend lent more caller h one thawed is = record {
  pins = all-so (λ (pin : PinOut). is_in pin.caller lent) (λ (pin : PinOut). is_in pin.caller more)
      (λ pin here. one pin.caller ∙ or-right (caller == pin.caller) (is_in pin.caller lent) here) (pins_of h) is.pins;
  home = λ frozen. let not_so = sym frozen ∙ thawed in cc;
}

-- and has then no pin
not-out : (lent : List ℕ) (caller n : ℕ) (same : Bool) → (n == caller) ≡ same → is_in caller lent ≡ false → is_in n lent ≡ true → not same ≡ true
not-out lent caller n true same home here =
    let is : n ≡ caller = grind (arith, nat_tests) in
    let none : is_in n lent ≡ false = ap (λ m. is_in m lent) is ∙ home in cc
not-out lent caller n false same home here = refl

pub lent-unpinned : (lent : List ℕ) (caller : ℕ) (h : List BankEntry) → is_in caller lent ≡ false → IsLentTo lent h → HasNoPinBy caller h
lent-unpinned lent caller h home is =
    all-so (λ (pin : PinOut). is_in pin.caller lent) (λ (pin : PinOut). not (pin.caller == caller))
    (λ pin here. not-out lent caller pin.caller (pin.caller == caller) refl home here) (pins_of h) is.pins

-- a context without a pin comes back
pub lent-back : (lent fewer : List ℕ) (caller : ℕ) (h : List BankEntry) → OneLess caller lent fewer → is_in caller lent ≡ true → HasNoPinBy caller h → IsLentTo lent h → IsLentTo fewer h
lent-back lent fewer caller h one here none is = record {
  pins = all-both (λ (pin : PinOut). is_in pin.caller lent) (λ (pin : PinOut). not (pin.caller == caller)) (λ (pin : PinOut). is_in pin.caller fewer)
      (λ pin inside other. one.1 pin.caller (not-true (pin.caller == caller) other) ∙ inside) (pins_of h) is.pins none;
  home = λ frozen. let thawed = sym frozen ∙ lent-thawed lent caller h here is in cc;
}
