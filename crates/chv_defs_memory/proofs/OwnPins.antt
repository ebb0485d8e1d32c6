-- The pins of a caller are those that its own entries make.
use Rattle.std.proofs.Common.{◌≡◌, ℕ, ◌==◌, Bool, true, false, List, [], ◌∷◌, Option, None, Some, refl, sym, ap, ◌∙◌, arith}
use Rattle.std.specs.Prelude.{◌&&◌, ◌||◌, if◌then◌else◌}
use Rattle.std.specs.List.{list_any}
use Rattle.std.proofs.lemmas.Bool.{and_parts}
use Rattle.std.proofs.lemmas.Bool.Decides.{nat_tests}
use Rattle.chv_defs_memory.specs.declared.bank.BankCall.{BankCall}
use Rattle.chv_defs_memory.specs.declared.bank.BankCall.TheVariants as call
use Rattle.chv_defs_memory.specs.declared.bank.BankReply.{BankReply}
use Rattle.chv_defs_memory.specs.declared.bank.BankReply.TheVariants as reply
use Rattle.chv_defs_memory.specs.declared.bank.BankEntry.{BankEntry}
use Rattle.chv_defs_memory.specs.BankBook.{HasItsNumber}
use Rattle.chv_defs_memory.specs.BankState.{gives_back, has_pin, pin_made, pins_of, unless_given_back, PinOut}
use Rattle.chv_defs_memory.specs.LentHistory.{made_by}

-- whether a pin is this caller's, and has this number
abbrev is_numbered : ℕ → ℕ → PinOut → Bool
is_numbered caller n pin = pin.caller == caller && pin.number == n

-- ---- whether a pin is given back its maker's entries say

numbered-by : (caller n : ℕ) (pin : PinOut) → is_numbered caller n pin ≡ true → pin.caller ≡ caller
numbered-by caller n pin is =
    let first : (pin.caller == caller) ≡ true = (and_parts (pin.caller == caller) (pin.number == n) is).0 in
    grind (arith, nat_tests, first)

given-one : (pin : PinOut) (caller : ℕ) (e : BankEntry) (h : List BankEntry) (own : Bool) → (e.caller == caller) ≡ own → pin.caller ≡ caller → list_any (gives_back pin) (made_by caller h) ≡ list_any (gives_back pin) h
    → list_any (gives_back pin) (made_by caller (e ∷ h)) ≡ list_any (gives_back pin) (e ∷ h)
given-one pin caller e h true is same rest = rw is (rw rest refl)
given-one pin caller e h false is same rest =
    let other : (e.caller == pin.caller) ≡ false = ap (λ (m : ℕ). e.caller == m) same ∙ is in
    rw is (rw other rest)

given-own : (pin : PinOut) (caller : ℕ) (h : List BankEntry) → pin.caller ≡ caller → list_any (gives_back pin) (made_by caller h) ≡ list_any (gives_back pin) h
given-own pin caller [] same = refl
given-own pin caller (e ∷ h) same = given-one pin caller e h (e.caller == caller) refl same (given-own pin caller h same)

-- ---- a pin before others

any-if : (test : PinOut → Bool) (given : Bool) (pin : PinOut) (pins : List PinOut) → test pin ≡ false → list_any test (if given then pins else pin ∷ pins) ≡ list_any test pins
any-if test true pin pins none = refl
any-if test false pin pins none = rw none refl

any-if-same : (test : PinOut → Bool) (given : Bool) (pin : PinOut) (pins pins' : List PinOut) → list_any test pins' ≡ list_any test pins → list_any test (if given then pins' else pin ∷ pins') ≡ list_any test (if given then pins else pin ∷ pins)
any-if-same test true pin pins pins' rest = rest
any-if-same test false pin pins pins' rest = ap (λ (b : Bool). test pin || b) rest

own-one : (caller n : ℕ) (pin : PinOut) (test : Bool) → is_numbered caller n pin ≡ test → (h : List BankEntry) (pins pins' : List PinOut) → list_any (is_numbered caller n) pins' ≡ list_any (is_numbered caller n) pins
    → list_any (is_numbered caller n) (if list_any (gives_back pin) (made_by caller h) then pins' else pin ∷ pins') ≡ list_any (is_numbered caller n) (if list_any (gives_back pin) h then pins else pin ∷ pins)
own-one caller n pin true is h pins pins' rest =
    rw (given-own pin caller h (numbered-by caller n pin is)) (any-if-same (is_numbered caller n) (list_any (gives_back pin) h) pin pins pins' rest)
own-one caller n pin false is h pins pins' rest =
    any-if (is_numbered caller n) (list_any (gives_back pin) (made_by caller h)) pin pins' is ∙ rest ∙ sym (any-if (is_numbered caller n) (list_any (gives_back pin) h) pin pins is)

own-unless : (caller n : ℕ) (o : Option PinOut) (h : List BankEntry) (pins pins' : List PinOut) → list_any (is_numbered caller n) pins' ≡ list_any (is_numbered caller n) pins
    → list_any (is_numbered caller n) (unless_given_back o (made_by caller h) pins') ≡ list_any (is_numbered caller n) (unless_given_back o h pins)
own-unless caller n None h pins pins' rest = rest
own-unless caller n (Some pin) h pins pins' rest = own-one caller n pin (is_numbered caller n pin) refl h pins pins' rest

-- a pin that another's entry makes is not counted
other-unless : (caller n made : ℕ) (c : BankCall) (r : BankReply) (h : List BankEntry) (pins : List PinOut) → (made == caller) ≡ false → list_any (is_numbered caller n) (unless_given_back (pin_made made c r) h pins) ≡ list_any (is_numbered caller n) pins
other-unless caller n made (call.Pin number span) reply.Pinned h pins other =
    any-if (is_numbered caller n) (list_any (gives_back (record { caller = made; number = number; span = span })) h) (record { caller = made; number = number; span = span }) pins (rw other refl)
other-unless caller n made (call.Pin number span) r h pins other = refl
other-unless caller n made c r h pins other = refl

own-step : (caller n : ℕ) (e : BankEntry) (h : List BankEntry) (own : Bool) → (e.caller == caller) ≡ own → has_pin (pins_of (made_by caller h)) caller n ≡ has_pin (pins_of h) caller n → has_pin (pins_of (made_by caller (e ∷ h))) caller n ≡ has_pin (pins_of (e ∷ h)) caller n
own-step caller n e h true is rest = rw is (own-unless caller n (pin_made e.caller e.call e.reply) h (pins_of h) (pins_of (made_by caller h)) rest)
own-step caller n e h false is rest = rw is (rest ∙ sym (other-unless caller n e.caller e.call e.reply h (pins_of h) is))

-- Whether a caller has a pin outstanding its own entries say.
own-pins : (caller n : ℕ) (h : List BankEntry) → has_pin (pins_of (made_by caller h)) caller n ≡ has_pin (pins_of h) caller n
own-pins caller n [] = refl
own-pins caller n (e ∷ h) = own-step caller n e h (e.caller == caller) refl (own-pins caller n h)

-- and so the number of its Pin or Unpin is right by them where it is by the whole history
pub own-number : (caller : ℕ) (h : List BankEntry) (c : BankCall) → HasItsNumber (made_by caller h) caller c → HasItsNumber h caller c
own-number caller h (call.Pin number span) has = sym (own-pins caller number h) ∙ has
own-number caller h (call.Unpin number) has = sym (own-pins caller number h) ∙ has
own-number caller h c has = tt
