-- The outstanding pins of a history behind further entries.
use Rattle.std.proofs.Common.{◌≡◌, ℕ, Bool, true, false, List, [], ◌∷◌, ◌++◌, Option, None, Some, refl}
use Rattle.std.specs.Prelude.{◌||◌, if◌then◌else◌}
use Rattle.std.specs.List.{list_all, list_any}
use Rattle.std.specs.Cmp.Derive.{both_true}
use Rattle.std.proofs.lemmas.Bool.{and_parts}
use Rattle.chv_defs_memory.specs.declared.bank.BankCall.{BankCall}
use Rattle.chv_defs_memory.specs.declared.bank.BankCall.TheVariants as call
use Rattle.chv_defs_memory.specs.declared.bank.BankReply.{BankReply}
use Rattle.chv_defs_memory.specs.declared.bank.BankReply.TheVariants as reply
use Rattle.chv_defs_memory.specs.declared.bank.BankEntry.{BankEntry}
use Rattle.chv_defs_memory.specs.BankState.{gives_back, is_owner_call, pin_made, pins_of, unless_given_back, PinOut}

-- ---- a pin before others

-- a pin passes a test, unless it is given back
abbrev IfHere : (PinOut → Bool) → Option PinOut → List BankEntry → Type 0
IfHere p None behind = Unit {0}
IfHere p (Some pin) behind = list_any (gives_back pin) behind ≡ false → p pin ≡ true

if-all : (p : PinOut → Bool) (given : Bool) (pin : PinOut) (pins : List PinOut) → (given ≡ false → p pin ≡ true) → list_all p pins ≡ true → list_all p (if given then pins else pin ∷ pins) ≡ true
if-all p true pin pins here rest = rest
if-all p false pin pins here rest = both_true (here refl) rest

if-rest : (p : PinOut → Bool) (given : Bool) (pin : PinOut) (pins : List PinOut) → list_all p (if given then pins else pin ∷ pins) ≡ true → list_all p pins ≡ true
if-rest p true pin pins all = all
if-rest p false pin pins all = (and_parts (p pin) (list_all p pins) all).1

if-here : (p : PinOut → Bool) (given : Bool) (pin : PinOut) (pins : List PinOut) → list_all p (if given then pins else pin ∷ pins) ≡ true → given ≡ false → p pin ≡ true
if-here p true pin pins all none = cc
if-here p false pin pins all none = (and_parts (p pin) (list_all p pins) all).0

all-unless : (p : PinOut → Bool) (o : Option PinOut) (behind : List BankEntry) (pins : List PinOut) → IfHere p o behind → list_all p pins ≡ true → list_all p (unless_given_back o behind pins) ≡ true
all-unless p None behind pins here rest = rest
all-unless p (Some pin) behind pins here rest = if-all p (list_any (gives_back pin) behind) pin pins here rest

unless-all : (p : PinOut → Bool) (o : Option PinOut) (behind : List BankEntry) (pins : List PinOut) → list_all p (unless_given_back o behind pins) ≡ true → list_all p pins ≡ true
unless-all p None behind pins all = all
unless-all p (Some pin) behind pins all = if-rest p (list_any (gives_back pin) behind) pin pins all

unless-here : (p : PinOut → Bool) (o : Option PinOut) (behind : List BankEntry) (pins : List PinOut) → list_all p (unless_given_back o behind pins) ≡ true → IfHere p o behind
unless-here p None behind pins all = tt
unless-here p (Some pin) behind pins all = if-here p (list_any (gives_back pin) behind) pin pins all

-- ---- pins that pass a test

first-none : (a b : Bool) → (a || b) ≡ false → a ≡ false
first-none true b e = cc
first-none false b e = refl

rest-none : (a b : Bool) → (a || b) ≡ false → b ≡ false
rest-none true b e = cc
rest-none false b e = e

any-front : {A : Type 0} (p : A → Bool) (xs ys : List A) → list_any p (xs ++ ys) ≡ false → list_any p xs ≡ false
any-front p [] ys none = refl
any-front p (x ∷ xs) ys none =
    rw (first-none (p x) (list_any p (xs ++ ys)) none) (any-front p xs ys (rest-none (p x) (list_any p (xs ++ ys)) none))

here-front : (p : PinOut → Bool) (o : Option PinOut) (h g : List BankEntry) → IfHere p o h → IfHere p o (h ++ g)
here-front p None h g here = tt
here-front p (Some pin) h g here = λ none. here (any-front (gives_back pin) h g none)

-- before and behind
pub pins-append : (p : PinOut → Bool) (h g : List BankEntry) → list_all p (pins_of h) ≡ true → list_all p (pins_of g) ≡ true → list_all p (pins_of (h ++ g)) ≡ true
pins-append p [] g before behind = behind
pins-append p (e ∷ h) g before behind =
    let o : Option PinOut = pin_made e.caller e.call e.reply in
    all-unless p o (h ++ g) (pins_of (h ++ g))
    (here-front p o h g (unless-here p o h (pins_of h) before))
    (pins-append p h g (unless-all p o h (pins_of h) before) behind)

-- ---- whose they are

made-here : (test : ℕ → Bool) (caller : ℕ) (c : BankCall) (r : BankReply) → test caller ≡ true → IfHere (λ (pin : PinOut). test pin.caller) (pin_made caller c r) []
made-here test caller (call.Pin number span) reply.Pinned passes = λ none. passes
made-here test caller (call.Pin number span) r passes = tt
made-here test caller c r passes = tt

-- a pin that an entry makes is its caller's
pub pins-made : (test : ℕ → Bool) (e : BankEntry) → test e.caller ≡ true → list_all (λ (pin : PinOut). test pin.caller) (pins_of (e ∷ [])) ≡ true
pins-made test e passes =
    all-unless (λ (pin : PinOut). test pin.caller) (pin_made e.caller e.call e.reply) [] [] (made-here test e.caller e.call e.reply passes) refl

-- the owner makes none
pub owner-makes-none : (caller : ℕ) (c : BankCall) (r : BankReply) → is_owner_call c ≡ true → pin_made caller c r ≡ None
owner-makes-none caller (call.Read block offset len) r own = cc
owner-makes-none caller (call.Write block offset bytes) r own = cc
owner-makes-none caller (call.Pin number span) r own = cc
owner-makes-none caller (call.Unpin number) r own = cc
owner-makes-none caller c r own = refl
