-- The outstanding pins, where one more entry is appended.
use Rattle.std.proofs.Common.{◌≡◌, ℕ, ◌≤◌, ◌<◌, Bool, true, false, List, [], ◌∷◌, ◌++◌, Option, None, Some, refl, sym, ◌∙◌, ap, length, arith, suc}
use Rattle.std.specs.Prelude.{cond, not, ◌==◌, ◌&&◌, ◌||◌, filter, if◌then◌else◌}
use Rattle.std.specs.List.{list_any}
use Rattle.std.specs.Option.{option_to_list}
use Rattle.std.proofs.lemmas.List.{append-nil}
use Rattle.std.proofs.lemmas.List.Folds.{list_any-append}
use Rattle.std.proofs.lemmas.Bool.Decides.{nat_tests}
use Rattle.chv_lists.proofs.Bools.{and_false}
use Rattle.chv_defs_memory.specs.declared.bank.BankCall.{BankCall}
use Rattle.chv_defs_memory.specs.declared.bank.BankCall.TheVariants as call
use Rattle.chv_defs_memory.specs.declared.bank.BankReply.{BankReply}
use Rattle.chv_defs_memory.specs.declared.bank.BankReply.TheVariants as reply
use Rattle.chv_defs_memory.specs.declared.bank.BankEntry.{BankEntry}
use Rattle.chv_defs_memory.specs.BankState.{PinOut, pins_of, pin_made, is_unpin_of, gives_back, unless_given_back, has_pin}
use Rattle.chv_defs_memory.specs.BankBook.{with_entry}
use Rattle.chv_bank.specs.Caches.{pins_after}

-- the pins that an entry does not give back
abbrev pub kept_by : BankEntry → List PinOut → List PinOut
kept_by e pins = filter (λ (pin : PinOut). not (gives_back pin e)) pins

-- one pin, unless it is given back
one : (o : Option PinOut) → unless_given_back o [] [] ≡ option_to_list o
one None = refl
one (Some pin) = refl

-- a pin before the others, by whether the entries so far give it back and whether the last one does
chosen : (pin : PinOut) (e : BankEntry) (pins made : List PinOut) (before t u : Bool) → u ≡ (before || (t || false)) →
    (if u then kept_by e pins ++ made else pin ∷ (kept_by e pins ++ made)) ≡ (if before then kept_by e pins else cond (not t) (pin ∷ kept_by e pins) (kept_by e pins)) ++ made
chosen pin e pins made true t u h = ap (λ b. if b then kept_by e pins ++ made else pin ∷ (kept_by e pins ++ made)) h
chosen pin e pins made false true u h = ap (λ b. if b then kept_by e pins ++ made else pin ∷ (kept_by e pins ++ made)) h
chosen pin e pins made false false u h = ap (λ b. if b then kept_by e pins ++ made else pin ∷ (kept_by e pins ++ made)) h

pushed_in : (pin : PinOut) (e : BankEntry) (pins : List PinOut) (before : Bool) → kept_by e (if before then pins else pin ∷ pins) ≡ (if before then kept_by e pins else cond (not (gives_back pin e)) (pin ∷ kept_by e pins) (kept_by e pins))
pushed_in pin e pins true = refl
pushed_in pin e pins false = refl

front : (o : Option PinOut) (h : List BankEntry) (e : BankEntry) (pins made : List PinOut) →
    unless_given_back o (h ++ e ∷ []) (kept_by e pins ++ made) ≡ kept_by e (unless_given_back o h pins) ++ made
front None h e pins made = refl
front (Some pin) h e pins made =
    chosen pin e pins made (list_any (gives_back pin) h) (gives_back pin e) (list_any (gives_back pin) (h ++ e ∷ [])) (list_any-append (gives_back pin) h (e ∷ []))
    ∙ sym (ap (λ (ps : List PinOut). ps ++ made) (pushed_in pin e pins (list_any (gives_back pin) h)))

pub pins_of-append : (h : List BankEntry) (e : BankEntry) → pins_of (h ++ e ∷ []) ≡ kept_by e (pins_of h) ++ option_to_list (pin_made e.caller e.call e.reply)
pins_of-append [] e = one (pin_made e.caller e.call e.reply)
pins_of-append (x ∷ h) e =
    ap (unless_given_back (pin_made x.caller x.call x.reply) (h ++ e ∷ [])) (pins_of-append h e)
    ∙ front (pin_made x.caller x.call x.reply) h e (pins_of h) (option_to_list (pin_made e.caller e.call e.reply))

keeps_all : (p : PinOut → Bool) (pins : List PinOut) → ((pin : PinOut) → p pin ≡ true) → filter p pins ≡ pins
keeps_all p [] f = refl
keeps_all p (x ∷ xs) f = ap (λ b. cond b (x ∷ filter p xs) (filter p xs)) (f x) ∙ ap (λ (rest : List PinOut). x ∷ rest) (keeps_all p xs f)

-- an entry that is no Unpin keeps all pins
no_unpin : (e : BankEntry) (pins : List PinOut) → ((n : ℕ) → is_unpin_of n e.call ≡ false) → kept_by e pins ≡ pins
no_unpin e pins f = keeps_all (λ (pin : PinOut). not (gives_back pin e)) pins (λ pin. ap not (ap (λ b. (e.caller == pin.caller) && b) (f pin.number) ∙ and_false (e.caller == pin.caller)))

nothing_made : (e : BankEntry) (pins : List PinOut) → ((n : ℕ) → is_unpin_of n e.call ≡ false) → kept_by e pins ++ [] ≡ pins
nothing_made e pins f = append-nil (kept_by e pins) ∙ no_unpin e pins f

made : (caller : ℕ) (c : BankCall) (r : BankReply) (pins : List PinOut) → kept_by (record { caller = caller; call = c; reply = r }) pins ++ option_to_list (pin_made caller c r) ≡ pins_after pins caller c r
made caller (call.Unpin number) r pins = append-nil (kept_by (record { caller = caller; call = call.Unpin number; reply = r }) pins)
made caller (call.Pin number span) reply.Pinned pins = ap (λ (ps : List PinOut). ps ++ record { caller = caller; number = number; span = span } ∷ []) (no_unpin (record { caller = caller; call = call.Pin number span; reply = reply.Pinned }) pins (λ n. refl))
made caller (call.Pin number span) r pins = nothing_made (record { caller = caller; call = call.Pin number span; reply = r }) pins (λ n. refl)
made caller c r pins = nothing_made (record { caller = caller; call = c; reply = r }) pins (λ n. refl)

-- the outstanding pins after one more entry
pub pins_of-push : (h : List BankEntry) (caller : ℕ) (c : BankCall) (r : BankReply) → pins_of (with_entry h caller c r) ≡ pins_after (pins_of h) caller c r
pins_of-push h caller c r = pins_of-append h (record { caller = caller; call = c; reply = r }) ∙ made caller c r (pins_of h)

-- ---- how many

filter_few : (p : PinOut → Bool) (pins : List PinOut) → length (filter p pins) ≤ length pins
filter_few p [] = omega arith
filter_few p (x ∷ xs) = by (p x) (filter_few p xs)
  where
    by : (b : Bool) → length (filter p xs) ≤ length xs → length (cond b (x ∷ filter p xs) (filter p xs)) ≤ suc (length xs)
    by true h = omega arith
    by false h = omega arith

fewer_here : (caller number : ℕ) (x : PinOut) (b : Bool) (rest : List PinOut) (n : ℕ) → length rest ≤ n → (b ≡ false → length rest < n) → length (cond (not b) (x ∷ rest) rest) < suc n
fewer_here caller number x true rest n h f = omega arith
fewer_here caller number x false rest n h f = let g : length rest < n = f refl in omega arith

eqb_swap : (a b c d : ℕ) → ((a == b) && (c == d)) ≡ ((b == a) && (d == c))
eqb_swap a b c d = grind (arith, nat_tests)

-- an outstanding pin that is given back is one less
pub fewer : (caller number : ℕ) (pins : List PinOut) → has_pin pins caller number ≡ true → length (filter (λ (pin : PinOut). not ((caller == pin.caller) && (number == pin.number))) pins) < length pins
fewer caller number [] h = cc
fewer caller number (x ∷ xs) h =
    fewer_here caller number x ((caller == x.caller) && (number == x.number)) (filter (λ (pin : PinOut). not ((caller == pin.caller) && (number == pin.number))) xs) (length xs)
    (filter_few (λ (pin : PinOut). not ((caller == pin.caller) && (number == pin.number))) xs)
    (λ f. fewer caller number xs (let g : ((x.caller == caller) && (x.number == number)) ≡ false = eqb_swap x.caller caller x.number number ∙ f in sym (ap (λ b. b || has_pin xs caller number) g) ∙ h))
