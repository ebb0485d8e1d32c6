-- Room for banks, one after another.
use Rattle.std.proofs.Common.{◌≡◌, ℕ, ◌+◌, ◌-◌, ◌<◌, ◌≤◌, List, [], ◌∷◌, ◌++◌, length, get_or, set, take, drop, map, IfOk, MatchResult, OnErr, true, false, Option, Some, None, Result, Ok, Err, sym, ap, ◌∙◌, refl, arith}
use Rattle.std.specs.declared.alloc.AllocError.{AllocError}
use Rattle.std.specs.List.{All}
use Rattle.std.proofs.lemmas.List.{at_drop_more, take-append-drop, set-get_or, length-map, length-take-le, get_or-append_right, get_or-drop, take_at, drop_at}
use Rattle.std.proofs.lemmas.List.Elements.{All-head, All-tail, All-take}
use Rattle.chv_defs_memory.specs.declared.bank.Refusal.{Refusal}
use Rattle.chv_defs_memory.specs.BankBook.{BankBook, refused_or, room_refusal}
use Rattle.chv_defs_memory.specs.Zones.{first_due}
use Rattle.chv_guest.specs.Room.{is_made, refusal_in, with_places, without_places}

-- what an answer says of the refusal that was due
pub due-ok : (due : Option Refusal) (u : Unit {0}) (answer : Result (Unit {0}) Refusal) → answer ≡ refused_or due u → answer ≡ Ok u → due ≡ None
due-ok (Some other) u answer e ok = cc
due-ok None u answer e ok = refl

-- a bank that does not refuse leaves it to those behind it
pub refusal_in-none : (books : List BankBook) (k entries pages : ℕ) (d : BankBook) → k < length books → room_refusal (get_or books k d) entries pages ≡ None → refusal_in (drop k books) entries pages ≡ refusal_in (drop (k + 1) books) entries pages
refusal_in-none books k entries pages d inside due =
    at_drop_more (λ (xs : List BankBook). refusal_in xs entries pages) books k d inside
    ∙ ap (λ (r : Option Refusal). first_due (r ∷ map (λ (b : BankBook). room_refusal b entries pages) (drop (k + 1) books))) due

-- a bank that gave back what it got is as before
pub without-with : (entries pages : ℕ) (b : BankBook) → b.pages ≡ 0 → without_places entries (with_places entries pages b) ≡ b
without-with entries pages b none =
    let left : b.entries + entries - entries ≡ b.entries = omega arith in
    ap (λ (n : ℕ). record b { entries = n; pages = 0 }) left ∙ ap (λ (n : ℕ). record b { pages = n }) (sym none)

-- and so are several
pub all_without-with : (entries pages : ℕ) (books : List BankBook) → All (λ (b : BankBook). b.pages ≡ 0) books → map (without_places entries) (map (with_places entries pages) books) ≡ books
all_without-with entries pages [] none = refl
all_without-with entries pages (b ∷ books) none =
    let first = without-with entries pages b (All-head (λ (b : BankBook). b.pages ≡ 0) b books none) in
    let rest = all_without-with entries pages books (All-tail (λ (b : BankBook). b.pages ≡ 0) b books none) in
    cc

-- a bank that has no room is as it was
pub kept_bank : (answer : Result (Result (Unit {0}) Refusal) AllocError) (before after grown : BankBook) → is_made answer ≡ false → IfOk answer (λ a. MatchResult a (λ _. after ≡ grown) (λ _. after ≡ before)) → OnErr answer (after ≡ before) → after ≡ before
kept_bank (Ok (Ok done)) before after grown un made err = cc
kept_bank (Ok (Err why)) before after grown un made err = made
kept_bank (Err none) before after grown un made err = err

-- and one that has room has got it, as none was to be refused
pub grown_bank : (answer : Result (Result (Unit {0}) Refusal) AllocError) (before after grown : BankBook) → is_made answer ≡ true → IfOk answer (λ a. MatchResult a (λ _. after ≡ grown) (λ _. after ≡ before)) → after ≡ grown
grown_bank (Ok (Ok done)) before after grown has made = made
grown_bank (Ok (Err why)) before after grown has made = cc
grown_bank (Err none) before after grown has made = cc

pub none_due : (answer : Result (Result (Unit {0}) Refusal) AllocError) (due : Option Refusal) → is_made answer ≡ true → IfOk answer (λ a. a ≡ refused_or due tt) → due ≡ None
none_due (Ok (Ok done)) due has says = due-ok due tt (Ok done) says refl
none_due (Ok (Err why)) due has says = cc
none_due (Err none) due has says = cc

-- the bank at a place, where those before it were changed
pub get_or-changed_front : (change : BankBook → BankBook) (books now : List BankBook) (k : ℕ) (d : BankBook) → k ≤ length books → now ≡ map change (take k books) ++ drop k books → get_or now k d ≡ get_or books k d
get_or-changed_front change books now k d inside is =
    let front : length (map change (take k books)) ≡ k = length-map (take k books) change ∙ length-take-le k books inside in
    let zero : k - k ≡ 0 = omega arith in
    let back : k + 0 ≡ k = omega arith in
    ap (λ (xs : List BankBook). get_or xs k d) is
    ∙ get_or-append_right (map change (take k books)) (drop k books) k k d front (omega arith)
    ∙ ap (λ (i : ℕ). get_or (drop k books) i d) zero
    ∙ get_or-drop k books 0 d
    ∙ ap (λ (i : ℕ). get_or books i d) back

-- all banks are as before where those before a place gave back what they got
pub undone : (books now : List BankBook) (k entries pages : ℕ) (b d : BankBook) (front : List BankBook) → All (λ (b : BankBook). b.pages ≡ 0) books → k ≤ length books → now ≡ map (with_places entries pages) (take k books) ++ drop k books
    → b ≡ get_or now k d → front ≡ map (without_places entries) (take k (set now k b)) → front ++ drop k (set now k b) ≡ books
undone books now k entries pages b d front none inside is here gave =
    let long : length (map (with_places entries pages) (take k books)) ≡ k = length-map (take k books) (with_places entries pages) ∙ length-take-le k books inside in
    let same : set now k b ≡ now = ap (λ (x : BankBook). set now k x) here ∙ set-get_or now k d in
    let taken : take k now ≡ map (with_places entries pages) (take k books) = ap (λ (xs : List BankBook). take k xs) is ∙ take_at (map (with_places entries pages) (take k books)) (drop k books) k long in
    let dropped : drop k now ≡ drop k books = ap (λ (xs : List BankBook). drop k xs) is ∙ drop_at (map (with_places entries pages) (take k books)) (drop k books) k long in
    let back : map (without_places entries) (map (with_places entries pages) (take k books)) ≡ take k books = all_without-with entries pages (take k books) (All-take (λ (b : BankBook). b.pages ≡ 0) k books none) in
    let first : front ≡ take k books = gave ∙ ap (λ (xs : List BankBook). map (without_places entries) (take k xs)) same ∙ ap (λ (xs : List BankBook). map (without_places entries) xs) taken ∙ back in
    let rest : drop k (set now k b) ≡ drop k books = ap (λ (xs : List BankBook). drop k xs) same ∙ dropped in
    ap (λ (xs : List BankBook). xs ++ drop k (set now k b)) first ∙ ap (λ (xs : List BankBook). take k books ++ xs) rest ∙ take-append-drop k books
