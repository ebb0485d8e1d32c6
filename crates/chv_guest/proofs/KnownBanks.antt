-- What the owner knows of the banks, through its calls.
use Rattle.std.proofs.Common.{◌≡◌, ◌≢◌, ℕ, ◌+◌, ◌-◌, ◌*◌, ◌<◌, ◌≤◌, false, List, [], length, drop, map, IfOk, Option, None, Result, Ok, Err, sym, ap, subst, ◌∙◌, refl, arith}
use Rattle.std.specs.Prelude.{◌==◌, if◌then◌else◌}
use Rattle.std.specs.declared.alloc.AllocError.{AllocError}
use Rattle.std.proofs.lemmas.Bool.Decides.{nat_tests}
use Rattle.std.proofs.lemmas.List.{append-nil, length-map, length-take-le, length-drop, get_or-map, get_or-take, get_or-drop}
use Rattle.std.proofs.lemmas.List.FromFn.{fill_by_all}
use Rattle.chv_defs_memory.specs.declared.bank.BankEntry.{BankEntry}
use Rattle.chv_defs_memory.specs.declared.bank.Refusal.{Refusal}
use Rattle.chv_defs_memory.specs.BankState.{banks}
use Rattle.chv_defs_memory.specs.BankBook.{BankBook, fresh, refused_or, room_refusal}
use Rattle.chv_defs_memory.specs.Zones.{book_of, first_due, most_zones, zone_refusal, GivesBack, GoesOn, Known, MakesRoom, OtherZonesStay}
use Rattle.chv_guest.specs.LentBanks.{bank_at, banks_of, change_zone, known_at, AreAllBanks, AreLentTo}
use Rattle.chv_guest.specs.Room.{is_made, keep_places, refusal_in, with_places}
use Rattle.chv_guest.proofs.ZoneBanks.{bank-known, bank_at-changed, bank_at-other, zone-fits, zone-known, AreAllBanks-changed, AreLentTo-changed, KeepsBook}

-- what is known of a bank
abbrev pub known_of : BankBook → Known
known_of b = record { history = b.history; entries = b.entries; pages = b.pages }

-- two different numbers
apart-from : (m n : ℕ) → (m == n) ≡ false → m ≢ n
apart-from m n h e = grind (arith, nat_tests)

-- a history that is as before goes on by nothing
pub stays : (lent : List ℕ) (before after : List BankEntry) → after ≡ before → GoesOn lent before after
stays lent before after same = ([], refl, same ∙ sym (append-nil before))

-- ---- a zone is changed

pub known-changed : (books : List BankBook) (zone bank : ℕ) (change : BankBook → BankBook) → AreAllBanks books → zone < most_zones → bank < banks → known_at (change_zone zone change books) zone bank ≡ known_of (change (bank_at books zone bank))
known-changed books zone bank change all known inside = ap known_of (bank_at-changed books zone bank change all known inside)

pub others-stay : (books : List BankBook) (zone : ℕ) (change : BankBook → BankBook) → AreAllBanks books → zone < most_zones → OtherZonesStay (known_at books) (known_at (change_zone zone change books)) zone
others-stay books zone change all known = λ z b is other. ap known_of (bank_at-other books zone z b change all known is.1 (apart-from z zone other))

-- ---- places are given back

pub keep_places-keeps : (keep : ℕ) → KeepsBook (keep_places keep)
keep_places-keeps keep = record { zone = λ b. refl; bank = λ b. refl; history = λ b. refl }

pub gives_back : (lent : List ℕ) (books : List BankBook) (zone bank keep : ℕ) → AreAllBanks books → zone < most_zones → bank < banks → GivesBack lent keep (known_at books zone bank) (known_at (change_zone zone (keep_places keep) books) zone bank)
gives_back lent books zone bank keep all known inside =
    subst (λ (after : Known). GivesBack lent keep (known_at books zone bank) after)
    (sym (known-changed books zone bank (keep_places keep) all known inside))
    (stays lent (bank_at books zone bank).history (bank_at books zone bank).history refl, refl)

-- ---- room

pub with_places-keeps : (entries pages : ℕ) → KeepsBook (with_places entries pages)
with_places-keeps entries pages = record { zone = λ b. refl; bank = λ b. refl; history = λ b. refl }

-- what is known of a bank is all of it
pub book-known : (books : List BankBook) (zone bank : ℕ) → AreAllBanks books → zone < most_zones → bank < banks → book_of zone bank (known_at books zone bank) ≡ bank_at books zone bank
book-known books zone bank all known inside =
    let b : BankBook = bank_at books zone bank in
    ap (λ (z : ℕ). record b { zone = z; bank = bank }) (sym (zone-known books zone bank all known inside))
    ∙ ap (λ (n : ℕ). record b { bank = n }) (sym (bank-known books zone bank all known inside))

-- the refusal that is due in a zone is that of its banks
pub refusal_in-zone : (books : List BankBook) (zone entries pages : ℕ) → AreAllBanks books → zone < most_zones → refusal_in (banks_of zone books) entries pages ≡ zone_refusal zone (known_at books zone) entries pages
refusal_in-zone books zone entries pages all known =
    let fits : zone * banks + banks ≤ length books = omega (arith, zone-fits zone known, all.all) in
    let rest : length (drop (zone * banks) books) ≡ length books - zone * banks = length-drop (zone * banks) books in
    let part : length (banks_of zone books) ≡ banks = length-take-le banks (drop (zone * banks) books) (omega arith) in
    ap first_due (fill_by_all (λ (bank : ℕ). room_refusal (book_of zone bank (known_at books zone bank)) entries pages)
    (map (λ (b : BankBook). room_refusal b entries pages) (banks_of zone books)) banks None
    (length-map (banks_of zone books) (λ (b : BankBook). room_refusal b entries pages) ∙ part)
    (λ bank inside.
    get_or-map (λ (b : BankBook). room_refusal b entries pages) (banks_of zone books) bank (fresh zone bank) None (omega arith)
    ∙ ap (λ (b : BankBook). room_refusal b entries pages)
    (get_or-take banks (drop (zone * banks) books) bank (fresh zone bank) inside
    ∙ get_or-drop (zone * banks) books bank (fresh zone bank)
    ∙ sym (book-known books zone bank all known inside))))

pub makes_room : (lent : List ℕ) (books : List BankBook) (zone entries pages : ℕ) (answer : Result (Result (Unit {0}) Refusal) AllocError) → AreAllBanks books → zone < most_zones
    → IfOk answer (λ a. a ≡ refused_or (refusal_in (banks_of zone books) entries pages) tt)
    → IfOk answer (λ a. MakesRoom lent (known_at books zone) (known_at (if is_made answer then change_zone zone (with_places entries pages) books else books) zone) zone entries pages tt a)
makes_room lent books zone entries pages (Ok (Ok done)) all known answered =
    let changed : (bank : ℕ) → bank < banks → known_at (change_zone zone (with_places entries pages) books) zone bank ≡ known_of (with_places entries pages (bank_at books zone bank)) = λ bank inside. known-changed books zone bank (with_places entries pages) all known inside in
    record {
      at = λ bank. (bank_at books zone bank).history;
      seen = λ bank inside. stays lent (bank_at books zone bank).history (bank_at books zone bank).history refl;
      later = λ bank inside. stays lent (bank_at books zone bank).history (known_at (change_zone zone (with_places entries pages) books) zone bank).history (ap (λ (k : Known). k.history) (changed bank inside));
      answered = answered ∙ ap (λ (due : Option Refusal). refused_or due tt) (refusal_in-zone books zone entries pages all known);
      reserved = λ bank inside. changed bank inside ∙ ap (λ (h : List BankEntry). record (known_of (with_places entries pages (bank_at books zone bank))) { history = h }) (sym (ap (λ (k : Known). k.history) (changed bank inside)));
    }
makes_room lent books zone entries pages (Ok (Err why)) all known answered =
    record {
      at = λ bank. (bank_at books zone bank).history;
      seen = λ bank inside. stays lent (bank_at books zone bank).history (bank_at books zone bank).history refl;
      later = λ bank inside. stays lent (bank_at books zone bank).history (bank_at books zone bank).history refl;
      answered = answered ∙ ap (λ (due : Option Refusal). refused_or due tt) (refusal_in-zone books zone entries pages all known);
      reserved = λ bank inside. refl;
    }
makes_room lent books zone entries pages (Err none) all known answered = answered

-- after room the other zones are as before, and these are all banks
pub others-stay-room : (books : List BankBook) (zone entries pages : ℕ) (answer : Result (Result (Unit {0}) Refusal) AllocError) → AreAllBanks books → zone < most_zones
    → OtherZonesStay (known_at books) (known_at (if is_made answer then change_zone zone (with_places entries pages) books else books)) zone
others-stay-room books zone entries pages (Ok (Ok done)) all known = others-stay books zone (with_places entries pages) all known
others-stay-room books zone entries pages (Ok (Err why)) all known = λ z b is other. refl
others-stay-room books zone entries pages (Err none) all known = λ z b is other. refl

pub AreAllBanks-room : (books : List BankBook) (zone entries pages : ℕ) (answer : Result (Result (Unit {0}) Refusal) AllocError) → AreAllBanks books → zone < most_zones
    → AreAllBanks (if is_made answer then change_zone zone (with_places entries pages) books else books)
AreAllBanks-room books zone entries pages (Ok (Ok done)) all known = AreAllBanks-changed books zone (with_places entries pages) (with_places-keeps entries pages) known all
AreAllBanks-room books zone entries pages (Ok (Err why)) all known = all
AreAllBanks-room books zone entries pages (Err none) all known = all

pub AreLentTo-room : (lent : List ℕ) (books : List BankBook) (zone entries pages : ℕ) (answer : Result (Result (Unit {0}) Refusal) AllocError) → AreAllBanks books → zone < most_zones → AreLentTo lent books
    → AreLentTo lent (if is_made answer then change_zone zone (with_places entries pages) books else books)
AreLentTo-room lent books zone entries pages (Ok (Ok done)) all known lent_to = AreLentTo-changed lent books zone (with_places entries pages) (with_places-keeps entries pages) known all lent_to
AreLentTo-room lent books zone entries pages (Ok (Err why)) all known lent_to = lent_to
AreLentTo-room lent books zone entries pages (Err none) all known lent_to = lent_to
