-- The banks of all zones, as contexts are lent, make accesses and come back.
use Rattle.std.proofs.Common.{◌≡◌, ◌<◌, ℕ, ◌+◌, ◌*◌, ◌/◌, ◌%◌, Bool, true, false, List, get_or, set, IfOk, OnErr, Ok, Err, refl, sym, ap, subst, ◌∙◌, arith}
use Rattle.std.specs.Prelude.{◌==◌, ◌||◌}
use Rattle.std.proofs.lemmas.Bool.Decides.{nat_tests}
use Rattle.std.proofs.lemmas.List.{get_or_default}
use Rattle.chv_defs_memory.specs.declared.bank.BankCall.{BankCall}
use Rattle.chv_defs_memory.specs.declared.bank.BankEntry.{BankEntry}
use Rattle.chv_defs_memory.specs.BankBook.{BankBook, fresh}
use Rattle.chv_defs_memory.specs.BankState.{banks, is_frozen, is_owner_call}
use Rattle.chv_defs_memory.specs.Lending.{is_in, left_by, Access, HasNoPinBy, OneLess, OneMore}
use Rattle.chv_defs_memory.specs.LentHistory.{IsLentTo}
use Rattle.chv_defs_memory.specs.Zones.{most_zones, IsBank, Known}
use Rattle.chv_defs_memory.proofs.LentLaws.{lent-access, lent-back, lent-lend}
use Rattle.chv_guest.specs.Accesses.{left_at}
use Rattle.chv_guest.specs.LentBanks.{bank_at, bank_count, known_at, AreAllBanks, AreLentTo}
use Rattle.chv_guest.proofs.KnownBanks.{known_of}
use Rattle.chv_guest.proofs.SameBanks.{book_at, has_bank}
use Rattle.chv_guest.proofs.ZoneBanks.{bank-set, place-fits}

-- ---- the bank of a zone

-- it is lent to the contexts to which all are
pub lent-at : (lent : List ℕ) (books : List BankBook) (zone bank : ℕ) → AreAllBanks books → AreLentTo lent books → zone < most_zones → bank < banks → IsLentTo lent (bank_at books zone bank).history
lent-at lent books zone bank all lent_to known inside =
    let fits = place-fits zone bank known inside in
    subst (λ (b : BankBook). IsLentTo lent b.history)
    (get_or_default books (zone * banks + bank) (fresh 0 0) (fresh zone bank) (omega (arith, all.all)))
    (lent_to.each (zone * banks + bank) fits)

-- the history at a place is what is known of the bank of that place
history-at : (books : List BankBook) (place : ℕ) → AreAllBanks books → place < bank_count → (get_or books place (fresh 0 0)).history ≡ (known_at books (place / banks) (place % banks)).history
history-at books place all within = ap (λ (b : BankBook). b.history) (book_at books place all within)

-- a context that is lent is not the owner
not-owner : (lent : List ℕ) (caller : ℕ) (zero : Bool) → (caller == 0) ≡ zero → is_in 0 lent ≡ false → is_in caller lent ≡ true → zero ≡ false
not-owner lent caller true is none here =
    let same : caller ≡ 0 = grind (arith, nat_tests, is) in
    let wrong : is_in caller lent ≡ false = ap (λ n. is_in n lent) same ∙ none in cc
not-owner lent caller false is none here = refl

pub above-owner : (lent : List ℕ) (books : List BankBook) (caller : ℕ) → AreLentTo lent books → is_in caller lent ≡ true → 0 < caller
above-owner lent books caller lent_to here =
    let other : (caller == 0) ≡ false = not-owner lent caller (caller == 0) refl lent_to.callers here in
    grind (arith, nat_tests, other)

-- ---- a context is lent, and comes back

pub AreLentTo-lend : (lent more : List ℕ) (books : List BankBook) (caller : ℕ) → AreAllBanks books → 0 < caller → OneMore caller lent more → ((zone bank : ℕ) → IsBank zone bank → is_frozen (known_at books zone bank).history ≡ false) → AreLentTo lent books
    → AreLentTo more books
AreLentTo-lend lent more books caller all above one thawed lent_to =
    let other : (caller == 0) ≡ false = grind (arith, nat_tests, above) in
    record {
      callers = one 0 ∙ ap (λ (b : Bool). b || is_in 0 lent) other ∙ lent_to.callers;
      each = λ place here. lent-lend lent more caller (get_or books place (fresh 0 0)).history one
          (ap is_frozen (history-at books place all here) ∙ thawed (place / banks) (place % banks) (has_bank place here)) (lent_to.each place here);
    }

pub AreLentTo-back : (lent fewer : List ℕ) (books : List BankBook) (caller : ℕ) → AreAllBanks books → is_in caller lent ≡ true → OneLess caller lent fewer → ((zone bank : ℕ) → IsBank zone bank → HasNoPinBy caller (known_at books zone bank).history) → AreLentTo lent books
    → AreLentTo fewer books
AreLentTo-back lent fewer books caller all here one none lent_to =
    let above : 0 < caller = above-owner lent books caller lent_to here in
    let other : (0 == caller) ≡ false = grind (arith, nat_tests, above) in
    record {
      callers = one.1 0 other ∙ lent_to.callers;
      each = λ place within. lent-back lent fewer caller (get_or books place (fresh 0 0)).history one here
          (subst (λ (h : List BankEntry). HasNoPinBy caller h) (sym (history-at books place all within)) (none (place / banks) (place % banks) (has_bank place within)))
          (lent_to.each place within);
    }

-- ---- an access

pub left-zone : (b : BankBook) (caller : ℕ) (c : BankCall) (came : Access) → (left_at b caller c came).zone ≡ b.zone
left-zone b caller c (Ok answer) = refl
left-zone b caller c (Err why) = refl

pub left-bank : (b : BankBook) (caller : ℕ) (c : BankCall) (came : Access) → (left_at b caller c came).bank ≡ b.bank
left-bank b caller c (Ok answer) = refl
left-bank b caller c (Err why) = refl

-- a bank stays lent to the same contexts
pub left-lent : (lent : List ℕ) (b : BankBook) (caller : ℕ) (c : BankCall) (came : Access) → is_owner_call c ≡ false → is_in caller lent ≡ true → IsLentTo lent b.history → IsLentTo lent (left_at b caller c came).history
left-lent lent b caller c (Ok (Ok reply)) other here is = lent-access lent caller b.history c reply other here is
left-lent lent b caller c (Ok (Err why)) other here is = is
left-lent lent b caller c (Err why) other here is = is

-- what is known of it then
pub left-known : (books : List BankBook) (zone bank place : ℕ) (b : BankBook) (caller : ℕ) (c : BankCall) (came : Access) → AreAllBanks books → zone < most_zones → bank < banks → place ≡ zone * banks + bank → b ≡ left_at (bank_at books zone bank) caller c came
    → known_at (set books place b) zone bank ≡ known_of (left_at (bank_at books zone bank) caller c came)
left-known books zone bank place b caller c came all known inside here left = ap known_of (bank-set books zone bank place b all known inside here ∙ left)

-- it has the entry where the access was answered
pub left-entry : (b : BankBook) (caller : ℕ) (c : BankCall) (came : Access) (after : Known) → after ≡ known_of (left_at b caller c came) → IfOk came (λ answer. after ≡ record (known_of b) { history = left_by b.history caller c answer })
left-entry b caller c (Ok answer) after is = is
left-entry b caller c (Err why) after is = tt

-- and is as it was where memory was wanting
pub left-err : (b : BankBook) (caller : ℕ) (c : BankCall) (came : Access) (after : Known) → after ≡ known_of (left_at b caller c came) → OnErr came (after ≡ known_of b)
left-err b caller c (Ok answer) after is = tt
left-err b caller c (Err why) after is = is
