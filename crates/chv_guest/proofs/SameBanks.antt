-- What the owner knows of the banks is all that there is to them.
use Rattle.std.proofs.Common.{◌≡◌, ℕ, ◌+◌, ◌*◌, ◌/◌, ◌%◌, ◌<◌, List, [], get_or, sym, ◌∙◌, ap, arith}
use Rattle.std.proofs.lemmas.List.{ext_get_or, get_or_default}
use Rattle.std.proofs.lemmas.List.FromFn.{get_or-map-range_with_len}
use Rattle.std.proofs.lemmas.Nat.{div-add-mod'}
use Rattle.chv_defs_memory.specs.BankBook.{BankBook, fresh}
use Rattle.chv_defs_memory.specs.BankState.{banks}
use Rattle.chv_defs_memory.specs.Zones.{book_of, IsBank, Known}
use Rattle.chv_guest.specs.LentBanks.{bank_at, bank_count, fresh_at, fresh_banks, known_at, AreAllBanks}
use Rattle.chv_guest.proofs.KnownBanks.{known_of}
use Rattle.chv_guest.proofs.ZoneBanks.{place-fits}

-- ---- the bank of a place

-- a bank is what is known of it, with its numbers
book_is : (b : BankBook) (zone bank : ℕ) (known : Known) → b.zone ≡ zone → b.bank ≡ bank → known_of b ≡ known → b ≡ book_of zone bank known
book_is b zone bank known zone_is bank_is known_is =
    ap (λ (z : ℕ). record b { zone = z }) zone_is ∙ ap (λ (n : ℕ). record b { zone = zone; bank = n }) bank_is
    ∙ ap (λ (k : Known). book_of zone bank k) known_is

-- The bank at a place is what is known of the bank with its numbers.
pub book_at : (books : List BankBook) (place : ℕ) → AreAllBanks books → place < bank_count
    → get_or books place (fresh 0 0) ≡ book_of (place / banks) (place % banks) (known_at books (place / banks) (place % banks))
book_at books place all within =
    let at = all.each place within in
    let same : bank_at books (place / banks) (place % banks) ≡ get_or books place (fresh 0 0) =
    ap (λ p. get_or books p (fresh (place / banks) (place % banks))) (div-add-mod' place banks)
    ∙ get_or_default books place (fresh (place / banks) (place % banks)) (fresh 0 0) (omega (arith, all.all, within)) in
    book_is (get_or books place (fresh 0 0)) (place / banks) (place % banks) (known_at books (place / banks) (place % banks)) at.zone at.bank (ap known_of (sym same))

-- a place is that of a bank
pub has_bank : (place : ℕ) → place < bank_count → IsBank (place / banks) (place % banks)
has_bank place within = (grind arith, grind arith)

-- Banks of which the same is known are the same.
pub same_books : (books others : List BankBook) → AreAllBanks books → AreAllBanks others → ((zone bank : ℕ) → IsBank zone bank → known_at books zone bank ≡ known_at others zone bank) → books ≡ others
same_books books others all also same = ext_get_or (fresh 0 0) books others (all.all ∙ sym also.all) (λ place within. one place (omega (arith, all.all, within)))
  where
    one : (place : ℕ) → place < bank_count → get_or books place (fresh 0 0) ≡ get_or others place (fresh 0 0)
    one place within =
        book_at books place all within
        ∙ ap (book_of (place / banks) (place % banks)) (same (place / banks) (place % banks) (has_bank place within))
        ∙ sym (book_at others place also within)

-- ---- before anything happened

-- Of a bank to which nothing happened nothing is known, and nothing is reserved there.
pub fresh-known : (zone bank : ℕ) → IsBank zone bank → known_at fresh_banks zone bank ≡ record { history = []; entries = 0; pages = 0 }
fresh-known zone bank is =
    let place : ℕ = zone * banks + bank in
    ap known_of (get_or-map-range_with_len fresh_at 0 bank_count place place (fresh zone bank) (place-fits zone bank is.0 is.1) (omega arith))
