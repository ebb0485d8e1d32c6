-- The banks of all zones in one list: those of zone 0, then those of zone 1, and so on.
use Rattle.std.specs.Prelude.{◌≡◌, ◌<◌, ℕ, ◌+◌, ◌*◌, ◌/◌, ◌%◌, false, List, ◌++◌, [], length, map, get_or, take, drop}
use Rattle.std.specs.List.{range_with_len}
use Rattle.chv_defs_memory.specs.BankState.{banks}
use Rattle.chv_defs_memory.specs.BankBook.{BankBook, fresh}
use Rattle.chv_defs_memory.specs.LegalBank.{IsLegal}
use Rattle.chv_defs_memory.specs.Lending.{is_in}
use Rattle.chv_defs_memory.specs.LentHistory.{IsLentTo}
use Rattle.chv_defs_memory.specs.Zones.{most_zones, Known}

-- how many banks there are
abbrev pub bank_count : ℕ
bank_count = most_zones * banks

-- the place of a bank
abbrev pub place_of : ℕ → ℕ → ℕ
place_of zone bank = zone * banks + bank

-- the bank of a place
abbrev pub fresh_at : ℕ → BankBook
fresh_at place = fresh (place / banks) (place % banks)

-- all banks before anything happened to them
abbrev pub fresh_banks : List BankBook
fresh_banks = map fresh_at (range_with_len 0 bank_count)

-- The banks of all zones, and the callers of the contexts that are lent. (The value of the type `LentBanks`; the player cites it.)
pub record Lent : Type 0 where
  pub books : List BankBook
  pub lent : List ℕ

-- before anything happened to them, and while nobody is lent
abbrev pub fresh_zones : Lent
fresh_zones = record { books = fresh_banks; lent = [] }

-- the bank of a zone
abbrev pub bank_at : List BankBook → ℕ → ℕ → BankBook
bank_at books zone bank = get_or books (place_of zone bank) (fresh zone bank)

-- what the owner knows of a bank, which is all of it
abbrev pub known_at : List BankBook → ℕ → ℕ → Known
known_at books zone bank =
    let book = bank_at books zone bank in
    record { history = book.history; entries = book.entries; pages = book.pages }

-- a bank is the one of its place, and its history is legal
pub record IsBankAt (place : ℕ) (book : BankBook) : Type 0 where
  pub zone : book.zone ≡ place / banks
  pub bank : book.bank ≡ place % banks
  pub legal : IsLegal book.bank book.history

-- these are the banks of all zones, each at its place
pub record AreAllBanks (books : List BankBook) : Type 0 where
  pub all : length books ≡ bank_count
  pub each : (place : ℕ) → place < bank_count → IsBankAt place (get_or books place (fresh 0 0))

-- All banks are lent to these contexts alone, of which none is caller 0, the owner.
pub record AreLentTo (lent : List ℕ) (books : List BankBook) : Type 0 where
  pub callers : is_in 0 lent ≡ false
  pub each : (place : ℕ) → place < bank_count → IsLentTo lent (get_or books place (fresh 0 0)).history

-- ---- the banks of one zone

-- the banks of a zone
abbrev pub banks_of : ℕ → List BankBook → List BankBook
banks_of zone books = take banks (drop (zone * banks) books)

-- all banks, where those of one zone are changed
abbrev pub change_zone : ℕ → (BankBook → BankBook) → List BankBook → List BankBook
change_zone zone change books =
    take (zone * banks) books ++ (map change (banks_of zone books) ++ drop banks (drop (zone * banks) books))
