-- What an access of a context comes to, on one thread.
use Rattle.std.specs.Prelude.{◌≡◌, ℕ, IfOk, OnErr, Ok, Err}
use Rattle.chv_defs_memory.specs.declared.bank.BankCall.{BankCall}
use Rattle.chv_defs_memory.specs.BankBook.{refusal_of, refused_or, BankBook}
use Rattle.chv_defs_memory.specs.LegalBank.{access_reply}
use Rattle.chv_defs_memory.specs.Lending.{left_by, Access}
use Rattle.chv_defs_memory.specs.Zones.{book_of, OtherBanksStay}
use Rattle.chv_guest.specs.LentBanks.{known_at, Lent}

-- the bank behind an access: its entry stands in the history where it was answered, and nothing else is changed
abbrev pub left_at : BankBook → ℕ → BankCall → Access → BankBook
left_at b caller c (Ok answer) = record b { history = left_by b.history caller c answer }
left_at b caller c (Err why) = b

-- An access among the banks of all zones: it is answered, or refused, by all that is known of its bank, which has one entry more,
-- or after a refusal or for want of memory none; all other banks are as before, and lent to the same contexts.
pub record MakesAccess (caller zone bank : ℕ) (c : BankCall) (came : Access) (before after : Lent) : Type 0 where
  pub answer : IfOk came (λ answer. answer
      ≡ refused_or (refusal_of (book_of zone bank (known_at before.books zone bank)) c) (access_reply bank (known_at before.books zone bank).history c))
  pub entry : IfOk came (λ answer. known_at after.books zone bank
      ≡ record (known_at before.books zone bank) { history = left_by (known_at before.books zone bank).history caller c answer })
  pub err : OnErr came (known_at after.books zone bank ≡ known_at before.books zone bank)
  pub others : OtherBanksStay (known_at before.books) (known_at after.books) zone bank
  pub lent : after.lent ≡ before.lent
