-- What a slice brings about: in the banks, at the control machine, and in the order that it names.
use Rattle.std.specs.Prelude.{◌≡◌, ◌==◌, ◌&&◌, ℕ, false, List, [], ◌∷◌, ◌++◌, Option, IfSome, Result, Ok, Err}
use Rattle.chv_defs_base.specs.declared.book.BookId.{BookId}
use Rattle.chv_defs_api.specs.declared.context.StopCause.{StopCause}
use Rattle.chv_defs_api.specs.declared.control.ControlCall.{ControlCall}
use Rattle.chv_defs_api.specs.Desks.{Answer}
use Rattle.chv_defs_memory.specs.declared.bank.BankCall.{BankCall}
use Rattle.chv_defs_memory.specs.declared.bank.BankEntry.{BankEntry}
use Rattle.chv_defs_memory.specs.BankState.{later}
use Rattle.chv_defs_memory.specs.Lending as lending
use Rattle.chv_defs_memory.specs.Lending.{Access, GoesOnFor}
use Rattle.chv_defs_memory.specs.Zones.{IsBank}
use Rattle.chv_defs_guest.specs.Course.{Exchange, Accessed, Asked, answers_of, books_of, cause_of, entries_in, last_stopped}
use Rattle.chv_defs_guest.specs.Replies.{AreFitting}

-- What is told of a context at a moment: the number as which it calls on banks, its own entries in each bank, what it has seen of
-- each bank's history (where that is told), its caller's answers at the control machine, the last of its calls there to which the
-- answer was that the run stops, the books of its entries so far, and the cause for which the run stops.
pub record Moment : Type 0 where
  pub caller : ℕ
  pub own : ℕ → ℕ → List BankEntry
  pub seen : ℕ → ℕ → Option (List BankEntry)
  pub answers : List Answer
  pub stopped : Option ControlCall
  pub order : List BookId
  pub cause : Option StopCause

-- a moment, by its parts
abbrev pub moment : ℕ → (ℕ → ℕ → List BankEntry) → (ℕ → ℕ → Option (List BankEntry)) → List Answer → Option ControlCall → List BookId → Option StopCause → Moment
moment caller own seen answers stopped order cause = record {
  caller = caller;
  own = own;
  seen = seen;
  answers = answers;
  stopped = stopped;
  order = order;
  cause = cause;
}

-- What was seen of a history has gone on by entries of others, where it is told.
abbrev pub OnlySeesOn : ℕ → Option (List BankEntry) → Option (List BankEntry) → Type 0
OnlySeesOn caller before after = IfSome before (λ seen. IfSome after (λ further. GoesOnFor caller seen further))

-- An access was made in one turn of its bank; for want of memory there may have been none.
abbrev pub Turn : ℕ → ℕ → ℕ → Option (List BankEntry) → Option (List BankEntry) → BankCall → Access → Type 0
Turn caller zone bank before after call (Ok answer) = lending.Accesses caller zone bank before after call answer
Turn caller zone bank before after call (Err wanting) = OnlySeesOn caller before after

-- An access was made in a bank that there is, in one turn, and what is seen of the other banks stayed.
pub record Takes (caller zone bank : ℕ) (before after : ℕ → ℕ → Option (List BankEntry)) (call : BankCall) (answer : Access) : Type 0 where
  pub there : IsBank zone bank
  pub turn : Turn caller zone bank (before zone bank) (after zone bank) call answer
  pub others : (z b : ℕ) → IsBank z b → (z == zone && b == bank) ≡ false → after z b ≡ before z b

-- The exchanges took these turns, one after another, from what was seen of the banks before to what is seen of them behind: an
-- access one turn of its bank; and while the control machine was asked, others may have made entries.
abbrev pub Turns : ℕ → (ℕ → ℕ → Option (List BankEntry)) → List Exchange → (ℕ → ℕ → Option (List BankEntry)) → Type 0
Turns caller before [] after = after ≡ before
Turns caller before (Accessed zone bank call answer ∷ es) after =
    (between : ℕ → ℕ → Option (List BankEntry)) × Takes caller zone bank before between call answer × Turns caller between es after
Turns caller before (Asked call answer ∷ es) after =
    (between : ℕ → ℕ → Option (List BankEntry)) × ((z b : ℕ) → IsBank z b → OnlySeesOn caller (before z b) (between z b)) × Turns caller between es after

-- From one moment to another just these exchanges were made, and each came to what it can come to.
pub record Makes (before : Moment) (exchanges : List Exchange) (after : Moment) : Type 0 where
  pub caller : after.caller ≡ before.caller
  pub banks : (zone bank : ℕ) → IsBank zone bank → after.own zone bank ≡ before.own zone bank ++ entries_in before.caller zone bank exchanges
  pub turns : Turns before.caller before.seen exchanges after.seen
  pub answers : after.answers ≡ before.answers ++ answers_of exchanges
  pub stopped : after.stopped ≡ later before.stopped (last_stopped exchanges)
  pub order : after.order ≡ before.order ++ books_of exchanges
  pub cause : after.cause ≡ later before.cause (cause_of exchanges)
  pub fitting : AreFitting exchanges
