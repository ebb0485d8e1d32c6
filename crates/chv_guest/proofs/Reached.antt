-- An access of a context in its turn, as the banks made it.
use Rattle.std.proofs.Common.{◌≡◌, ℕ, false, [], IfOk, Some, Ok, Err, refl, sym, ap}
use Rattle.std.proofs.lemmas.List.{append-nil}
use Rattle.chv_defs_memory.specs.declared.bank.BankCall.{BankCall}
use Rattle.chv_defs_memory.specs.BankBook.{refusal_of, refused_or}
use Rattle.chv_defs_memory.specs.BankState.{is_frozen}
use Rattle.chv_defs_memory.specs.LegalBank.{access_reply, IsLegal}
use Rattle.chv_defs_memory.specs.Lending.{left_by, Access, Accesses, IsWithinLimits}
use Rattle.chv_defs_memory.specs.Zones.{book_of, Known}

pub accesses : (caller zone bank : ℕ) (c : BankCall) (came : Access) (before after : Known) → IsLegal bank before.history → is_frozen before.history ≡ false → IsWithinLimits (book_of zone bank before)
    → IfOk came (λ answer. answer ≡ refused_or (refusal_of (book_of zone bank before) c) (access_reply bank before.history c))
    → IfOk came (λ answer. after ≡ record before { history = left_by before.history caller c answer })
    → IfOk came (λ answer. Accesses caller zone bank (Some before.history) (Some after.history) c answer)
accesses caller zone bank c (Ok answer) before after legal thawed limits answered entry = record {
  at = before.history;
  legal = legal;
  thawed = thawed;
  seen = ([], refl, sym (append-nil before.history));
  entries = before.entries;
  pages = before.pages;
  limits = limits;
  answered = answered;
  left = ap (λ (k : Known). k.history) entry;
}
accesses caller zone bank c (Err why) before after legal thawed limits answered entry = tt
