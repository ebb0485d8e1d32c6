-- What a call is answered, by whether a book is full for its entry.
use Rattle.std.proofs.Common.{◌≡◌, ℕ, List, [], Option, None, Some, Result, Ok, Err, refl, sym, ap, subst, ◌∙◌}
use Rattle.std.specs.Prelude.{IfOk, MatchResult}
use Rattle.std.specs.declared.alloc.AllocError.{AllocError}
use Rattle.chv_defs_base.specs.declared.book.Full.{Full}
use Rattle.chv_defs_api.specs.declared.shelf.OnShelf.{OnShelf}
use Rattle.chv_defs_api.specs.declared.control.ControlCall.{ControlCall}
use Rattle.chv_defs_api.specs.declared.control.ControlCall.TheVariants as call
use Rattle.chv_defs_api.specs.declared.control.ControlReply.{ControlReply}
use Rattle.chv_defs_api.specs.declared.control.ControlReply.TheVariants as reply
use Rattle.chv_defs_api.specs.declared.control.ControlEntry.{ControlEntry}
use Rattle.chv_defs_memory.specs.declared.bank.Refusal.{Refusal}
use Rattle.chv_defs_memory.specs.Zones.{Known}
use Rattle.chv_defs_control.specs.declared.machine.Machine.{Machine}
use Rattle.chv_defs_control.specs.ApiStep.{reply_to}
use Rattle.chv_defs_control.specs.ControlBook.{full_at}
use Rattle.chv_defs_control.specs.FullBooks.{book_in, first_full, or_else}
use Rattle.chv_defs_control.specs.OwnerCalls.{room_refusal_for, HaveTheCalls}
use Rattle.chv_ctl_mem.specs.ZoneCalls as zones
use Rattle.chv_control.specs.declared.inner.Inner.TheVariants as inner
use Rattle.chv_control.specs.Control.{entry_of, unless_full}
use Rattle.chv_control.proofs.KeptBanks.{no-room-wanted, none-at-stop}

-- ---- the first full book

found-full : (found : Option Full) (full : Full) → Err full ≡ zones.unless_full found → found ≡ Some full
found-full None full e = cc
found-full (Some other) full e = cc

found-none : (found : Option Full) (done : Unit {0}) → Ok done ≡ zones.unless_full found → found ≡ None
found-none None done e = refl
found-none (Some full) done e = cc

-- where no book is full, the control book is not
first-none : (found other : Option Full) → or_else found other ≡ None → found ≡ None
first-none None other e = refl
first-none (Some full) other e = cc

-- ---- what was asked

-- the calls' answer where they were answered
pub called-so : (result : Result (Result (Unit {0}) Full) AllocError) (called due : Result (Unit {0}) Full) → result ≡ Ok called → IfOk result (λ answer. answer ≡ due) → called ≡ due
called-so result called due e h = subst (λ (r : Result (Result (Unit {0}) Full) AllocError). IfOk r (λ answer. answer ≡ due)) e h

-- what holds where a book was full
pub where-full : (P Q : Type 0) (result : Result (Result (Unit {0}) Full) AllocError) (full : Full) → result ≡ Ok (Err full) → IfOk result (λ answer. MatchResult answer (λ done. P) (λ why. Q)) → Q
where-full P Q result full e h = subst (λ (r : Result (Result (Unit {0}) Full) AllocError). IfOk r (λ answer. MatchResult answer (λ done. P) (λ why. Q))) e h

-- and where none was
pub where-made : (P Q : Type 0) (result : Result (Result (Unit {0}) Full) AllocError) (done : Unit {0}) → result ≡ Ok (Ok done) → IfOk result (λ answer. MatchResult answer (λ done. P) (λ why. Q)) → P
where-made P Q result done e h = subst (λ (r : Result (Result (Unit {0}) Full) AllocError). IfOk r (λ answer. MatchResult answer (λ done. P) (λ why. Q))) e h

-- ---- the answer

first-full-same : (shelf : List OnShelf) (m : Machine) (history seen : List ControlEntry) (known : ℕ → ℕ → Known) (caller : ℕ) (c : ControlCall) (entry : ControlEntry) → seen ≡ history → entry ≡ entry_of shelf m caller c
    → first_full m history known (entry_of shelf m caller c) ≡ first_full m seen known entry
first-full-same shelf m history seen known caller c entry same is =
    ap (λ (h : List ControlEntry). first_full m h known (entry_of shelf m caller c)) (sym same) ∙ ap (λ (e : ControlEntry). first_full m seen known e) (sym is)

-- where a book is full for the entry
pub answered-full : (shelf : List OnShelf) (m : Machine) (history seen : List ControlEntry) (known : ℕ → ℕ → Known) (caller : ℕ) (c : ControlCall) (entry : ControlEntry) (called : Result (Unit {0}) Full) (full : Full)
    → seen ≡ history → entry ≡ entry_of shelf m caller c → called ≡ zones.unless_full (first_full m seen known entry) → called ≡ Err full
    → Err (inner.Full full) ≡ unless_full (first_full m history known (entry_of shelf m caller c)) (reply_to shelf m c)
answered-full shelf m history seen known caller c entry called full same is due is_full =
    let found : first_full m history known (entry_of shelf m caller c) ≡ Some full =
    first-full-same shelf m history seen known caller c entry same is ∙ found-full (first_full m seen known entry) full (sym is_full ∙ due) in
    sym (ap (λ (o : Option Full). unless_full o (reply_to shelf m c)) found)

-- where none is
none-found : (shelf : List OnShelf) (m : Machine) (history seen : List ControlEntry) (known : ℕ → ℕ → Known) (caller : ℕ) (c : ControlCall) (entry : ControlEntry) (called : Result (Unit {0}) Full) (done : Unit {0})
    → seen ≡ history → entry ≡ entry_of shelf m caller c → called ≡ zones.unless_full (first_full m seen known entry) → called ≡ Ok done
    → first_full m history known (entry_of shelf m caller c) ≡ None
none-found shelf m history seen known caller c entry called done same is due made =
    first-full-same shelf m history seen known caller c entry same is ∙ found-none (first_full m seen known entry) done (sym made ∙ due)

pub answered-so : (shelf : List OnShelf) (m : Machine) (history seen : List ControlEntry) (known : ℕ → ℕ → Known) (caller : ℕ) (c : ControlCall) (entry : ControlEntry) (called : Result (Unit {0}) Full) (done : Unit {0})
    → seen ≡ history → entry ≡ entry_of shelf m caller c → called ≡ zones.unless_full (first_full m seen known entry) → called ≡ Ok done
    → Ok (reply_to shelf m c) ≡ unless_full (first_full m history known (entry_of shelf m caller c)) (reply_to shelf m c)
answered-so shelf m history seen known caller c entry called done same is due made =
    sym (ap (λ (o : Option Full). unless_full o (reply_to shelf m c)) (none-found shelf m history seen known caller c entry called done same is due made))

pub control-not-full : (shelf : List OnShelf) (m : Machine) (history seen : List ControlEntry) (known : ℕ → ℕ → Known) (caller : ℕ) (c : ControlCall) (entry : ControlEntry) (called : Result (Unit {0}) Full) (done : Unit {0})
    → seen ≡ history → entry ≡ entry_of shelf m caller c → called ≡ zones.unless_full (first_full m seen known entry) → called ≡ Ok done
    → full_at m history (entry_of shelf m caller c) ≡ None
control-not-full shelf m history seen known caller c entry called done same is due made =
    first-none (full_at m history (entry_of shelf m caller c)) (book_in (room_refusal_for m c (reply_to shelf m c) known)) (none-found shelf m history seen known caller c entry called done same is due made)

-- ---- the calls in the banks

-- the calls that were made, said of a machine, call, answer and banks that are the same
pub calls-same : (m n : Machine) (c c' : ControlCall) (r r' : ControlReply) (old old' new : ℕ → ℕ → Known) → n ≡ m → c' ≡ c → r' ≡ r → old' ≡ old → HaveTheCalls [] m c r old new → HaveTheCalls [] n c' r' old' new
calls-same m n c c' r r' old old' new machines calls replies banks called =
    let first : HaveTheCalls [] n c r old new = subst (λ (x : Machine). HaveTheCalls [] x c r old new) (sym machines) called in
    let second : HaveTheCalls [] n c' r old new = subst (λ (x : ControlCall). HaveTheCalls [] n x r old new) (sym calls) first in
    let third : HaveTheCalls [] n c' r' old new = subst (λ (x : ControlReply). HaveTheCalls [] n c' x old new) (sym replies) second in
    subst (λ (x : ℕ → ℕ → Known). HaveTheCalls [] n c' r' x new) (sym banks) third

-- ---- a Stop

-- a Stop is always entered
pub answered-stop : (shelf : List OnShelf) (m : Machine) (history : List ControlEntry) (known : ℕ → ℕ → Known) (caller : ℕ) → Ok reply.Done ≡ unless_full (first_full m history known (entry_of shelf m caller call.Stop)) (reply_to shelf m call.Stop)
answered-stop shelf m history known caller =
    sym (ap (λ (o : Option Refusal). unless_full (book_in o) reply.Done) (no-room-wanted m call.Stop reply.Done known (none-at-stop m)))

-- ---- one book after the other

-- the control book is full
pub first-found : (found other : Option Full) (full : Full) → found ≡ Some full → Err full ≡ zones.unless_full (or_else found other)
first-found found other full e = sym (ap (λ (o : Option Full). zones.unless_full (or_else o other)) e)

-- it is not, and the banks are asked
pub next-asked : (found other : Option Full) (result : Result (Result (Unit {0}) Full) AllocError) → found ≡ None → IfOk result (λ answer. answer ≡ zones.unless_full other) → IfOk result (λ answer. answer ≡ zones.unless_full (or_else found other))
next-asked found other result e h = subst (λ (o : Option Full). IfOk result (λ answer. answer ≡ zones.unless_full (or_else o other))) (sym e) h
