-- A call that is asked at the desk, by what the control value answers it.
use Rattle.std.proofs.Common.{◌≡◌, inl, inr, ℕ, true, false, List, [], ◌∷◌, ◌++◌, Option, None, Some, Result, Ok, Err, IfOk, OnErr, refl, subst, sym, ap, ◌∙◌}
use Rattle.chv_defs_base.specs.declared.book.Full.{Full}
use Rattle.chv_defs_api.specs.declared.shelf.OnShelf.{OnShelf}
use Rattle.chv_defs_control.specs.declared.machine.Machine.{Machine}
use Rattle.chv_defs_api.specs.declared.control.ControlCall.{ControlCall}
use Rattle.chv_defs_api.specs.declared.control.ControlCall.TheVariants as call
use Rattle.chv_defs_api.specs.declared.control.ControlReply.{ControlReply}
use Rattle.chv_defs_api.specs.declared.control.ControlEntry.{ControlEntry}
use Rattle.chv_defs_control.specs.ApiStep.{reply_to}
use Rattle.chv_defs_control.specs.ControlStep.{MayCall}
use Rattle.chv_defs_control.specs.FullBooks.{first_full}
use Rattle.chv_defs_control.specs.OwnerCalls.{HaveTheCalls}
use Rattle.chv_defs_memory.specs.BankBook.{BankBook}
use Rattle.chv_defs_memory.specs.Zones.{IsBank}
use Rattle.chv_defs.specs.Schedule.{known_in}
use Rattle.chv_guest.specs.LentBanks.{known_at, Lent}
use Rattle.chv_defs_api.specs.Desks.{Answer, MayAsk, is_held, is_session_call}
use Rattle.chv_defs_control.specs.LegalControl.{answers_by}
use Rattle.chv_store.specs.declared.any_disk.AnyDisk.{AnyDisk}
use Rattle.chv_control.specs.Shelf.{shelf_of}
use Rattle.chv_control.specs.declared.inner.Inner.{Inner}
use Rattle.chv_control.specs.declared.inner.Inner.TheVariants as inner
use Rattle.chv_control.specs.Control.{answer_to, entered, unless_full}
use Rattle.chv_play.specs.declared.desk.PlayDesk.{PlayDesk}
use Rattle.chv_play.specs.Desk.{IsAnswered, IsAskedOf, IsEntered, call_of, entry_at, full_for}
use Rattle.chv_play.proofs.DeskLemmas.{own_entry}
use Rattle.chv_play.specs.Banks.{IsWhole, PlayedControl, entered_with_banks, traced, zones_behind}
use Rattle.chv_guest.proofs.SameBanks.{same_books}
use Rattle.chv_play.proofs.BankLemmas.{books_are, first_full_same, known_same}

-- a reply is the one that is due, in a book that has room
has_room : (full : Option Full) (due reply : ControlReply) → Ok reply ≡ unless_full full due → (full ≡ None) × (reply ≡ due)
has_room None due reply is = (refl, cc)
has_room (Some full) due reply is = absurd (cc is)

-- where there is none, this book is full
pub no_room : (full : Option Full) (due : ControlReply) (book : Full) → Err (inner.Full book) ≡ unless_full full due → full ≡ Some book
no_room None due book is = absurd (cc is)
no_room (Some full) due book is = cc

-- a call is refused in no other way
pub never_again : (full : Option Full) (due : ControlReply) (context : ℕ) → Err (inner.Again context) ≡ unless_full full due → ⊥
never_again None due context is = cc is
never_again (Some full) due context is = cc is

pub never_not_yet : (full : Option Full) (due : ControlReply) → Err inner.NotYet ≡ unless_full full due → ⊥
never_not_yet None due is = cc is
never_not_yet (Some full) due is = cc is

pub never_over : (full : Option Full) (due : ControlReply) → Err inner.Over ≡ unless_full full due → ⊥
never_over None due is = cc is
never_over (Some full) due is = cc is

-- ---- the control value, with its banks

-- a book that is full by what the owner knows is so by the schedule
full_same : {D : Type 0} (shelf : List OnShelf) (control : PlayedControl D) (caller : ℕ) (call : ControlCall) → IsWhole control
    → first_full control.machine control.history (known_at control.zones.books) (entry_at shelf control caller call) ≡ full_for shelf control caller call
full_same {D} shelf control caller call whole =
    first_full_same control.machine control.history (known_at control.zones.books) (known_in (traced control.zones)) (entry_at shelf control caller call)
    (known_same control.zones whole.all whole.rest)

-- an answer by what the owner knows is one by the schedule
pub answer_same : {D : Type 0} (shelf : List OnShelf) (control : PlayedControl D) (caller : ℕ) (call : ControlCall) (answer : Result ControlReply Inner)
    → IsWhole control → answer ≡ answer_to shelf (known_at control.zones.books) control caller call
    → answer ≡ unless_full (full_for shelf control caller call) (reply_to shelf control.machine call)
answer_same {D} shelf control caller call answer whole is =
    is ∙ ap (λ (full : Option Full). unless_full full (reply_to shelf control.machine call)) (full_same shelf control caller call whole)

-- the control value behind an entry
pub entered_here : {D : Type 0} (old new : PlayedControl D) (e : ControlEntry) → new ≡ record (entered old e) { zones = new.zones }
    → HaveTheCalls [] old.machine e.call e.reply (known_at old.zones.books) (known_at new.zones.books) → IsWhole old → IsWhole new
    → new ≡ entered_with_banks old e
entered_here {D} old new e enters called whole_old whole_new =
    let zones : new.zones ≡ zones_behind old.machine e old.zones =
    ap (λ (books : List BankBook). record new.zones { books = books })
    (books_are old.machine e old.zones.books new.zones.books whole_old.all whole_new.all whole_old.rest called)
    ∙ ap (λ (lent : List ℕ). record (zones_behind old.machine e old.zones) { lent = lent }) (whole_new.home ∙ sym whole_old.home) in
    enters ∙ ap (λ (z : Lent). record (entered old e) { zones = z }) zones

-- a control value that was left as it was
pub left_here : {D : Type 0} (old new : PlayedControl D) → new ≡ record old { zones = new.zones }
    → ((zone bank : ℕ) → IsBank zone bank → known_at new.zones.books zone bank ≡ known_at old.zones.books zone bank) → IsWhole old → IsWhole new → new ≡ old
left_here {D} old new stays same whole_old whole_new =
    let zones : new.zones ≡ old.zones =
    ap (λ (books : List BankBook). record new.zones { books = books }) (same_books new.zones.books old.zones.books whole_new.all whole_old.all same)
    ∙ ap (λ (lent : List ℕ). record old.zones { lent = lent }) (whole_new.home ∙ sym whole_old.home) in
    stays ∙ ap (λ (z : Lent). record old { zones = z }) zones

-- ---- the answer of the desk, where memory may be wanting

pub answer_of : {D E : Type 0} (shelf : List OnShelf) (control : PlayedControl D) (caller : ℕ) (call : ControlCall) (result : Result (Result ControlReply Inner) E)
    → IsWhole control → IfOk result (λ answer. answer ≡ answer_to shelf (known_at control.zones.books) control caller call)
    → IfOk result (λ answer. answer ≡ unless_full (full_for shelf control caller call) (reply_to shelf control.machine call))
answer_of {D} {E} shelf control caller call (Ok answer) whole is = answer_same shelf control caller call answer whole is
answer_of {D} {E} shelf control caller call (Err error) whole is = tt

pub entered_of : {D E : Type 0} (old new : PlayedControl D) (caller : ℕ) (call : ControlCall) (result : Result (Result ControlReply Inner) E)
    → IfOk result (λ answer. IfOk answer (λ reply. new ≡ record (entered old (record { caller = caller; call = call; reply = reply })) { zones = new.zones }))
    → IfOk result (λ answer. IfOk answer (λ reply. HaveTheCalls [] old.machine call reply (known_at old.zones.books) (known_at new.zones.books)))
    → IsWhole old → IsWhole new
    → IfOk result (λ answer. IfOk answer (λ reply. new ≡ entered_with_banks old (record { caller = caller; call = call; reply = reply })))
entered_of {D} {E} old new caller call (Ok (Ok reply)) enters called whole_old whole_new =
    entered_here old new (record { caller = caller; call = call; reply = reply }) enters called whole_old whole_new
entered_of {D} {E} old new caller call (Ok (Err why)) enters called whole_old whole_new = tt
entered_of {D} {E} old new caller call (Err error) enters called whole_old whole_new = tt

pub refused_of : {D E : Type 0} (old new : PlayedControl D) (result : Result (Result ControlReply Inner) E)
    → IfOk result (λ answer. OnErr answer (new ≡ record old { zones = new.zones }))
    → IfOk result (λ answer. OnErr answer ((zone bank : ℕ) → IsBank zone bank → known_at new.zones.books zone bank ≡ known_at old.zones.books zone bank))
    → IsWhole old → IsWhole new → IfOk result (λ answer. OnErr answer (new ≡ old))
refused_of {D} {E} old new (Ok (Ok reply)) stays same whole_old whole_new = tt
refused_of {D} {E} old new (Ok (Err why)) stays same whole_old whole_new = left_here old new stays same whole_old whole_new
refused_of {D} {E} old new (Err error) stays same whole_old whole_new = tt

pub wanting_of : {A D E : Type 0} (old new : PlayedControl D) (result : Result A E)
    → OnErr result (new ≡ record old { zones = new.zones })
    → OnErr result ((zone bank : ℕ) → IsBank zone bank → known_at new.zones.books zone bank ≡ known_at old.zones.books zone bank)
    → IsWhole old → IsWhole new → OnErr result (new ≡ old)
wanting_of {A} {D} {E} old new (Ok answer) stays same whole_old whole_new = tt
wanting_of {A} {D} {E} old new (Err error) stays same whole_old whole_new = left_here old new stays same whole_old whole_new

-- where the control value is so, the desk is
pub desk_entered : {D E : Type 0} (desk : PlayDesk D) (new : PlayedControl D) (of : ControlReply → PlayedControl D) (result : Result (Result ControlReply Inner) E)
    → IfOk result (λ answer. IfOk answer (λ reply. new ≡ of reply)) → IfOk result (λ answer. IfOk answer (λ reply. record desk { control = new } ≡ record desk { control = of reply }))
desk_entered {D} {E} desk new of (Ok (Ok reply)) is = ap (λ (c : PlayedControl D). record desk { control = c }) is
desk_entered {D} {E} desk new of (Ok (Err why)) is = tt
desk_entered {D} {E} desk new of (Err error) is = tt

pub desk_refused : {D E : Type 0} (desk : PlayDesk D) (new : PlayedControl D) (result : Result (Result ControlReply Inner) E)
    → IfOk result (λ answer. OnErr answer (new ≡ desk.control)) → IfOk result (λ answer. OnErr answer (record desk { control = new } ≡ desk))
desk_refused {D} {E} desk new (Ok (Ok reply)) is = tt
desk_refused {D} {E} desk new (Ok (Err why)) is = ap (λ (c : PlayedControl D). record desk { control = c }) is
desk_refused {D} {E} desk new (Err error) is = tt

pub desk_wanting : {A D E : Type 0} (desk : PlayDesk D) (new : PlayedControl D) (result : Result A E)
    → OnErr result (new ≡ desk.control) → OnErr result (record desk { control = new } ≡ desk)
desk_wanting {A} {D} {E} desk new (Ok answer) is = tt
desk_wanting {A} {D} {E} desk new (Err error) is = ap (λ (c : PlayedControl D). record desk { control = c }) is

-- a book that is full for a call that left the desk as it was
pub full_left : {D : Type 0} (count : AnyDisk D → ℕ) (before after : PlayDesk D) (call : ControlCall) (book : Full) (answer : Result ControlReply Inner)
    → answer ≡ Err (inner.Full book)
    → answer ≡ unless_full (full_for (shelf_of count before.control.disks) before.control before.caller call) (reply_to (shelf_of count before.control.disks) before.control.machine call)
    → OnErr answer (after ≡ before) → full_for (shelf_of count after.control.disks) after.control after.caller call ≡ Some book
full_left {D} count before after call book (Ok reply) is due same = absurd (cc is)
full_left {D} count before after call book (Err why) is due same =
    subst (λ (d : PlayDesk D). full_for (shelf_of count d.control.disks) d.control d.caller call ≡ Some book) (sym same)
    (no_room (full_for (shelf_of count before.control.disks) before.control before.caller call) (reply_to (shelf_of count before.control.disks) before.control.machine call) book
    (sym is ∙ due))

-- a call that was entered
pub is_entered : {D : Type 0} (shelf : List OnShelf) (before : PlayDesk D) (call : ControlCall) (after : PlayDesk D) (reply : ControlReply)
    → Ok reply ≡ unless_full (full_for shelf before.control before.caller call) (reply_to shelf before.control.machine call)
    → after ≡ record before { control = entered_with_banks before.control (record { caller = before.caller; call = call; reply = reply }) }
    → IsEntered shelf before call after × (reply ≡ reply_to shelf before.control.machine call)
is_entered {D} shelf before call after reply answer enters =
    let due = reply_to shelf before.control.machine call in
    let room = has_room (full_for shelf before.control before.caller call) due reply answer in
    let entry : ControlReply → ControlEntry = λ r. record { caller = before.caller; call = call; reply = r } in (
      record {
        room = room.0;
        enters = enters ∙ ap (λ r. record before { control = entered_with_banks before.control (entry r) }) room.1;
      },
      room.1,
    )

-- what a caller may ask that is not held and has no context out, it may call
pub may_call : (m : Machine) (caller : ℕ) (answers : List Answer) (c : ControlCall) → is_held answers ≡ false → MayAsk caller None answers c
    → MayCall m caller c × (is_session_call c ≡ true)
may_call m caller answers call.Settle settled may = absurd (cc (settled, may.1))
may_call m caller answers (call.Reg number access) settled may = absurd (cc may.0)
may_call m caller answers call.Stop settled may = absurd (cc may.1)
may_call m caller answers c settled may = (may, may.1)

-- ---- what asking a call leaves, by its answer

pub is_asked : {D S E : Type 0} (shelf : List OnShelf) (before : PlayDesk D) (c : ControlCall) (after : PlayDesk D) (r : Result (Result ControlReply S) E)
    → IsAnswered shelf before c after r → IsAskedOf shelf before c after
is_asked {D} {S} {E} shelf before c after (Ok (Ok reply)) is = inl is.0
is_asked {D} {S} {E} shelf before c after (Ok (Err stopped)) is = inr (inl is)
is_asked {D} {S} {E} shelf before c after (Err error) is = inr (inr is)

pub caller_stays : {D S E : Type 0} (shelf : List OnShelf) (before : PlayDesk D) (c : ControlCall) (after : PlayDesk D) (r : Result (Result ControlReply S) E)
    → IsAnswered shelf before c after r → after.caller ≡ before.caller
caller_stays {D} {S} {E} shelf before c after (Ok (Ok reply)) is = ap (λ (d : PlayDesk D). d.caller) is.0.enters
caller_stays {D} {S} {E} shelf before c after (Ok (Err stopped)) is = ap (λ (d : PlayDesk D). d.caller) is.keeps
caller_stays {D} {S} {E} shelf before c after (Err error) is = ap (λ (d : PlayDesk D). d.caller) is

-- the calls that its caller made
abbrev pub made_at : {D : Type 0} → PlayDesk D → List Answer
made_at desk = answers_by desk.caller desk.control.history

pub is_made : {D S E : Type 0} (shelf : List OnShelf) (before : PlayDesk D) (c : ControlCall) (after : PlayDesk D) (r : Result (Result ControlReply S) E)
    → IsAnswered shelf before c after r
    → IfOk r (λ answer. IfOk answer (λ reply.
    (made_at after ≡ made_at before ++ record { call = c; reply = reply } ∷ []) × (call_of after.refused ≡ call_of before.refused)))
is_made {D} {S} {E} shelf before c after (Ok (Ok reply)) is = (
  ap made_at is.0.enters ∙ own_entry before.caller before.control.history c (reply_to shelf before.control.machine c)
      ∙ ap (λ (r : ControlReply). made_at before ++ record { call = c; reply = r } ∷ []) (sym is.1),
  ap (λ (d : PlayDesk D). call_of d.refused) is.0.enters,
)
is_made {D} {S} {E} shelf before c after (Ok (Err stopped)) is = tt
is_made {D} {S} {E} shelf before c after (Err error) is = tt
