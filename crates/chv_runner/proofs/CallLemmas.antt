-- What a call of a slice comes to, from what a reach and a desk say of it.
use Rattle.std.proofs.Common.{◌≡◌, ℕ, ◌==◌, Bool, true, false, List, [], ◌∷◌, ◌++◌, Option, None, Some, refl, sym, ap, ◌∙◌, rules}
use Rattle.std.specs.Prelude.{◌&&◌, Ok, Err, IfOk, OnErr, if◌then◌else◌}
use Rattle.std.proofs.lemmas.List.{append-nil}
use Rattle.std.proofs.lemmas.List.FromFn.{length-map-range_with_len}
use Rattle.std.proofs.lemmas.Bool.{eq-eqb}
use Rattle.chv_defs_memory.specs.declared.bank.BankCall.{BankCall}
use Rattle.chv_defs_memory.specs.declared.bank.BankCall.TheVariants as call
use Rattle.chv_defs_memory.specs.declared.bank.BankEntry.{BankEntry}
use Rattle.chv_defs_memory.specs.declared.bank.BankReply.{BankReply}
use Rattle.chv_defs_memory.specs.declared.bank.BankReply.TheVariants as reply
use Rattle.chv_defs_memory.specs.BankBook.{BankBook, refusal_of, refused_or, sealed_or_full}
use Rattle.chv_defs_memory.specs.BankState.{is_frozen, is_owner_call, later}
use Rattle.chv_defs_memory.specs.LastByte.{last_byte}
use Rattle.chv_defs_memory.specs.LegalBank.{access_reply, done_reply, fault_or, first_closed, first_sealed}
use Rattle.chv_defs_memory.specs.Lending.{left_by, Access, GoesOnFor}
use Rattle.chv_defs_memory.specs.Lending as lending
use Rattle.chv_defs_memory.specs.Zones.{IsBank}
use Rattle.chv_defs_base.specs.declared.book.BookId.TheVariants as book
use Rattle.chv_defs_guest.specs.Course.{access_cause, book_if, entry_by, Accessed}
use Rattle.chv_defs_guest.specs.Moments.{Makes, Moment, OnlySeesOn, Turn}
use Rattle.chv_defs_guest.proofs.CourseLemmas.{later_none, makes_access}
use Rattle.chv_defs_guest.specs.Replies.{can_come, is_reply_of}

-- what an access leaves of the own entries in its bank
pub own_behind : (caller : ℕ) (c : BankCall) (before after : List BankEntry) (came : Access) → IfOk came (λ answer. after ≡ left_by before caller c answer)
    → OnErr came (after ≡ before) → after ≡ before ++ entry_by caller c came
own_behind caller c before after (Ok (Ok r)) h k = h
own_behind caller c before after (Ok (Err why)) h k = h ∙ sym (append-nil before)
own_behind caller c before after (Err wanting) h k = k ∙ sym (append-nil before)

-- the turn that it took
pub turn_behind : (caller zone bank : ℕ) (c : BankCall) (before after : Option (List BankEntry)) (came : Access)
    → IfOk came (λ answer. lending.Accesses caller zone bank before after c answer) → OnErr came (OnlySeesOn caller before after) → Turn caller zone bank before after c came
turn_behind caller zone bank c before after (Ok answer) h k = h
turn_behind caller zone bank c before after (Err wanting) h k = k

-- ---- that it came to what it can come to

-- whether an answer, which is no refusal for a frozen bank, is one of these replies
answers_with : (c : BankCall) (r : BankReply) → is_reply_of c r ≡ true → (b : BankBook) (o : Option ℕ) → can_come c (Ok (refused_or (sealed_or_full b c o) r)) ≡ true
answers_with c r fits b (Some block) = refl
answers_with c r fits b None = search rules

thawed_refusal : (b : BankBook) (c : BankCall) → is_frozen b.history ≡ false → (r : BankReply) → is_reply_of c r ≡ true
    → refusal_of b c ≡ sealed_or_full b c (first_sealed b.bank b.history c) → can_come c (Ok (refused_or (refusal_of b c) r)) ≡ true
thawed_refusal b c thawed r fits is = ap (λ o. can_come c (Ok (refused_or o r))) is ∙ answers_with c r fits b (first_sealed b.bank b.history c)

fault_fits : (c : BankCall) (r : BankReply) → is_reply_of c r ≡ true → ((block : ℕ) → is_reply_of c (reply.Fault block) ≡ true) → (o : Option ℕ) → is_reply_of c (fault_or o r) ≡ true
fault_fits c r fits faults (Some block) = faults block
fault_fits c r fits faults None = fits

pub is_thawed : {A : Type 0} (frozen : Bool) (x y : A) → frozen ≡ false → (if frozen then x else y) ≡ y
is_thawed frozen x y thawed = ap (λ t. if t then x else y) thawed

replied : (bank : ℕ) (b : BankBook) (c : BankCall) → is_owner_call c ≡ false → is_frozen b.history ≡ false → can_come c (Ok (refused_or (refusal_of b c) (access_reply bank b.history c))) ≡ true
replied bank b (call.Read block offset len) access thawed =
    let c = call.Read block offset len in
    thawed_refusal b c thawed (access_reply bank b.history c)
    (fault_fits c (done_reply bank b.history c) (eq-eqb _ _ (length-map-range_with_len (last_byte bank b.history block) offset len)) (λ closed. refl) (first_closed bank b.history c))
    (is_thawed (is_frozen b.history) _ _ thawed)
replied bank b (call.Write block offset bytes) access thawed =
    let c = call.Write block offset bytes in
    thawed_refusal b c thawed (access_reply bank b.history c) (fault_fits c (done_reply bank b.history c) refl (λ closed. refl) (first_closed bank b.history c)) (is_thawed (is_frozen b.history) _ _ thawed)
replied bank b (call.Pin number span) access thawed =
    let c = call.Pin number span in
    thawed_refusal b c thawed (access_reply bank b.history c) (fault_fits c (done_reply bank b.history c) refl (λ closed. refl) (first_closed bank b.history c)) (is_thawed (is_frozen b.history) _ _ thawed)
replied bank b (call.Unpin number) access thawed = refl
replied bank b c access thawed = absurd (cc access)

pub fits_behind : (caller zone bank : ℕ) (c : BankCall) (before after : Option (List BankEntry)) (came : Access) → is_owner_call c ≡ false
    → IfOk came (λ answer. lending.Accesses caller zone bank before after c answer) → can_come c came ≡ true
fits_behind caller zone bank c before after (Ok answer) access h =
    ap (λ a. can_come c (Ok a)) h.answered ∙ replied bank (record { zone = zone; bank = bank; history = h.at; entries = h.entries; pages = h.pages }) c access h.thawed
fits_behind caller zone bank c before after (Err wanting) access h = refl

-- ---- all of it

on_err_first : (came : Access) (P Q : Type 0) → OnErr came (P × Q) → OnErr came P
on_err_first (Ok answer) P Q h = tt
on_err_first (Err wanting) P Q h = h.0

on_err_second : (came : Access) (P Q : Type 0) → OnErr came (P × Q) → OnErr came Q
on_err_second (Ok answer) P Q h = tt
on_err_second (Err wanting) P Q h = h.1

pub access_makes : (m n : Moment) (zone bank : ℕ) (c : BankCall) (came : Access) → IsBank zone bank → is_owner_call c ≡ false
    → IfOk came (λ answer. lending.Accesses m.caller zone bank (m.seen zone bank) (n.seen zone bank) c answer)
    → IfOk came (λ answer. n.own zone bank ≡ left_by (m.own zone bank) m.caller c answer)
    → OnErr came ((n.own zone bank ≡ m.own zone bank) × OnlySeesOn m.caller (m.seen zone bank) (n.seen zone bank))
    → ((z b : ℕ) → IsBank z b → (z == zone && b == bank) ≡ false → (n.own z b ≡ m.own z b) × (n.seen z b ≡ m.seen z b))
    → n.caller ≡ m.caller → n.answers ≡ m.answers → n.stopped ≡ m.stopped
    → n.order ≡ m.order ++ book_if (book.Bank zone bank) came → m.cause ≡ None → n.cause ≡ access_cause came
    → Makes m (Accessed zone bank c came ∷ []) n
access_makes m n zone bank c came there access took own err others caller answers stopped order none cause =
    makes_access m n zone bank c came caller
    (own_behind m.caller c (m.own zone bank) (n.own zone bank) came own (on_err_first came _ _ err)) (λ z b is other. (others z b is other).0)
    (record {
      there = there;
      turn = turn_behind m.caller zone bank c (m.seen zone bank) (n.seen zone bank) came took (on_err_second came _ _ err);
      others = λ z b is other. (others z b is other).1;
    }) answers stopped order
    (cause ∙ sym (later_none (access_cause came)) ∙ ap (λ x. later x (access_cause came)) (sym none))
    (fits_behind m.caller zone bank c (m.seen zone bank) (n.seen zone bank) came access took)
