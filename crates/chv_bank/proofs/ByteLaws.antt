-- A closed block is not reached; what a block reads as after it was opened, and after a write.
use Rattle.std.proofs.Common.{◌≡◌, ℕ, ◌+◌, ◌<◌, ◌≤◌, Bool, true, false, List, Option, None, Some, refl, sym, ◌∙◌, ap, subst, arith, length, take, add-one}
use Rattle.std.specs.Prelude.{slice_get, slice_index, not, ◌&&◌, ◌==◌, unwrap_or}
use Rattle.std.specs.List.{list_all}
use Rattle.std.proofs.lemmas.Bool.Decides.{nat_tests}
use Rattle.std.proofs.lemmas.List.FromFn.{get_or-map-range_with_len}
use Rattle.chv_defs_memory.specs.declared.bank.BankCall.{BankCall}
use Rattle.chv_defs_memory.specs.declared.bank.BankCall.TheVariants as call
use Rattle.chv_defs_memory.specs.declared.bank.BankReply.{BankReply}
use Rattle.chv_defs_memory.specs.declared.bank.BankReply.TheVariants as reply
use Rattle.chv_defs_memory.specs.declared.bank.BankEntry.{BankEntry}
use Rattle.chv_defs_memory.specs.BankState.{names, if_named, blocks_of, is_open, says_open}
use Rattle.chv_defs_memory.specs.LastByte.{last_byte, last_bytes, says_byte}
use Rattle.chv_defs_memory.specs.LegalBank.{IsLegal, IsNext, IfAccess, IsAccess, fault_or, done_reply, first_closed}
use Rattle.chv_bank.specs.Laws.{opens, reaches, is_fault, is_close, puts, replaces, IsClosedAt, IsLastWritten, ClosedBlocksAreNotReached, OpenedBlocksAreZero, ReadsGiveTheLastWrite}
use Rattle.chv_bank.proofs.Latest.{is_open-push, last_byte-push}
use Rattle.chv_bank.proofs.Ranges.{none_passes}
use Rattle.chv_bank.proofs.Walks.{walk, take_snoc, place_within, each_named, not_not_true}

-- ---- closed blocks

when_named : (n : Bool) → n ≡ true → {A : Type 0} → (x d : A) → unwrap_or (if_named n x) d ≡ x
when_named true e x d = refl
when_named false e x d = cc

shut : (bank block : ℕ) (old : Bool) (c : BankCall) (r : BankReply) → is_close bank block c r ≡ true → unwrap_or (says_open bank block c r) old ≡ false
shut bank block old (call.Close span) reply.Closed h = when_named (names bank span block) h false old
shut bank block old (call.Close span) reply.Done h = cc
shut bank block old (call.Close span) (reply.Got bytes) h = cc
shut bank block old (call.Close span) reply.Sealed h = cc
shut bank block old (call.Close span) (reply.Busy b who) h = cc
shut bank block old (call.Close span) (reply.Pages n) h = cc
shut bank block old (call.Close span) reply.Pinned h = cc
shut bank block old (call.Close span) (reply.Fault b) h = cc
shut bank block old c r h = absurd (cc)

named_as : (n old : Bool) → n ≡ false → old ≡ false → unwrap_or (if_named n true) old ≡ false
named_as true old h e = cc
named_as false old h e = e

named_shut : (n old : Bool) → old ≡ false → unwrap_or (if_named n false) old ≡ false
named_shut true old e = refl
named_shut false old e = e

stays_shut : (bank block : ℕ) (old : Bool) (c : BankCall) (r : BankReply) → opens bank block c ≡ false → old ≡ false → unwrap_or (says_open bank block c r) old ≡ false
stays_shut bank block old (call.Shape n) r h e = h
stays_shut bank block old call.Wipe r h e = refl
stays_shut bank block old (call.Open span) r h e = named_as (names bank span block) old h e
stays_shut bank block old (call.Close span) reply.Closed h e = named_shut (names bank span block) old e
stays_shut bank block old c r h e = e

pub shut_at : (bank : ℕ) (history : List BankEntry) (block from at : ℕ) → IsClosedAt bank history block from at → is_open bank (take at history) block ≡ false
shut_at bank history block from at closed =
    let e : BankEntry = closed.closing in
    walk history (λ h. is_open bank h block ≡ false) from at
    (subst (λ h. is_open bank h block ≡ false) (sym (take_snoc history from e closed.stands)) (is_open-push bank (take from history) e block ∙ shut bank block (is_open bank (take from history) block) e.call e.reply closed.closes))
    closed.later closed.inside
    (λ m x low high there is. is_open-push bank (take m history) x block ∙ stays_shut bank block (is_open bank (take m history) block) x.call x.reply (closed.kept m x low high there) is)

-- what all blocks of an access pass, a block that it reaches passes
one_block : (p : ℕ → Bool) (b block : ℕ) → (b == block) ≡ true → (p b && true) ≡ true → p block ≡ true
one_block p b block e h =
    let same : b ≡ block = grind (arith, nat_tests) in
    subst (λ k. p k ≡ true) same (by (p b) h)
  where
    by : (t : Bool) → (t && true) ≡ true → t ≡ true
    by true g = refl
    by false g = g

fault_some : (o : Option ℕ) (otherwise : BankReply) → (o ≡ None → ⊥) → is_fault (fault_or o otherwise) ≡ true
fault_some None otherwise h = absurd (h refl)
fault_some (Some block) otherwise h = refl

faults : (bank : ℕ) (h : List BankEntry) (c : BankCall) (r : BankReply) (block : ℕ) → IsAccess bank h c r → ((p : ℕ → Bool) → list_all p (blocks_of bank c) ≡ true → p block ≡ true) → is_open bank h block ≡ false → is_fault r ≡ true
faults bank h c r block is each shut_ =
    ap is_fault is.replied
    ∙ fault_some (first_closed bank h c) (done_reply bank h c) (λ none.
    let opened : is_open bank h block ≡ true = not_not_true (is_open bank h block) (each (λ k. not (not (is_open bank h k))) (none_passes (λ k. not (is_open bank h k)) (blocks_of bank c) none)) in
    cc)

reached : (bank : ℕ) (h : List BankEntry) (c : BankCall) (r : BankReply) (block : ℕ) → IfAccess bank h c r → reaches bank block c ≡ true → is_open bank h block ≡ false → is_fault r ≡ true
reached bank h (call.Read b offset len) r block is named shut_ = faults bank h (call.Read b offset len) r block is (λ p all. one_block p b block named all) shut_
reached bank h (call.Write b offset bytes) r block is named shut_ = faults bank h (call.Write b offset bytes) r block is (λ p all. one_block p b block named all) shut_
reached bank h (call.Pin number span) r block is named shut_ = faults bank h (call.Pin number span) r block is (λ p all. each_named p bank span block named all) shut_
reached bank h c r block is named shut_ = absurd (cc)

pub closed_unreached : ClosedBlocksAreNotReached
closed_unreached bank history block from at e legal closed there named = reached bank (take at history) e.call e.reply block (legal at e there).access named (shut_at bank history block from at closed)

-- ---- bytes

zeroed : (bank block at old : ℕ) (c : BankCall) (r : BankReply) → opens bank block c ≡ true → unwrap_or (says_byte bank block at c r) old ≡ 0
zeroed bank block at old (call.Shape n) r h = refl
zeroed bank block at old (call.Open span) r h = when_named (names bank span block) h 0 old
zeroed bank block at old c r h = absurd (cc)

pub opened_zero : OpenedBlocksAreZero
opened_zero bank history from block at e there opening =
    rw add-one (subst (λ h. last_byte bank h block at ≡ 0) (sym (take_snoc history from e there)) (last_byte-push bank (take from history) e block at ∙ zeroed bank block at (last_byte bank (take from history) block at) e.call e.reply opening))

put_is : (bank block at byte old : ℕ) (c : BankCall) (r : BankReply) → puts block at c r ≡ Some byte → unwrap_or (says_byte bank block at c r) old ≡ byte
put_is bank block at byte old (call.Write b offset bytes) reply.Done h = ap (λ o. unwrap_or o old) h
put_is bank block at byte old (call.Fill b page bytes) reply.Done h = ap (λ o. unwrap_or o old) h
put_is bank block at byte old c r h = absurd (cc)

named_zero : (n : Bool) (old byte : ℕ) → n ≡ false → old ≡ byte → unwrap_or (if_named n 0) old ≡ byte
named_zero true old byte h e = cc
named_zero false old byte h e = e

stays_put : (bank block at byte old : ℕ) (c : BankCall) (r : BankReply) → puts block at c r ≡ None → replaces bank block c r ≡ false → old ≡ byte → unwrap_or (says_byte bank block at c r) old ≡ byte
stays_put bank block at byte old (call.Write b offset bytes) reply.Done h g e = ap (λ o. unwrap_or o old) h ∙ e
stays_put bank block at byte old (call.Fill b page bytes) reply.Done h g e = ap (λ o. unwrap_or o old) h ∙ e
stays_put bank block at byte old (call.Open span) r h g e = named_zero (names bank span block) old byte g e
stays_put bank block at byte old (call.Close span) reply.Closed h g e = named_zero (names bank span block) old byte g e
stays_put bank block at byte old (call.Shape n) r h g e = cc
stays_put bank block at byte old call.Wipe r h g e = cc
stays_put bank block at byte old c r h g e = e

pub byte_stays : (bank : ℕ) (history : List BankEntry) (block at byte from to : ℕ) → to ≤ length history → IsLastWritten bank history block at byte from to → last_byte bank (take to history) block at ≡ byte
byte_stays bank history block at byte from to inside written =
    let e : BankEntry = written.writing in
    walk history (λ h. last_byte bank h block at ≡ byte) from to
    (subst (λ h. last_byte bank h block at ≡ byte) (sym (take_snoc history from e written.stands)) (last_byte-push bank (take from history) e block at ∙ put_is bank block at byte (last_byte bank (take from history) block at) e.call e.reply written.put))
    written.later inside
    (λ m x low high there is. let kept = written.kept m x low high there in last_byte-push bank (take m history) x block at ∙ stays_put bank block at byte (last_byte bank (take m history) block at) x.call x.reply kept.0 kept.1 is)

got_bytes : (o : Option ℕ) (bytes all : List ℕ) → reply.Got bytes ≡ fault_or o (reply.Got all) → bytes ≡ all
got_bytes None bytes all h = cc
got_bytes (Some block) bytes all h = cc

-- a Read that is done stands inside the history, and gives at each offset the byte of the entries before it
pub read_gives : (bank : ℕ) (history : List BankEntry) (block offset len k to caller : ℕ) (bytes : List ℕ) → IsLegal bank history →
    slice_get history to ≡ Some (record { caller = caller; call = call.Read block offset len; reply = reply.Got bytes }) → k < len → (to < length history) × (slice_index bytes k ≡ last_byte bank (take to history) block (offset + k))
read_gives bank history block offset len k to caller bytes legal there small =
    let e : BankEntry = record { caller = caller; call = call.Read block offset len; reply = reply.Got bytes } in
    let next : IsNext bank (take to history) e = legal to e there in
    let read : bytes ≡ last_bytes bank (take to history) block offset len = got_bytes (first_closed bank (take to history) (call.Read block offset len)) bytes (last_bytes bank (take to history) block offset len) next.access.replied in
    (place_within history to e there, ap (λ xs. slice_index xs k) read ∙ get_or-map-range_with_len (last_byte bank (take to history) block) offset len k (offset + k) 0 small refl)

pub reads_last : ReadsGiveTheLastWrite
reads_last bank history block offset len k byte from to caller bytes legal written there small =
    let given = read_gives bank history block offset len k to caller bytes legal there small in
    given.1 ∙ byte_stays bank history block (offset + k) byte from to (omega (arith, given.0)) written
