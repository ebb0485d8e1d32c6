-- What calls on the banks of all zones come to while no context acts: then nothing is seen in between, and the owner knows all
-- that there is.
use Rattle.std.proofs.Common.{◌≡◌, ℕ, zero, suc, ◌+◌, ◌-◌, ◌<◌, Bool, true, false, List, [], ◌∷◌, ◌++◌, Option, None, Some, Result, refl, sym, ◌∙◌, ap, arith}
use Rattle.std.specs.Prelude.{◌&&◌, map, min}
use Rattle.std.specs.List.{range_with_len}
use Rattle.std.proofs.lemmas.List.{append-nil}
use Rattle.chv_defs_memory.specs.declared.bank.BankCall.{BankCall}
use Rattle.chv_defs_memory.specs.declared.bank.BankCall.TheVariants as call
use Rattle.chv_defs_memory.specs.declared.bank.BankReply.{BankReply}
use Rattle.chv_defs_memory.specs.declared.bank.BankEntry.{BankEntry}
use Rattle.chv_defs_memory.specs.declared.bank.Refusal.{Refusal}
use Rattle.chv_defs_memory.specs.BankState.{banks, is_frozen, later, latest, says_frozen}
use Rattle.chv_defs_memory.specs.BankBook.{owner_reply, pages_used, refused_or, room_refusal, with_entry}
use Rattle.chv_defs_memory.specs.Lending.{is_in}
use Rattle.chv_defs_memory.specs.Zones.{acting, book_of, first_due, is_of, with_room, zone_refusal, AreOf, Enters, GivesBack, GoesOn, Known, MakesRoom, OnlySeesMore}

-- ---- while no context acts

and-false : (a : Bool) → (a && false) ≡ false
and-false true = refl
and-false false = refl

and-first : (a b : Bool) → (a && b) ≡ true → a ≡ true
and-first true b e = refl
and-first false b e = e

is_of-none : (e : BankEntry) → is_of [] e ≡ false
is_of-none e = and-false _

-- no entry is one of theirs
pub others-none : (others : List BankEntry) → AreOf [] others → others ≡ []
others-none [] h = refl
others-none (e ∷ es) h = let first : is_of [] e ≡ true = and-first (is_of [] e) _ h in let not_so : is_of [] e ≡ false = is_of-none e in cc

-- no history goes on by itself
pub goes-on-none : (before after : List BankEntry) → GoesOn [] before after → after ≡ before
goes-on-none before after h = h.2 ∙ ap (λ others. before ++ others) (others-none h.0 h.1) ∙ append-nil before

-- ---- who acts meanwhile

-- with nobody lent nobody acts
pub nobody-acts : (shared : Bool) (lent : List ℕ) → lent ≡ [] → acting shared lent ≡ []
nobody-acts true lent home = home
nobody-acts false lent home = refl

-- whatever is shared, who acts is lent
pub acting-lent : (shared : Bool) (lent : List ℕ) (caller : ℕ) → is_in caller (acting shared lent) ≡ true → is_in caller lent ≡ true
acting-lent true lent caller acts = acts
acting-lent false lent caller acts = cc

-- ---- the owner's calls while no context acts

-- the owner sees nothing new
pub sees-none : (before after : Known) → OnlySeesMore [] before after → after ≡ before
sees-none before after h =
    h.1 ∙ ap (λ history. record before { history = history }) (goes-on-none before.history after.history h.0)

-- what is given back, and nothing else is changed
pub gives-back-none : (keep : ℕ) (before after : Known) → GivesBack [] keep before after → after ≡ record before { entries = min before.entries keep; pages = 0 }
gives-back-none keep before after h =
    h.1 ∙ ap (λ history. record before { history = history; entries = min before.entries keep; pages = 0 }) (goes-on-none before.history after.history h.0)

-- a bank with the entry of a call of the owner, which uses one reserved entry
abbrev pub entered_by : ℕ → BankCall → Known → Known
entered_by bank c known = record known {
  history = with_entry known.history 0 c (owner_reply bank known.history c);
  entries = known.entries - 1;
  pages = known.pages - pages_used c;
}

-- the entry is made behind what the owner knows, and answered by it
pub enters-none : (bank : ℕ) (before after : Known) (c : BankCall) (r : BankReply) → Enters [] bank before after c r → (r ≡ owner_reply bank before.history c) × (after ≡ entered_by bank c before)
enters-none bank before after c r h =
    let seen : before.history ++ h.others ≡ before.history = ap (λ others. before.history ++ others) (others-none h.others h.of_contexts) ∙ append-nil before.history in
    let replied : r ≡ owner_reply bank before.history c = h.replied ∙ ap (λ history. owner_reply bank history c) seen in
    let made : List BankEntry → BankReply → Known = λ history reply. record before {
      history = with_entry history 0 c reply;
      entries = before.entries - 1;
      pages = before.pages - pages_used c;
    } in
    (replied, h.entered ∙ ap (λ history. made history r) seen ∙ ap (made before.history) replied)

-- ---- the first refusal

-- where two functions agree at each number of a range, they make one list of it
pub map-range-same : {A : Type 0} (f g : ℕ → A) (from count : ℕ) → ((i : ℕ) → i < from + count → f i ≡ g i) → map f (range_with_len from count) ≡ map g (range_with_len from count)
map-range-same f g from zero same = refl
map-range-same f g from (suc count) same =
    let here : f from ≡ g from = same from (omega arith) in
    let rest : map f (range_with_len (from + 1) count) ≡ map g (range_with_len (from + 1) count) = map-range-same f g (from + 1) count (λ i below. same i (omega arith)) in
    cc

-- the refusal of room depends on the banks of the zone alone
pub zone-refusal-same : (zone : ℕ) (known other : ℕ → Known) (entries pages : ℕ) → ((bank : ℕ) → bank < banks → known bank ≡ other bank) → zone_refusal zone known entries pages ≡ zone_refusal zone other entries pages
zone-refusal-same zone known other entries pages same =
    ap first_due (map-range-same (λ bank. room_refusal (book_of zone bank (known bank)) entries pages) (λ bank. room_refusal (book_of zone bank (other bank)) entries pages) 0 banks (λ bank below. ap (λ k. room_refusal (book_of zone bank k) entries pages) (same bank below)))

due-none : (f : ℕ → Option Refusal) (from count : ℕ) → ((i : ℕ) → i < from + count → f i ≡ None) → first_due (map f (range_with_len from count)) ≡ None
due-none f from zero none = refl
due-none f from (suc count) none =
    rw (none from (omega arith)) (due-none f (from + 1) count (λ i below. none i (omega arith)))

-- no refusal is due where none is in any place
pub first-due-none : (f : ℕ → Option Refusal) (count : ℕ) → ((i : ℕ) → i < count → f i ≡ None) → first_due (map f (range_with_len 0 count)) ≡ None
first-due-none f count none = due-none f 0 count (λ i below. none i (omega arith))

due-at : (f : ℕ → Option Refusal) (from more count : ℕ) (why : Refusal) → more < count → ((i : ℕ) → i < from + more → f i ≡ None) → f (from + more) ≡ Some why → first_due (map f (range_with_len from count)) ≡ Some why
due-at f from more zero why h none due = absurd (omega arith)
due-at f from zero (suc count) why h none due =
    let here : f from ≡ Some why = ap f (let e : from ≡ from + 0 = omega arith in e) ∙ due in
    rw here refl
due-at f from (suc more) (suc count) why h none due =
    let next : f ((from + 1) + more) ≡ Some why = ap f (let e : (from + 1) + more ≡ from + suc more = omega arith in e) ∙ due in
    rw (none from (omega arith)) (due-at f (from + 1) more count why (omega arith) (λ i below. none i (omega arith)) next)

-- the first refusal that is due is that of the lowest place where one is
pub first-due-at : (f : ℕ → Option Refusal) (at count : ℕ) (why : Refusal) → at < count → ((i : ℕ) → i < at → f i ≡ None) → f at ≡ Some why → first_due (map f (range_with_len 0 count)) ≡ Some why
first-due-at f at count why h none due =
    let here : f (0 + at) ≡ Some why = ap f (let e : 0 + at ≡ at = omega arith in e) ∙ due in
    due-at f 0 at count why h (λ i below. none i (omega arith)) here

-- ---- room

-- The answer is determined by what the owner knows, and so is what is left.
pub makes-room-none : {A : Type 0} (before after : ℕ → Known) (zone entries pages : ℕ) (done : A) (answer : Result A Refusal)
    → MakesRoom [] before after zone entries pages done answer
    → (answer ≡ refused_or (zone_refusal zone before entries pages) done) × ((bank : ℕ) → bank < banks → after bank ≡ with_room (before bank) entries pages answer)
makes-room-none before after zone entries pages done answer h =
    let seen : (bank : ℕ) → bank < banks → h.at bank ≡ (before bank).history = λ bank below. goes-on-none (before bank).history (h.at bank) (h.seen bank below) in
    let stays : (bank : ℕ) → bank < banks → (after bank).history ≡ (before bank).history = λ bank below. goes-on-none (h.at bank) (after bank).history (h.later bank below) ∙ seen bank below in (
      h.answered ∙ ap (λ why. refused_or why done) (zone-refusal-same zone (λ bank. record (before bank) { history = h.at bank }) before entries pages (λ bank below. ap (λ history. record (before bank) { history = history }) (seen bank below))),
      λ bank below. h.reserved bank below ∙ ap (λ history. with_room (record (before bank) { history = history }) entries pages answer) (stays bank below),
    )

-- ---- a thaw

thaw-decides : (history : List BankEntry) (r : BankReply) → latest (λ e. says_frozen e.call) (with_entry history 0 call.Thaw r) ≡ Some false
thaw-decides [] r = refl
thaw-decides (e ∷ history) r = ap (later (says_frozen e.call)) (thaw-decides history r)

-- behind its Thaw a bank is not frozen
pub thawed-by-thaw : (history : List BankEntry) (r : BankReply) → is_frozen (with_entry history 0 call.Thaw r) ≡ false
thawed-by-thaw history r = rw (thaw-decides history r) refl
