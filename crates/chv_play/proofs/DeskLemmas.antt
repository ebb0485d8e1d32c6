-- What calls that were asked at the desk left there: some were entered, one after another, and nothing else changed.
use Rattle.std.proofs.Common.{◌≡◌, ◌≢◌, inl, inr, ℕ, ◌==◌, cond, Bool, true, false, List, [], ◌∷◌, ◌++◌, map, Option, None, Some, refl, sym, ap, subst, ◌∙◌, arith, append_assoc}
use Rattle.std.proofs.lemmas.List.{append-nil, map-append}
use Rattle.std.proofs.lemmas.List.Elements.{filter-append}
use Rattle.std.proofs.lemmas.Bool.Decides.{nat_tests}
use Rattle.chv_defs_base.specs.declared.rule.Rule.{Rule}
use Rattle.chv_defs_control.specs.declared.machine.Machine.{Machine}
use Rattle.chv_defs_api.specs.declared.shelf.OnShelf.{OnShelf}
use Rattle.chv_defs_api.specs.declared.control.ControlCall.{ControlCall}
use Rattle.chv_defs_api.specs.declared.control.ControlCall.TheVariants as call
use Rattle.chv_defs_api.specs.declared.control.ControlReply.{ControlReply}
use Rattle.chv_defs_api.specs.declared.control.ControlEntry.{ControlEntry}
use Rattle.chv_defs_control.specs.ApiStep.{reply_to, refusal_of, refused_or, success_of}
use Rattle.chv_defs_api.specs.Desks.{Answer, AreAsked, IsOnlyAsked, is_holding}
use Rattle.chv_defs_control.specs.LegalControl.{answers_by, entries_by}
use Rattle.chv_store.specs.declared.any_disk.AnyDisk.{AnyDisk}
use Rattle.chv_control.specs.Shelf.{shelf_of}
use Rattle.chv_play.specs.declared.desk.PlayDesk.{PlayDesk}
use Rattle.chv_play.specs.declared.desk.Refused.{Refused}
use Rattle.chv_play.specs.Desk.{entry_at, full_for, IsAskedOf}
use Rattle.chv_play.specs.Banks.{PlayedControl, entered_with_banks}

-- ---- a caller's calls, behind one more entry

-- the calls of entries
abbrev answers_in : List ControlEntry → List Answer
answers_in entries = map (λ (e : ControlEntry). record { call = e.call; reply = e.reply }) entries

one_more : (caller : ℕ) (history : List ControlEntry) (e : ControlEntry)
    → answers_by caller (history ++ e ∷ []) ≡ answers_by caller history ++ answers_by caller (e ∷ [])
one_more caller history e =
    ap answers_in (filter-append (λ (e : ControlEntry). e.caller == caller) history (e ∷ []))
    ∙ map-append {B = Answer} (λ (e : ControlEntry). record { call = e.call; reply = e.reply }) (entries_by caller history) (entries_by caller (e ∷ []))

pub own_entry : (caller : ℕ) (history : List ControlEntry) (c : ControlCall) (r : ControlReply)
    → answers_by caller (history ++ record { caller = caller; call = c; reply = r } ∷ [])
    ≡ answers_by caller history ++ record { call = c; reply = r } ∷ []
own_entry caller history c r =
    one_more caller history (record { caller = caller; call = c; reply = r })
    ∙ ap (λ (calls : List Answer). answers_by caller history ++ calls) (taken (caller == caller) (grind (arith, nat_tests)))
  where
    taken : (b : Bool) → b ≡ true
        → answers_in (cond b (record { caller = caller; call = c; reply = r } ∷ []) []) ≡ record { call = c; reply = r } ∷ []
    taken true is = refl
    taken false is = absurd (cc is)

pub other_entry : (caller other : ℕ) (history : List ControlEntry) (c : ControlCall) (r : ControlReply) → other ≢ caller
    → answers_by other (history ++ record { caller = caller; call = c; reply = r } ∷ []) ≡ answers_by other history
other_entry caller other history c r differs =
    one_more other history (record { caller = caller; call = c; reply = r })
    ∙ ap (λ (calls : List Answer). answers_by other history ++ calls) (left (caller == other) (grind (arith, nat_tests, differs)))
    ∙ append-nil (answers_by other history)
  where
    left : (b : Bool) → b ≡ false → answers_in (cond b (record { caller = caller; call = c; reply = r } ∷ []) []) ≡ []
    left true is = absurd (cc is)
    left false is = refl

-- ---- calls that were entered

-- These calls of a caller were entered one after another, each in a book that had room, with its answer by the rules.
abbrev pub Enters : {D : Type 0} → List OnShelf → ℕ → PlayedControl D → List Answer → PlayedControl D → Type 0
Enters shelf caller old [] new = new ≡ old
Enters shelf caller old (a ∷ made) new =
    (full_for shelf old caller a.call ≡ None) × (a.reply ≡ reply_to shelf old.machine a.call)
    × Enters shelf caller (entered_with_banks old (entry_at shelf old caller a.call)) made new

pub enters_stays : {D : Type 0} (shelf : List OnShelf) (caller : ℕ) (old : PlayedControl D) (made : List Answer) (new : PlayedControl D)
    → Enters shelf caller old made new → (new.disks ≡ old.disks) × (new.sessions ≡ old.sessions)
enters_stays {D} shelf caller old [] new same = (ap (λ (c : PlayedControl D). c.disks) same, ap (λ (c : PlayedControl D). c.sessions) same)
enters_stays {D} shelf caller old (a ∷ made) new enters =
    enters_stays shelf caller (entered_with_banks old (entry_at shelf old caller a.call)) made new enters.2

pub enters_no_other : {D : Type 0} (shelf : List OnShelf) (caller other : ℕ) (old : PlayedControl D) (made : List Answer) (new : PlayedControl D)
    → other ≢ caller → Enters shelf caller old made new → answers_by other new.history ≡ answers_by other old.history
enters_no_other {D} shelf caller other old [] new differs same = ap (λ (c : PlayedControl D). answers_by other c.history) same
enters_no_other {D} shelf caller other old (a ∷ made) new differs enters =
    enters_no_other shelf caller other (entered_with_banks old (entry_at shelf old caller a.call)) made new differs enters.2
    ∙ other_entry caller other old.history a.call (reply_to shelf old.machine a.call) differs

-- no answer is Holding so far
not_holding : (m : Machine) (refusal : Option Rule) (c : ControlCall) → is_holding (refused_or refusal (success_of m c)) ≡ false
not_holding m (Some rule) c = refl
not_holding m None call.Info = refl
not_holding m None call.Counters = refl
not_holding m None c = refl

pub never_holding : (shelf : List OnShelf) (m : Machine) (c : ControlCall) (r : ControlReply) → r ≡ reply_to shelf m c → is_holding r ≡ false
never_holding shelf m c r is = ap is_holding is ∙ not_holding m (refusal_of shelf m c) c

-- ---- calls that were asked

-- the book is full for the call that a desk tells, where it tells one
abbrev pub TellsFull : {D : Type 0} → List OnShelf → ℕ → PlayedControl D → Option Refused → Type 0
TellsFull shelf caller control None = Unit {0}
TellsFull shelf caller control (Some refused) = full_for shelf control caller refused.call ≡ Some refused.full

-- What calls left that were asked: those that were entered; and where none was, a desk that tells of a full book tells so
-- rightly.
pub record CallsLeave {D : Type 0} (shelf : List OnShelf) (before after : PlayDesk D) : Type 0 where
  pub made : List Answer
  pub enters : Enters shelf before.caller before.control made after.control
  pub answers : answers_by before.caller after.control.history ≡ answers_by before.caller before.control.history ++ made
  pub tells : made ≡ [] → TellsFull shelf before.caller before.control before.refused
      → TellsFull shelf before.caller before.control after.refused

-- one more call before them
first_call : {D : Type 0} (shelf : List OnShelf) (before between after : PlayDesk D) (c : ControlCall) → IsAskedOf shelf before c between
    → CallsLeave shelf between after → CallsLeave shelf before after
first_call {D} shelf before between after c (inl entry) leaves =
    let more = subst (λ (d : PlayDesk D). CallsLeave shelf d after) entry.enters leaves in
    let a : Answer = record { call = c; reply = reply_to shelf before.control.machine c } in
    record {
      made = a ∷ more.made;
      enters = (entry.room, refl, more.enters);
      answers = more.answers
          ∙ ap (λ (calls : List Answer). calls ++ more.made) (own_entry before.caller before.control.history c (reply_to shelf before.control.machine c))
          ∙ append_assoc (answers_by before.caller before.control.history) (a ∷ []) more.made;
      tells = λ none. absurd (cc none);
    }
first_call {D} shelf before between after c (inr (inl full)) leaves =
    let more = subst (λ (d : PlayDesk D). CallsLeave shelf d after) full.keeps leaves in
    record { made = more.made; enters = more.enters; answers = more.answers; tells = λ none tells. more.tells none full.no_room }
first_call {D} shelf before between after c (inr (inr same)) leaves = subst (λ (d : PlayDesk D). CallsLeave shelf d after) same leaves

disks_stay : {D : Type 0} (shelf : List OnShelf) (before between : PlayDesk D) (c : ControlCall) → IsAskedOf shelf before c between
    → between.control.disks ≡ before.control.disks
disks_stay {D} shelf before between c (inl entry) = ap (λ (d : PlayDesk D). d.control.disks) entry.enters
disks_stay {D} shelf before between c (inr (inl full)) = ap (λ (d : PlayDesk D). d.control.disks) full.keeps
disks_stay {D} shelf before between c (inr (inr same)) = ap (λ (d : PlayDesk D). d.control.disks) same

-- what asking means at a desk whose disks `count` counts
abbrev pub asks_at : {D : Type 0} → (AnyDisk D → ℕ) → PlayDesk D → ControlCall → PlayDesk D → Type 0
asks_at count before c after = IsAskedOf (shelf_of count before.control.disks) before c after

calls_leave : {D : Type 0} (count : AnyDisk D → ℕ) (shelf : List OnShelf) (before after : PlayDesk D) (calls : List ControlCall)
    → shelf_of count before.control.disks ≡ shelf → AreAsked (asks_at count) before calls after → CallsLeave shelf before after
calls_leave {D} count shelf before after [] is same = subst (λ (d : PlayDesk D). CallsLeave shelf before d) (sym same) (record {
  made = [];
  enters = refl;
  answers = sym (append-nil (answers_by before.caller before.control.history));
  tells = λ none tells. tells;
})
calls_leave {D} count shelf before after (c ∷ calls) is (between, asked, more) =
    let step = subst (λ (s : List OnShelf). IsAskedOf s before c between) is asked in
    first_call shelf before between after c step
    (calls_leave count shelf between after calls (ap (shelf_of count) (disks_stay shelf before between c step) ∙ is) more)

pub asked_leaves : {D : Type 0} (count : AnyDisk D → ℕ) (before after : PlayDesk D) → IsOnlyAsked (asks_at count) before after
    → CallsLeave (shelf_of count before.control.disks) before after
asked_leaves {D} count before after (calls, asked) = calls_leave count (shelf_of count before.control.disks) before after calls refl asked
