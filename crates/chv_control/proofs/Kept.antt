-- A further entry keeps what the type of the control value keeps.
use Rattle.std.proofs.Common.{◌≡◌, ◌≤◌, ◌+◌, ℕ, Bool, true, false, List, [], ◌∷◌, ◌++◌, if◌then◌else◌, nat_lt, length, None, Some, refl, sym, subst, ◌∙◌, ap, arith, length-append}
use Rattle.std.proofs.lemmas.Bool.{or_parts}
use Rattle.std.proofs.lemmas.Bool.Decides.{nat_tests}
use Rattle.chv_defs_base.specs.declared.book.BookId.TheVariants.{Control}
use Rattle.chv_defs_api.specs.declared.control.Goal.TheVariants.{Shutdown, Delete}
use Rattle.std.proofs.lemmas.List.Sums.{sum_by_push}
use Rattle.chv_defs_control.specs.declared.machine.Machine.{Machine}
use Rattle.chv_defs_base.specs.declared.book.Full.{Full}
use Rattle.chv_defs_api.specs.declared.shelf.OnShelf.{OnShelf}
use Rattle.chv_defs_api.specs.declared.control.ControlCall.{ControlCall}
use Rattle.chv_defs_api.specs.declared.control.ControlCall.TheVariants as call
use Rattle.chv_defs_api.specs.declared.control.ControlReply.{ControlReply}
use Rattle.chv_defs_api.specs.declared.control.ControlReply.TheVariants as reply
use Rattle.chv_defs_api.specs.declared.control.ControlEntry.{ControlEntry}
use Rattle.chv_defs_base.specs.Sizes.{most_entries, most_payload}
use Rattle.chv_defs_control.specs.Machine.{IsWellFormed, empty_machine}
use Rattle.chv_defs_control.specs.ApiStep.{after, reply_to}
use Rattle.chv_defs_control.specs.ControlBook.{entry_payload, full_at, is_stop, passes_limit, payload, places}
use Rattle.chv_defs_control.specs.ControlStep.{Step}
use Rattle.chv_defs_control.proofs.Leads.{Leads-push}
use Rattle.chv_ctl_api.proofs.Kept.{IsWellFormed-after}
use Rattle.chv_control.specs.Control.{IsKept}

at_most : (a b : ℕ) → nat_lt a b ≡ false → b ≤ a
at_most a b e = grind (arith, nat_tests)

pub not-stop : (c : ControlCall) → (c ≡ call.Stop → ⊥) → is_stop c ≡ false
not-stop call.Stop other = absurd (other refl)
not-stop c other = refl

-- a call that is no Stop leaves whether one was entered
stopped_after : (m : Machine) (caller : ℕ) (c : ControlCall) (r : ControlReply) → is_stop c ≡ false → (after m caller c r).stopped ≡ m.stopped
stopped_after m caller call.Stop r other = cc
stopped_after m caller (call.Create config) reply.Done other = refl
stopped_after m caller call.Boot reply.Done other = refl
stopped_after m caller (call.Begin Shutdown) reply.Done other = refl
stopped_after m caller (call.Begin Delete) reply.Done other = refl
stopped_after m caller (call.AddDisk disk) reply.Done other = refl
stopped_after m caller (call.Remove id) reply.Done other = refl
stopped_after m caller call.Bye reply.Done other = refl
stopped_after m caller c r other = refl

picked : (s p : Bool) (full : Full) → s ≡ false → (if s then None else (if p then Some full else None)) ≡ None → p ≡ false
picked true p full other none = cc
picked false true full other none = cc
picked false false full other none = refl

-- an entry that is entered passes no limit
none_passed : (m : Machine) (history : List ControlEntry) (entry : ControlEntry) → is_stop entry.call ≡ false → full_at m history entry ≡ None → passes_limit m history entry ≡ false
none_passed m history entry other none = picked (is_stop entry.call) (passes_limit m history entry) (record { book = Control; entries = places m history; bytes = payload history }) other none

-- the payload with an entry that is entered is within the limit
pub payload-within : (m : Machine) (history : List ControlEntry) (entry : ControlEntry) → is_stop entry.call ≡ false → full_at m history entry ≡ None → payload history + entry_payload entry ≤ most_payload
payload-within m history entry other none =
    at_most most_payload (payload history + entry_payload entry) (or_parts (nat_lt most_entries (places m history + 1)) (nat_lt most_payload (payload history + entry_payload entry)) (none_passed m history entry other none)).1

-- one more entry, where whether a Stop was entered stays
places_more : (n : ℕ) (history : List ControlEntry) (entry : ControlEntry) (s t : Bool) → t ≡ s → length history + (if s then 0 else 1) + 1 ≤ n → length (history ++ entry ∷ []) + (if t then 0 else 1) ≤ n
places_more n history entry s t same fits = subst (λ b. length (history ++ entry ∷ []) + (if b then 0 else 1) ≤ n) (sym same) (rw (length-append history (entry ∷ [])) (omega (arith, fits)))

-- the value after a call that is no Stop
pub IsKept-after : (shelf : List OnShelf) (m new : Machine) (history : List ControlEntry) (entry : ControlEntry) → IsKept shelf m history → Step shelf m entry new → is_stop entry.call ≡ false → full_at m history entry ≡ None → IsKept shelf new (history ++ entry ∷ [])
IsKept-after shelf m new history entry kept step other none =
    let within = or_parts (nat_lt most_entries (places m history + 1)) (nat_lt most_payload (payload history + entry_payload entry)) (none_passed m history entry other none) in
    let left : new ≡ after m entry.caller entry.call (reply_to shelf m entry.call) = step.left ∙ ap (after m entry.caller entry.call) step.replied in
    let same : new.stopped ≡ m.stopped = ap (λ (x : Machine). x.stopped) step.left ∙ stopped_after m entry.caller entry.call entry.reply other in
    record {
      legal = Leads-push shelf empty_machine m new history entry kept.legal step;
      formed = subst (λ (x : Machine). IsWellFormed x) (sym left) (IsWellFormed-after shelf m entry.caller entry.call kept.formed step.may);
      entries = places_more most_entries history entry m.stopped new.stopped same (at_most most_entries (places m history + 1) within.0);
      bytes = subst (λ (n : ℕ). n ≤ most_payload) (sym (sum_by_push entry_payload history entry)) (at_most most_payload (payload history + entry_payload entry) within.1);
    }

-- the payload stays at a Stop
pub payload-stop : (caller : ℕ) (history : List ControlEntry) → payload (history ++ record { caller = caller; call = call.Stop; reply = reply.Done } ∷ []) ≡ payload history
payload-stop caller history = sum_by_push entry_payload history (record { caller = caller; call = call.Stop; reply = reply.Done }) ∙ plus_nothing (payload history)
  where
    plus_nothing : (n : ℕ) → n + 0 ≡ n
    plus_nothing n = omega arith

-- the value after a Stop
pub IsKept-stop : (shelf : List OnShelf) (m : Machine) (caller : ℕ) (history : List ControlEntry) → IsKept shelf m history → m.stopped ≡ false → IsKept shelf (record m { stopped = true }) (history ++ record { caller = caller; call = call.Stop; reply = reply.Done } ∷ [])
IsKept-stop shelf m caller history kept none =
    let entry : ControlEntry = record { caller = caller; call = call.Stop; reply = reply.Done } in
    let fits : length history + 1 ≤ most_entries = subst (λ b. length history + (if b then 0 else 1) ≤ most_entries) none kept.entries in
    record {
      legal = Leads-push shelf empty_machine m (record m { stopped = true }) history entry kept.legal (record { may = none; replied = refl; left = refl });
      formed = record { life_and_config = kept.formed.life_and_config; unpaused = kept.formed.unpaused; bare = kept.formed.bare; checked = kept.formed.checked; sessions = kept.formed.sessions };
      entries = rw (length-append history (entry ∷ [])) (omega (arith, fits));
      bytes = subst (λ (n : ℕ). n ≤ most_payload) (sym (payload-stop caller history)) kept.bytes;
    }
