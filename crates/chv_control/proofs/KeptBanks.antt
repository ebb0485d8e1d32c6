-- A further entry, with the calls that it makes in the banks, keeps what the type of the control value keeps of them.
use Rattle.std.proofs.Common.{◌≡◌, ◌≤◌, ◌<◌, ℕ, Bool, true, false, List, [], ◌∷◌, ◌++◌, length, Option, None, Some, refl, sym, ap, subst, ◌∙◌, arith}
use Rattle.std.specs.Prelude.{◌&&◌, is_some, slice_get}
use Rattle.std.proofs.Math.Path.{fun_ext}
use Rattle.std.proofs.lemmas.List.{append-nil}
use Rattle.std.proofs.lemmas.Bool.Decides.{nat_tests}
use Rattle.std.proofs.lemmas.Option.{slice_get-get_or}
use Rattle.chv_defs_api.specs.declared.config.Checked.{Checked}
use Rattle.chv_defs_api.specs.declared.config.ZoneConfig.{ZoneConfig}
use Rattle.chv_defs_api.specs.declared.shelf.OnShelf.{OnShelf}
use Rattle.chv_defs_api.specs.declared.control.ControlCall.{ControlCall}
use Rattle.chv_defs_api.specs.declared.control.ControlCall.TheVariants as call
use Rattle.chv_defs_api.specs.declared.control.ControlReply.{ControlReply}
use Rattle.chv_defs_api.specs.declared.control.ControlReply.TheVariants as reply
use Rattle.chv_defs_api.specs.declared.control.ControlEntry.{ControlEntry}
use Rattle.chv_defs_memory.specs.declared.bank.BankCall.{BankCall}
use Rattle.chv_defs_memory.specs.MadeCalls.{owned, wanted_refusal, AreMade, IsAtRest}
use Rattle.chv_defs_memory.specs.Zones.{most_zones, Known}
use Rattle.chv_defs_memory.proofs.ZoneLaws.{first-due-none, sees-none}
use Rattle.chv_defs_control.specs.declared.machine.Machine.{Machine}
use Rattle.chv_defs_control.specs.ApiStep.{after, is_paused, reply_to}
use Rattle.chv_defs_control.specs.LegalControl.{IsLegal}
use Rattle.chv_defs_control.specs.Machine.{HasChecked, empty_machine}
use Rattle.chv_defs_control.specs.OwnerCalls.{calls_where, owner_calls, room_refusal_for, zones_in, zones_of, HaveTheCalls, IsLeft}
use Rattle.chv_defs_control.proofs.CallsFor.{calls_for-push}
use Rattle.chv_addr.specs.AddressMap.{is_within_limits}
use Rattle.chv_addr.proofs.Limits.{checked-within}
use Rattle.chv_ctl_mem.specs.ZoneCalls.{AreAsBefore, AreAtRest}
use Rattle.chv_control.specs.Rest.{AreKept, IsQuiet}
use Rattle.chv_defs_memory.proofs.MadeLaws.{made-none, owned-with_calls}
use Rattle.chv_control.proofs.QuietSteps.{quiet-after}

-- ---- the link

-- the owner's calls in a bank, behind those that were made
left-owned : (zone : Option ZoneConfig) (bank : ℕ) (old new : Known) (calls : List BankCall) → (zone ≡ None → calls ≡ []) → IsLeft zone [] bank old calls new → owned new.history ≡ owned old.history ++ calls
left-owned None bank old new calls none left =
    ap (λ (known : Known). owned known.history) (sees-none old new left)
    ∙ sym (append-nil (owned old.history))
    ∙ ap (λ (cs : List BankCall). owned old.history ++ cs) (sym (none refl))
left-owned (Some config) bank old new calls none left =
    ap owned (made-none bank old.history calls new.history left.0) ∙ owned-with_calls bank old.history calls

-- ---- further entries

-- the banks behind a further entry
pub AreKept-after : (shelf : List OnShelf) (m : Machine) (history : List ControlEntry) (entry : ControlEntry) (lent left : List ℕ) (old new : ℕ → ℕ → Known) → AreKept m history lent old → IsLegal shelf history m
    → entry.reply ≡ reply_to shelf m entry.call → HaveTheCalls [] m entry.call entry.reply old new → left ≡ [] → AreKept (after m entry.caller entry.call entry.reply) (history ++ entry ∷ []) left new
AreKept-after shelf m history entry lent left old new kept legal replied called home =
    let calls : ℕ → ℕ → List BankCall = owner_calls m entry.call entry.reply in
    let none : (zone bank : ℕ) → slice_get (zones_of m) zone ≡ None → calls zone bank ≡ [] = λ zone bank e. ap (λ (o : Option ZoneConfig). calls_where o m zone bank entry.call entry.reply) e in
    record {
      linked = λ zone bank is.
          left-owned (slice_get (zones_of m) zone) bank (old zone bank) (new zone bank) (calls zone bank) (none zone bank) (called zone bank is)
          ∙ ap (λ (cs : List BankCall). cs ++ calls zone bank) (kept.linked zone bank is)
          ∙ sym (calls_for-push shelf empty_machine m history entry zone bank legal);
      home = home;
      quiet = λ zone bank is. quiet-after shelf m entry.caller entry.call entry.reply zone bank (old zone bank) (new zone bank) replied (kept.quiet zone bank is) (called zone bank is);
    }

-- banks that are as before
pub AreKept-same : (m : Machine) (history : List ControlEntry) (lent left : List ℕ) (old new : ℕ → ℕ → Known) → AreKept m history lent old → AreAsBefore old new → left ≡ [] → AreKept m history left new
AreKept-same m history lent left old new kept same home = record {
  linked = λ zone bank is. ap (λ (known : Known). owned known.history) (same zone bank is) ∙ kept.linked zone bank is;
  home = home;
  quiet = λ zone bank is. subst (IsQuiet m zone bank) (sym (same zone bank is)) (kept.quiet zone bank is);
}

-- ---- what the calls in the banks ask for

few-zones : (m : Machine) → HasChecked m.config → length (zones_of m) ≤ most_zones
few-zones m checked = by m.config checked
  where
    few : (zones : List ZoneConfig) → is_within_limits zones ≡ true → length zones ≤ 8
    few zones within = grind (arith, nat_tests)

    by : (config : Option Checked) → HasChecked config → length (zones_in config) ≤ most_zones
    by None h = omega arith
    by (Some now) h = few now.zones (checked-within now h)

-- the banks of the zones in effect are at rest, and frozen where the machine is paused
pub are-at-rest : (m : Machine) (history : List ControlEntry) (lent : List ℕ) (known : ℕ → ℕ → Known) → AreKept m history lent known → HasChecked m.config → AreAtRest (is_paused m.life) m known
are-at-rest m history lent known kept checked z b below bank =
    let quiet : IsQuiet m z b (known z b) = kept.quiet z b (let few = few-zones m checked in omega arith, bank) in
    record { rest = quiet.rest; frozen_so = quiet.frozen ∙ in-effect (is_paused m.life) (zones_of m) z below }
  where
    and-true : (paused : Bool) → (paused && true) ≡ paused
    and-true true = refl
    and-true false = refl

    in-effect : (paused : Bool) (zones : List ZoneConfig) (zone : ℕ) → zone < length zones → (paused && is_some (slice_get zones zone)) ≡ paused
    in-effect paused [] zone h = absurd (omega arith)
    in-effect paused (config ∷ zones) zone h = ap (λ (o : Option ZoneConfig). paused && is_some o) (slice_get-get_or (config ∷ zones) zone config h) ∙ and-true paused

-- ---- calls that make none in a bank

-- a call that makes none of the owner's wants no room
pub no-room-wanted : (m : Machine) (c : ControlCall) (r : ControlReply) (known : ℕ → ℕ → Known) → ((zone bank : ℕ) → owner_calls m c r zone bank ≡ []) → room_refusal_for m c r known ≡ None
no-room-wanted m c r known none =
    let none_in : (zone : ℕ) → wanted_refusal zone (known zone) (owner_calls m c r zone) ≡ None = λ zone.
    ap (λ (calls : ℕ → List BankCall). wanted_refusal zone (known zone) calls) (fun_ext (λ bank. none zone bank)) in
    first-due-none (λ zone. wanted_refusal zone (known zone) (owner_calls m c r zone)) most_zones (λ zone below. none_in zone)

-- a Stop makes none
pub none-at-stop : (m : Machine) (zone bank : ℕ) → owner_calls m call.Stop reply.Done zone bank ≡ []
none-at-stop m zone bank = by (slice_get (zones_of m) zone)
  where
    by : (o : Option ZoneConfig) → calls_where o m zone bank call.Stop reply.Done ≡ []
    by None = refl
    by (Some config) = refl

-- and leaves the banks as they are
pub called-at-stop : (m : Machine) (history : List ControlEntry) (lent : List ℕ) (known : ℕ → ℕ → Known) → AreKept m history lent known → HaveTheCalls [] m call.Stop reply.Done known known
called-at-stop m history lent known kept zone bank is =
    by (slice_get (zones_of m) zone) (known zone bank) (owner_calls m call.Stop reply.Done zone bank) (kept.quiet zone bank is).rest (none-at-stop m zone bank)
  where
    by : (o : Option ZoneConfig) (k : Known) (calls : List BankCall) → IsAtRest k → calls ≡ [] → IsLeft o [] bank k calls k
    by None k calls rest none = (([], refl, sym (append-nil k.history)), refl)
    by (Some config) k calls rest none =
        (subst (λ (cs : List BankCall). AreMade [] bank k.history cs k.history) (sym none) ([], refl, sym (append-nil k.history)), rest)

-- the banks behind a Stop
pub AreKept-stop : (shelf : List OnShelf) (m : Machine) (caller : ℕ) (history : List ControlEntry) (lent : List ℕ) (known : ℕ → ℕ → Known) → AreKept m history lent known → IsLegal shelf history m
    → AreKept (record m { stopped = true }) (history ++ record { caller = caller; call = call.Stop; reply = reply.Done } ∷ []) lent known
AreKept-stop shelf m caller history lent known kept legal =
    AreKept-after shelf m history (record { caller = caller; call = call.Stop; reply = reply.Done }) lent lent known known kept legal refl (called-at-stop m history lent known kept) kept.home
