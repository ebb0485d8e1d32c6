-- Which blocks are open at the end of whole histories. The owner's calls of a legal bank decide it, and these are those of a bank
-- in which they were made one after another, which is as it is between control turns.
use Rattle.std.proofs.Common.{◌≡◌, ℕ, suc, ◌==◌, Bool, true, false, List, [], ◌∷◌, ◌++◌, Option, None, Some, refl, sym, ◌∙◌, ap, subst}
use Rattle.std.specs.Prelude.{if◌then◌else◌, filter, map, slice_get, unwrap_or}
use Rattle.std.specs.List.{AllByRecursion}
use Rattle.std.proofs.lemmas.List.{append-nil}
use Rattle.chv_defs_api.specs.declared.config.ZoneConfig.{ZoneConfig}
use Rattle.chv_defs_api.specs.declared.shelf.OnShelf.{OnShelf}
use Rattle.chv_defs_api.specs.declared.control.ControlCall.{ControlCall}
use Rattle.chv_defs_api.specs.declared.control.ControlCall.TheVariants as control
use Rattle.chv_defs_api.specs.declared.control.ControlEntry.{ControlEntry}
use Rattle.chv_defs_api.specs.declared.control.ControlReply.{ControlReply}
use Rattle.chv_defs_api.specs.declared.control.ControlReply.TheVariants as answer
use Rattle.chv_defs_api.specs.declared.control.Goal.TheVariants.{Shutdown, Delete}
use Rattle.chv_defs_control.specs.declared.machine.Machine.{Machine}
use Rattle.chv_defs_control.specs.ApiStep.{after, is_paused}
use Rattle.chv_defs_control.specs.LegalControl.{Leads}
use Rattle.chv_defs_control.specs.Machine.{empty_machine}
use Rattle.chv_defs_control.specs.OwnerCalls.{calls_for, calls_in, calls_where, owner_calls, zones_of, IsLeft}
use Rattle.chv_defs_memory.specs.declared.bank.BankCall.{BankCall}
use Rattle.chv_defs_memory.specs.declared.bank.BankCall.TheVariants as call
use Rattle.chv_defs_memory.specs.declared.bank.BankReply.{BankReply}
use Rattle.chv_defs_memory.specs.declared.bank.BankReply.TheVariants as bank_reply
use Rattle.chv_defs_memory.specs.declared.bank.BankEntry.{BankEntry}
use Rattle.chv_defs_memory.specs.BankBook.{owner_reply, with_entry}
use Rattle.chv_defs_memory.specs.BankState.{is_open, is_owner_call, later, latest, says_open}
use Rattle.chv_defs_memory.specs.MadeCalls.{at_rest, owned, with_calls, AreMade}
use Rattle.chv_defs_memory.proofs.MadeLaws.{owned-with_calls}
use Rattle.chv_control.specs.OpenBlocks.{OpenAreTheBootBlocks}
use Rattle.chv_control.specs.Rest.{IsQuiet}
use Rattle.chv_control.proofs.QuietSteps.{quiet-after}

-- what holds of two lists holds of both, one behind the other
all-append : {X : Type 0} (P : X → Type 0) (xs ys : List X) → AllByRecursion P xs → AllByRecursion P ys → AllByRecursion P (xs ++ ys)
all-append P [] ys front back = back
all-append P (x ∷ xs) ys front back = (front.0, all-append P xs ys front.1 back)

-- ---- what the owner's calls say of a block

-- the calls that a control history asks for so far
abbrev IsPlain : BankCall → Type 0
IsPlain (call.Shape n) = Unit {0}
IsPlain call.Wipe = Unit {0}
IsPlain call.Thaw = Unit {0}
IsPlain _ = ⊥

abbrev ArePlain : List BankCall → Type 0
ArePlain calls = AllByRecursion IsPlain calls

-- an entry is the owner's exactly where its call is one of the owner
abbrev IsOwners : BankEntry → Type 0
IsOwners e = is_owner_call e.call ≡ (e.caller == 0)

abbrev AreOwners : List BankEntry → Type 0
AreOwners history = AllByRecursion IsOwners history

-- what the latest of some calls says, whatever they were answered
abbrev said : ℕ → ℕ → BankReply → List BankCall → Option Bool
said bank block r [] = None
said bank block r (c ∷ calls) = later (says_open bank block c r) (said bank block r calls)

-- it does not matter what such a call was answered
any-reply : (bank block : ℕ) (c : BankCall) (r s : BankReply) → IsPlain c → says_open bank block c r ≡ says_open bank block c s
any-reply bank block (call.Shape n) r s plain = refl
any-reply bank block call.Wipe r s plain = refl
any-reply bank block call.Thaw r s plain = refl
any-reply bank block c r s plain = absurd (plain)

-- an access says nothing
silent : (bank block : ℕ) (c : BankCall) (r : BankReply) → is_owner_call c ≡ false → says_open bank block c r ≡ None
silent bank block (call.Read b offset len) r other = refl
silent bank block (call.Write b offset bytes) r other = refl
silent bank block (call.Pin number span) r other = refl
silent bank block (call.Unpin number) r other = refl
silent bank block c r other = absurd (cc other)

nothing-earlier : (o : Option Bool) → later None o ≡ o
nothing-earlier None = refl
nothing-earlier (Some x) = refl

-- one entry before others, the owner's or not
said-first : (bank block : ℕ) (own : Bool) (c : BankCall) (r s : BankReply) (calls : List BankCall) (rest : Option Bool)
    → is_owner_call c ≡ own → ArePlain (if own then c ∷ calls else calls) → (ArePlain calls → rest ≡ said bank block s calls)
    → later (says_open bank block c r) rest ≡ said bank block s (if own then c ∷ calls else calls)
said-first bank block true c r s calls rest owner plain so =
    ap (λ o. later o rest) (any-reply bank block c r s plain.0) ∙ ap (later (says_open bank block c s)) (so plain.1)
said-first bank block false c r s calls rest owner plain so =
    ap (λ o. later o rest) (silent bank block c r owner) ∙ nothing-earlier rest ∙ so plain

-- the owner's calls with one more entry before them
owned-first : (e : BankEntry) (es : List BankEntry) → owned (e ∷ es) ≡ (if e.caller == 0 then e.call ∷ owned es else owned es)
owned-first e es = by (e.caller == 0)
  where
    by : (own : Bool) → map (λ (x : BankEntry). x.call) (if own then e ∷ filter (λ (x : BankEntry). x.caller == 0) es else filter (λ (x : BankEntry). x.caller == 0) es)
        ≡ (if own then e.call ∷ owned es else owned es)
    by true = refl
    by false = refl

-- the owner's calls say which blocks are open
said-latest : (bank block : ℕ) (s : BankReply) (history : List BankEntry) → AreOwners history → ArePlain (owned history)
    → latest (λ e. says_open bank block e.call e.reply) history ≡ said bank block s (owned history)
said-latest bank block s [] owners plain = refl
said-latest bank block s (e ∷ es) owners plain =
    let is = owned-first e es in
    said-first bank block (e.caller == 0) e.call e.reply s (owned es) (latest (λ e. says_open bank block e.call e.reply) es)
    owners.0 (subst ArePlain is plain) (λ plain_rest. said-latest bank block s es owners.1 plain_rest)
    ∙ sym (ap (said bank block s) is)

-- so that they are the same where these calls are
open-same : (bank block : ℕ) (s : BankReply) (history other : List BankEntry) → AreOwners history → AreOwners other → ArePlain (owned other)
    → owned history ≡ owned other → is_open bank history block ≡ is_open bank other block
open-same bank block s history other owners owners_other plain same =
    ap (λ o. unwrap_or o false)
    (said-latest bank block s history owners (subst ArePlain (sym same) plain)
    ∙ ap (said bank block s) same ∙ sym (said-latest bank block s other owners_other plain))

-- in a legal history each entry is the owner's exactly where its call is one of the owner
owners-of : (history : List BankEntry) → ((i : ℕ) (e : BankEntry) → slice_get history i ≡ Some e → IsOwners e) → AreOwners history
owners-of [] each = tt
owners-of (e ∷ es) each = (each 0 e refl, owners-of es (λ i x at. each (suc i) x at))

-- ---- the calls of a control history, made one after another

plain-wiping : (paused : Bool) → ArePlain (if paused then call.Thaw ∷ call.Wipe ∷ [] else call.Wipe ∷ [])
plain-wiping true = (tt, (tt, tt))
plain-wiping false = (tt, tt)

plain-in : (m : Machine) (config : ZoneConfig) (zone bank : ℕ) (c : ControlCall) (r : ControlReply) → ArePlain (calls_in m config zone bank c r)
plain-in m config zone bank control.Boot answer.Done = (tt, tt)
plain-in m config zone bank (control.Begin Shutdown) answer.Done = plain-wiping (is_paused m.life)
plain-in m config zone bank (control.Begin Delete) answer.Done = plain-wiping (is_paused m.life)
plain-in m config zone bank c r = tt

plain-where : (there : Option ZoneConfig) (m : Machine) (zone bank : ℕ) (c : ControlCall) (r : ControlReply) → ArePlain (calls_where there m zone bank c r)
plain-where None m zone bank c r = tt
plain-where (Some config) m zone bank c r = plain-in m config zone bank c r

plain-for : (m : Machine) (history : List ControlEntry) (zone bank : ℕ) → ArePlain (calls_for m history zone bank)
plain-for m [] zone bank = tt
plain-for m (e ∷ history) zone bank =
    all-append IsPlain (owner_calls m e.call e.reply zone bank) (calls_for (after m e.caller e.call e.reply) history zone bank)
    (plain-where (slice_get (zones_of m) zone) m zone bank e.call e.reply) (plain-for (after m e.caller e.call e.reply) history zone bank)

-- such a call is one of the owner
plain-owner : (c : BankCall) → IsPlain c → is_owner_call c ≡ true
plain-owner (call.Shape n) plain = refl
plain-owner call.Wipe plain = refl
plain-owner call.Thaw plain = refl
plain-owner c plain = absurd (plain)

owners-made : (bank : ℕ) (before : List BankEntry) (calls : List BankCall) → AreOwners before → ArePlain calls → AreOwners (with_calls bank before calls)
owners-made bank before [] owners plain = owners
owners-made bank before (c ∷ calls) owners plain =
    let r : BankReply = owner_reply bank before c in
    owners-made bank (with_entry before 0 c r) calls
    (all-append IsOwners before (record { caller = 0; call = c; reply = r } ∷ []) owners (plain-owner c plain.0, tt)) plain.1

made-append : (bank : ℕ) (before : List BankEntry) (calls more : List BankCall)
    → with_calls bank before (calls ++ more) ≡ with_calls bank (with_calls bank before calls) more
made-append bank before [] more = refl
made-append bank before (c ∷ calls) more = made-append bank (with_entry before 0 c (owner_reply bank before c)) calls more

-- calls that are made one after another were made, with no access between them
made-so : (bank : ℕ) (before : List BankEntry) (calls : List BankCall) → AreMade [] bank before calls (with_calls bank before calls)
made-so bank before [] = ([], refl, sym (append-nil before))
made-so bank before (c ∷ calls) =
    let next : List BankEntry → List BankEntry = λ h. with_entry h 0 c (owner_reply bank h c) in
    ([], refl, subst (λ h. AreMade [] bank (next h) calls (with_calls bank (next before) calls)) (sym (append-nil before)) (made-so bank (next before) calls))

left-so : (there : Option ZoneConfig) (m : Machine) (zone bank : ℕ) (c : ControlCall) (r : ControlReply) (before : List BankEntry)
    → IsLeft there [] bank (at_rest before) (calls_where there m zone bank c r) (at_rest (with_calls bank before (calls_where there m zone bank c r)))
left-so None m zone bank c r before = (([], refl, sym (append-nil before)), refl)
left-so (Some config) m zone bank c r before = (made-so bank before (calls_in m config zone bank c r), refl)

-- behind them a bank is as it is between control turns
quiet-history : (shelf : List OnShelf) (m machine : Machine) (history : List ControlEntry) (zone bank : ℕ) (before : List BankEntry)
    → Leads shelf m history machine → IsQuiet m zone bank (at_rest before)
    → IsQuiet machine zone bank (at_rest (with_calls bank before (calls_for m history zone bank)))
quiet-history shelf m machine [] zone bank before leads quiet = subst (λ (x : Machine). IsQuiet x zone bank (at_rest before)) (sym leads) quiet
quiet-history shelf m machine (e ∷ history) zone bank before (middle, step, rest) quiet =
    let next : Machine = after m e.caller e.call e.reply in
    let here : List BankCall = owner_calls m e.call e.reply zone bank in
    let made : List BankEntry = with_calls bank before here in
    let quiet_next : IsQuiet next zone bank (at_rest made) =
    quiet-after shelf m e.caller e.call e.reply zone bank (at_rest before) (at_rest made) step.replied quiet
    (left-so (slice_get (zones_of m) zone) m zone bank e.call e.reply before) in
    let behind : Leads shelf next history machine = subst (λ (x : Machine). Leads shelf x history machine) step.left rest in
    subst (λ (h : List BankEntry). IsQuiet machine zone bank (at_rest h)) (sym (made-append bank before here (calls_for next history zone bank)))
    (quiet-history shelf next machine history zone bank made behind quiet_next)

-- ---- the law

pub open-blocks : OpenAreTheBootBlocks
open-blocks shelf history machine banks zone bank block legal linked there bank_legal mine =
    let calls : List BankCall = calls_for empty_machine history zone bank in
    let other : List BankEntry = with_calls bank [] calls in
    let plain : ArePlain calls = plain-for empty_machine history zone bank in
    let owned_other : owned other ≡ calls = owned-with_calls bank [] calls in
    let fresh : IsQuiet empty_machine zone bank (at_rest []) = record { rest = refl; frozen = refl; opened = λ b is. refl; unsealed = λ b. refl } in
    open-same bank block bank_reply.Done (banks zone bank) other (owners-of (banks zone bank) (λ i e at. (bank_legal i e at).who))
    (owners-made bank [] calls tt plain) (subst ArePlain (sym owned_other) plain) (linked zone bank there ∙ sym owned_other)
    ∙ (quiet-history shelf empty_machine machine history zone bank [] legal fresh).opened block mine
