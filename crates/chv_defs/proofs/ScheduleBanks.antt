-- The banks of a trace that is due: they are banks that there are, ascend, have entries, and all of these are the owner's.
use Rattle.std.proofs.Common.{◌≡◌, ◌≢◌, ◌≤◌, ◌<◌, ℕ, zero, suc, ◌+◌, ◌==◌, Bool, true, false, cond, List, [], ◌∷◌, ◌++◌, map, filter, Option, None, Some, Result, Ok, Err, refl, sym, ap, subst, ◌∙◌, arith}
use Rattle.std.specs.Prelude.{◌&&◌, length, nat_lt}
use Rattle.std.specs.List.{AllByRecursion, list_all}
use Rattle.chv_defs_base.specs.declared.book.Full.{Full}
use Rattle.chv_defs_api.specs.declared.control.ControlCall.{ControlCall}
use Rattle.chv_defs_api.specs.declared.control.ControlCall.TheVariants as call
use Rattle.chv_defs_api.specs.declared.control.ControlEntry.{ControlEntry}
use Rattle.chv_defs_api.specs.declared.shelf.OnShelf.{OnShelf}
use Rattle.chv_defs_api.specs.Routes.{reply_to_call, refusal_bytes}
use Rattle.chv_defs_control.specs.declared.machine.Machine.{Machine}
use Rattle.chv_defs_control.specs.ApiStep.{reply_to}
use Rattle.chv_defs_control.specs.OwnerCalls.{owner_calls}
use Rattle.chv_defs_memory.specs.declared.bank.BankCall.{BankCall}
use Rattle.chv_defs_memory.specs.declared.bank.BankEntry.{BankEntry}
use Rattle.chv_defs_memory.specs.BankBook.{owner_reply, with_entry}
use Rattle.chv_defs_memory.specs.MadeCalls.{with_calls}
use Rattle.chv_defs_memory.specs.Zones.{IsBank}
use Rattle.chv_defs_scene.specs.declared.scene.Asked.{Asked}
use Rattle.chv_defs.specs.declared.trace.BankTrace.{BankTrace}
use Rattle.chv_defs.specs.declared.trace.Trace.{Trace}
use Rattle.chv_defs.specs.LegalTrace.{is_owners, Ascend}
use Rattle.chv_defs.specs.Schedule.{Answers, Leaves, Stage, Turn, after_turn, after_turns, all_turns, entry_of, first_stage, fresh_banks, full_for, has_entries, numbered, schedule, stream_of, then_from, trace_at, trace_of, unless_full, visit_of, with_owner, with_reply}
use Rattle.chv_defs.specs.Schedule as schedule_of
use Rattle.chv_defs.proofs.BankOrder.{all_append, all_filter, all_keys, all_so, ascend_filter, fresh_ascend, fresh_empty, fresh_there, key, keys_all, same_keys_ascend}

-- ---- one bank

list_all_append : (test : BankEntry → Bool) (xs ys : List BankEntry) → list_all test xs ≡ true → list_all test ys ≡ true → list_all test (xs ++ ys) ≡ true
list_all_append test [] ys front back = back
list_all_append test (x ∷ xs) ys front back = go (test x) front (λ rest. list_all_append test xs ys rest back)
  where
    go : (b : Bool) → (b && list_all test xs) ≡ true → (list_all test xs ≡ true → list_all test (xs ++ ys) ≡ true)
        → (b && list_all test (xs ++ ys)) ≡ true
    go true rest more = more rest
    go false rest more = absurd (cc rest)

-- calls of the owner add entries of the owner alone
calls_are_owners : (bank : ℕ) (before : List BankEntry) (calls : List BankCall) → list_all is_owners before ≡ true
    → list_all is_owners (with_calls bank before calls) ≡ true
calls_are_owners bank before [] each = each
calls_are_owners bank before (c ∷ calls) each =
    calls_are_owners bank (with_entry before 0 c (owner_reply bank before c)) calls (list_all_append is_owners before _ each refl)

-- ---- all banks of a stage

-- These are all banks, whose entries are the owner's.
abbrev HaveOwners : List BankTrace → Type 0
HaveOwners bs = (map key bs ≡ map key fresh_banks) × AllByRecursion (λ (b : BankTrace). list_all is_owners b.entries ≡ true) bs

owner_keys : (m : Machine) (e : ControlEntry) (bs : List BankTrace) → map key (map (with_owner m e) bs) ≡ map key bs
owner_keys m e [] = refl
owner_keys m e (b ∷ bs) = ap (λ ks. key b ∷ ks) (owner_keys m e bs)

owner_entries : (m : Machine) (e : ControlEntry) (bs : List BankTrace) → AllByRecursion (λ (b : BankTrace). list_all is_owners b.entries ≡ true) bs
    → AllByRecursion (λ (b : BankTrace). list_all is_owners b.entries ≡ true) (map (with_owner m e) bs)
owner_entries m e [] each = tt
owner_entries m e (b ∷ bs) each =
    (calls_are_owners b.bank b.entries (owner_calls m e.call e.reply b.zone b.bank) each.0, owner_entries m e bs each.1)

entry_keeps : (m : Machine) (e : ControlEntry) (bs : List BankTrace) → HaveOwners bs → HaveOwners (map (with_owner m e) bs)
entry_keeps m e bs have = (owner_keys m e bs ∙ have.0, owner_entries m e bs have.1)

unless_full_keeps : (full : Option Full) (s next : Stage) → HaveOwners s.banks → unless_full full s ≡ Ok next → HaveOwners next.banks
unless_full_keeps None s next have is = let same : s ≡ next = cc in subst (λ (t : Stage). HaveOwners t.banks) same have
unless_full_keeps (Some full) s next have is = absurd (cc is)

turn_keeps : (shelf : List OnShelf) (s next : Stage) (session : ℕ) (turn : Turn) → HaveOwners s.banks → after_turn shelf s session turn ≡ Ok next
    → HaveOwners next.banks
turn_keeps shelf s next session (Answers (Err rule) last) have is =
    unless_full_keeps None (with_reply session (refusal_bytes rule last) s) next have is
turn_keeps shelf s next session (Answers (Ok c) last) have is =
    unless_full_keeps (full_for shelf s session c)
    (with_reply session (reply_to_call c (reply_to shelf s.machine c) last) (schedule_of.with_entry shelf session c s)) next
    (entry_keeps s.machine (entry_of shelf s session c) s.banks have) is
turn_keeps shelf s next session (Leaves how) have is =
    unless_full_keeps (full_for shelf s session call.Bye) (schedule_of.with_entry shelf session call.Bye s) next
    (entry_keeps s.machine (entry_of shelf s session call.Bye) s.banks have) is

then_keeps : (r : Result Stage Full) (after : Stage → Result Stage Full) (last : Stage)
    → ((next : Stage) → r ≡ Ok next → after next ≡ Ok last → HaveOwners last.banks) → then_from r after ≡ Ok last → HaveOwners last.banks
then_keeps (Ok next) after last leads is = leads next refl is
then_keeps (Err full) after last leads is = absurd (cc is)

turns_keep : (shelf : List OnShelf) (turns : List (ℕ × Turn)) (s last : Stage) → HaveOwners s.banks → after_turns shelf s turns ≡ Ok last
    → HaveOwners last.banks
turns_keep shelf [] s last have is = let same : s ≡ last = cc in subst (λ (t : Stage). HaveOwners t.banks) same have
turns_keep shelf (turn ∷ turns) s last have is =
    then_keeps (after_turn shelf s turn.0 turn.1) (λ next. after_turns shelf next turns) last
    (λ next made rest. turns_keep shelf turns next last (turn_keeps shelf s next turn.0 turn.1 have made) rest) is

-- ---- the banks of the trace

-- a bank that there is, has entries, all of which are the owner's
pub record IsOwnersBank (b : BankTrace) : Type 0 where
  pub there : IsBank b.zone b.bank
  pub some : b.entries ≢ []
  pub owners : list_all is_owners b.entries ≡ true

both : {X : Type 0} (P Q : X → Type 0) (xs : List X) → AllByRecursion P xs → AllByRecursion Q xs → AllByRecursion (λ x. P x × Q x) xs
both P Q [] each other = tt
both P Q (x ∷ xs) each other = ((each.0, other.0), both P Q xs each.1 other.1)

have_some : (bs : List BankTrace) → AllByRecursion (λ (b : BankTrace). has_entries b ≡ true) (filter has_entries bs)
have_some [] = tt
have_some (b ∷ bs) = go (has_entries b) refl (have_some bs)
  where
    go : (t : Bool) → has_entries b ≡ t → AllByRecursion (λ (b : BankTrace). has_entries b ≡ true) (filter has_entries bs)
        → AllByRecursion (λ (b : BankTrace). has_entries b ≡ true) (cond t (b ∷ filter has_entries bs) (filter has_entries bs))
    go true is rest = (is, rest)
    go false is rest = rest

not_empty : (entries : List BankEntry) → nat_lt 0 (length entries) ≡ true → entries ≢ []
not_empty [] some none = cc some
not_empty (e ∷ entries) some none = cc none

owners_banks : (bs : List BankTrace) → HaveOwners bs → AllByRecursion IsOwnersBank (filter has_entries bs) × Ascend (filter has_entries bs)
owners_banks bs have =
    let P : BankTrace → Type 0 = λ b. IsBank b.zone b.bank in
    let Q : BankTrace → Type 0 = λ b. list_all is_owners b.entries ≡ true in
    let S : BankTrace → Type 0 = λ b. has_entries b ≡ true in
    let there : AllByRecursion P bs =
    keys_all (λ k. IsBank k.0 k.1) bs (subst (AllByRecursion (λ k. IsBank k.0 k.1)) (sym have.0) (all_keys (λ k. IsBank k.0 k.1) fresh_banks fresh_there)) in
    let each = both (λ b. P b × Q b) S (filter has_entries bs)
    (all_filter (λ b. P b × Q b) has_entries bs (both P Q bs there have.1)) (have_some bs) in (
      all_so (λ b. (P b × Q b) × S b) IsOwnersBank (filter has_entries bs)
          (λ b is. record { there = is.0.0; some = not_empty b.entries is.1; owners = is.0.1 }) each,
      ascend_filter has_entries bs (same_keys_ascend fresh_banks bs have.0 fresh_ascend),
    )

first_have : HaveOwners first_stage.banks
first_have = (
  refl,
  all_so (λ (b : BankTrace). b.entries ≡ []) (λ (b : BankTrace). list_all is_owners b.entries ≡ true) fresh_banks
      (λ b none. ap (λ (es : List BankEntry). list_all is_owners es) none) fresh_empty,
)

traced_banks : (streams : List (List ℕ)) (r : Result Stage Full) (trace : Trace) → ((s : Stage) → r ≡ Ok s → HaveOwners s.banks) → trace_of streams r ≡ Ok trace
    → AllByRecursion IsOwnersBank trace.banks × Ascend trace.banks
traced_banks streams (Ok s) trace have is =
    let same : trace_at streams s ≡ trace = cc in
    subst (λ (t : Trace). AllByRecursion IsOwnersBank t.banks × Ascend t.banks) same (owners_banks s.banks (have s refl))
traced_banks streams (Err full) trace have is = absurd (cc is)

-- of the trace of a scenario
pub scheduled_banks : (shelf : List OnShelf) (sessions : List (List Asked)) (trace : Trace) → schedule shelf sessions ≡ Ok trace
    → AllByRecursion IsOwnersBank trace.banks × Ascend trace.banks
unfolding schedule
scheduled_banks shelf sessions trace is =
    let turns = all_turns (numbered (map visit_of (map stream_of sessions))) in
    traced_banks (map stream_of sessions) (after_turns shelf first_stage turns) trace (λ s leads. turns_keep shelf turns first_stage s first_have leads) is
