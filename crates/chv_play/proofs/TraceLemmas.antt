-- The trace that is due is legal.
use Rattle.std.proofs.Common.{◌≡◌, ℕ, ◌+◌, ◌<◌, ◌≤◌, ◌/◌, ◌%◌, List, [], ◌∷◌, filter, length, ◌++◌, map, get_or, Option, None, Some, Result, Ok, Err, MatchOption, OnOk, refl, sym, ap, subst, ◌∙◌, arith}
use Rattle.std.specs.List.{AllByRecursion, range_with_len}
use Rattle.std.proofs.lemmas.List.{ext_get_or, get_or-map, length-map}
use Rattle.chv_defs_api.specs.declared.control.ControlEntry.{ControlEntry}
use Rattle.chv_defs_api.specs.declared.shelf.OnShelf.{OnShelf}
use Rattle.chv_defs_control.specs.declared.machine.Machine.{Machine}
use Rattle.chv_defs_control.specs.LegalControl.{IsLegal}
use Rattle.chv_defs_control.specs.OwnerCalls.{IsLinked, owner_calls}
use Rattle.chv_defs_memory.specs.declared.bank.BankEntry.{BankEntry}
use Rattle.chv_defs_memory.specs.BankBook.{BankBook, fresh}
use Rattle.chv_defs_memory.specs.BankState.{banks}
use Rattle.chv_defs_memory.specs.LegalBank as bank_law
use Rattle.chv_defs_memory.specs.MadeCalls.{owned}
use Rattle.chv_defs_memory.specs.Zones.{IsBank}
use Rattle.chv_defs_scene.specs.declared.scene.Asked.{Asked}
use Rattle.chv_defs.specs.declared.trace.BankTrace.{BankTrace}
use Rattle.chv_defs.specs.declared.trace.SessionTrace.{SessionTrace}
use Rattle.chv_defs.specs.declared.trace.Trace.{Trace}
use Rattle.chv_defs.specs.LegalTrace.{entries_in, Ascend, AreInOrder, IsLegalBank, IsLegalTrace}
use Rattle.chv_defs.specs.Schedule.{has_entries, schedule}
use Rattle.chv_defs.specs.Schedule as schedule_of
use Rattle.chv_defs.proofs.BankOrder.{all_append, entries_filter, fresh_ascend, key, same_keys_ascend}
use Rattle.chv_defs.proofs.ScheduleBanks.{scheduled_banks, IsOwnersBank}
use Rattle.chv_guest.specs.LentBanks.{bank_count, fresh_banks, known_at, AreAllBanks, Lent}
use Rattle.chv_guest.proofs.ZoneBanks.{AreAllBanks-fresh}
use Rattle.chv_store.specs.declared.any_disk.AnyDisk.{AnyDisk}
use Rattle.chv_defs_api.specs.declared.context.StopCause.{StopCause}
use Rattle.chv_defs_api.specs.declared.context.StopCause.TheVariants as stop
use Rattle.chv_control.specs.Shelf.{shelf_of}
use Rattle.chv_play.specs.Banks.{as_trace, traced, PlayedControl}
use Rattle.chv_play.specs.Played.{trace_with, AreLegalBanks, Comes, Gives}
use Rattle.chv_play.proofs.BankLemmas.{entries_known}
use Rattle.chv_play.proofs.CallerLemmas.{numbers_of_sessions, scheduled_of_sessions}

-- ---- the banks ascend

traced_key : (books : List BankBook) (i : ℕ) → AreAllBanks books → i < length books
    → get_or (map key (map as_trace books)) i (0, 0) ≡ (i / banks, i % banks)
traced_key books i all within =
    let at = all.each i (omega (arith, within, all.all)) in
    let there : i < length (map as_trace books) = omega (arith, within, length-map books as_trace) in
    get_or-map key (map as_trace books) i (as_trace (fresh 0 0)) (0, 0) there
    ∙ ap key (get_or-map as_trace books i (fresh 0 0) (as_trace (fresh 0 0)) within)
    ∙ ap (λ (z : ℕ). (z, (get_or books i (fresh 0 0)).bank)) at.zone ∙ ap (λ (b : ℕ). (i / banks, b)) at.bank

-- all banks have the same numbers
traced_keys : (books other : List BankBook) → AreAllBanks books → AreAllBanks other → map key (map as_trace books) ≡ map key (map as_trace other)
traced_keys books other all all_other =
    let count : length (map key (map as_trace books)) ≡ length books = length-map (map as_trace books) key ∙ length-map books as_trace in
    let count_other : length (map key (map as_trace other)) ≡ length other = length-map (map as_trace other) key ∙ length-map other as_trace in
    ext_get_or (0, 0) (map key (map as_trace books)) (map key (map as_trace other)) (count ∙ all.all ∙ sym (count_other ∙ all_other.all))
    (λ i within. traced_key books i all (omega (arith, within, count))
    ∙ sym (traced_key other i all_other (omega (arith, within, count, all.all, all_other.all))))

traced_ascend : (zones : Lent) → AreAllBanks zones.books → Ascend (traced zones)
traced_ascend zones all =
    same_keys_ascend schedule_of.fresh_banks (traced zones) (traced_keys zones.books fresh_banks all AreAllBanks-fresh) fresh_ascend

-- ---- each is legal

legal_banks : (bs : List BankTrace) → AllByRecursion IsOwnersBank bs → AreLegalBanks bs → AllByRecursion IsLegalBank bs
legal_banks [] owners legal = tt
legal_banks (b ∷ bs) owners legal = (
  record { there = owners.0.there; some = owners.0.some; legal = legal.0; owners = owners.0.owners },
  legal_banks bs owners.1 legal.1,
)

-- ---- the whole

pub legal_trace : (shelf : List OnShelf) (sessions : List (List Asked)) (trace : Trace) (machine : Machine) (history : List ControlEntry) (zones : Lent) (logs : List SessionTrace)
    → schedule shelf sessions ≡ Ok trace → trace ≡ trace_with history (traced zones) logs → AreLegalBanks trace.banks → IsLegal shelf history machine
    → IsLinked history (λ zone bank. (known_at zones.books zone bank).history) → AreAllBanks zones.books → AreInOrder history logs → length sessions ≤ 16
    → IsLegalTrace shelf trace
legal_trace shelf sessions trace machine history zones logs due is legal_of legal linked all in_order few =
    let owners = scheduled_banks shelf sessions trace due in
    let told = scheduled_of_sessions shelf sessions trace due in
    let control : history ≡ trace.control = sym (ap (λ (t : Trace). t.control) is) in
    let logs_are : logs ≡ trace.sessions = sym (ap (λ (t : Trace). t.sessions) is) in
    let banks_are : trace.banks ≡ filter has_entries (traced zones) = ap (λ (t : Trace). t.banks) is in
    record {
      machine = machine;
      legal = subst (λ (h : List ControlEntry). IsLegal shelf h machine) control legal;
      banks = legal_banks trace.banks owners.0 legal_of;
      ascend = owners.1;
      linked = subst (λ (h : List ControlEntry). IsLinked h (entries_in trace.banks)) control (λ zone bank there.
          ap owned (ap (λ (bs : List BankTrace). entries_in bs zone bank) banks_are
          ∙ entries_filter (traced zones) zone bank (traced_ascend zones all) ∙ entries_known zones zone bank all there)
          ∙ linked zone bank there);
      numbers = numbers_of_sessions (length sessions) trace few told;
      callers = told.callers;
      in_order = subst (λ (h : List ControlEntry). AreInOrder h trace.sessions) control (subst (λ (ls : List SessionTrace). AreInOrder history ls) logs_are in_order);
    }

-- a bank more
pub legal_pushed : {E : Type 0} (result : Result (Unit {0}) E) (old new : List BankTrace) (b : BankTrace) → OnOk result (new ≡ old ++ b ∷ [])
    → bank_law.IsLegal b.bank b.entries → OnOk result (AreLegalBanks old → AreLegalBanks new)
legal_pushed {E} (Ok done) old new b is legal = λ all. subst AreLegalBanks (sym is) (all_append (λ (c : BankTrace). bank_law.IsLegal c.bank c.entries) old (b ∷ []) all (legal, tt))
legal_pushed {E} (Err error) old new b is legal = tt

-- what playing comes to
pub comes_legal : {D : Type 0} (count : AnyDisk D → ℕ) (sessions : List (List Asked)) (start control : PlayedControl D) (logs : List SessionTrace)
    (trace : Option Trace) (cause : Option StopCause)
    → Gives (schedule (shelf_of count start.disks) sessions) control (Ok logs) → control.disks ≡ start.disks
    → IsLegal (shelf_of count control.disks) control.history control.machine → IsLinked control.history (λ zone bank. (known_at control.zones.books zone bank).history)
    → AreAllBanks control.zones.books → length sessions ≤ 16
    → MatchOption trace (cause ≡ Some stop.Memory) (λ t. (cause ≡ None) × (t ≡ trace_with control.history (traced control.zones) logs) × AreLegalBanks t.banks)
    → Comes (shelf_of count start.disks) (schedule (shelf_of count start.disks) sessions) trace cause
comes_legal {D} count sessions start control logs None cause gives disks legal linked all few came =
    subst (λ (c : Option StopCause). Comes (shelf_of count start.disks) (schedule (shelf_of count start.disks) sessions) None c) (sym came) tt
comes_legal {D} count sessions start control logs (Some trace) cause gives disks legal linked all few came =
    let shelf = shelf_of count start.disks in
    let due : schedule shelf sessions ≡ Ok trace = gives.0 ∙ ap (λ (t : Trace). Ok t) (sym came.1) in
    subst (λ (c : Option StopCause). Comes shelf (schedule shelf sessions) (Some trace) c) (sym came.0) (
      due,
      legal_trace shelf sessions trace control.machine control.history control.zones logs due came.1 came.2
          (subst (λ disks. IsLegal (shelf_of count disks) control.history control.machine) disks legal) linked all gives.1 few,
      (scheduled_of_sessions shelf sessions trace due).numbered,
    )
