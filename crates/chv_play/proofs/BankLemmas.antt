-- The banks of the control value and of the schedule are the same, and stay so.
use Rattle.std.proofs.Common.{◌≡◌, ◌<◌, ℕ, ◌+◌, ◌-◌, ◌/◌, ◌%◌, ◌==◌, Bool, true, false, cond, List, [], ◌∷◌, map, get_or, slice_get, Option, None, Some, refl, sym, ap, ◌∙◌, arith}
use Rattle.std.specs.Prelude.{◌&&◌, find, if◌then◌else◌}
use Rattle.std.proofs.lemmas.List.{ext_get_or, get_or-map, get_or_default, length-map}
use Rattle.chv_defs_api.specs.declared.config.ZoneConfig.{ZoneConfig}
use Rattle.chv_defs_api.specs.declared.control.ControlEntry.{ControlEntry}
use Rattle.chv_defs_control.specs.declared.machine.Machine.{Machine}
use Rattle.chv_defs_control.specs.ControlBook.{full_at}
use Rattle.chv_defs_control.specs.FullBooks.{book_in, first_full, or_else}
use Rattle.chv_defs_control.specs.OwnerCalls.{calls_where, owner_calls, zones_of, HaveTheCalls, IsLeft}
use Rattle.chv_defs_memory.specs.declared.bank.BankCall.{BankCall}
use Rattle.chv_defs_memory.specs.declared.bank.Refusal.{Refusal}
use Rattle.chv_defs_memory.specs.BankBook.{BankBook, fresh}
use Rattle.chv_defs_memory.specs.BankState.{banks}
use Rattle.chv_defs_memory.specs.MadeCalls.{at_rest, most_in_zone, pages_wanted, places_wanted, wanted_refusal, with_calls, IsAtRest}
use Rattle.chv_defs_memory.specs.Zones.{book_of, first_due, most_zones, IsBank, Known}
use Rattle.chv_defs_memory.proofs.MadeLaws.{made-none}
use Rattle.chv_defs_memory.proofs.ZoneLaws.{map-range-same, sees-none, zone-refusal-same}
use Rattle.chv_defs.specs.declared.trace.BankTrace.{BankTrace}
use Rattle.chv_defs.specs.LegalTrace.{entries_in, entries_or_none, is_of_bank}
use Rattle.chv_defs.specs.Schedule.{known_in, with_owner}
use Rattle.chv_guest.specs.LentBanks.{bank_count, known_at, place_of, AreAllBanks, Lent}
use Rattle.chv_guest.proofs.Entries.{find_book, is_book_of, or_fresh}
use Rattle.chv_guest.proofs.SameBanks.{book_at, has_bank}
use Rattle.chv_play.specs.Banks.{as_trace, book_behind, traced, zones_behind}

books_behind : (m : Machine) (e : ControlEntry) (books : List BankBook) → map (with_owner m e) (map as_trace books) ≡ map as_trace (map (book_behind m e) books)
books_behind m e [] = refl
books_behind m e (b ∷ books) = ap (λ (bs : List BankTrace). with_owner m e (as_trace b) ∷ bs) (books_behind m e books)

-- behind a control entry
pub traced_behind : (m : Machine) (e : ControlEntry) (zones : Lent) → map (with_owner m e) (traced zones) ≡ traced (zones_behind m e zones)
traced_behind m e zones = books_behind m e zones.books

-- ---- the history of a bank

entries_are : (zone bank : ℕ) (books : List BankBook) → entries_in (map as_trace books) zone bank ≡ (or_fresh (find (is_book_of zone bank) books)).history
entries_are zone bank [] = refl
entries_are zone bank (b ∷ books) = go (is_book_of zone bank b) (entries_are zone bank books)
  where
    go : (is : Bool) → entries_in (map as_trace books) zone bank ≡ (or_fresh (find (is_book_of zone bank) books)).history
        → entries_or_none (cond is (Some (as_trace b)) (find (is_of_bank zone bank) (map as_trace books)))
        ≡ (or_fresh (cond is (Some b) (find (is_book_of zone bank) books))).history
    go true rest = refl
    go false rest = rest

-- the schedule has the history of each bank that the owner knows
pub entries_known : (zones : Lent) (zone bank : ℕ) → AreAllBanks zones.books → IsBank zone bank
    → entries_in (traced zones) zone bank ≡ (known_at zones.books zone bank).history
entries_known zones zone bank all there =
    let place = place_of zone bank in
    let found : or_fresh (find (is_book_of zone bank) zones.books) ≡ get_or zones.books (place - 0) (fresh 0 0) =
    find_book zones.books 0 place zone bank
    (λ i within. let at = all.each i (omega (arith, within, all.all)) in let from : 0 + i ≡ i = omega arith in
    (at.zone ∙ ap (λ n. n / banks) (sym from), at.bank ∙ ap (λ n. n % banks) (sym from)))
    (omega arith) (omega (arith, there.0, there.1, all.all)) (omega (arith, there.1)) (omega (arith, there.1)) in
    let at_place : place - 0 ≡ place = omega arith in
    entries_are zone bank zones.books ∙ ap (λ (b : BankBook). b.history) (found ∙ ap (λ n. get_or zones.books n (fresh 0 0)) at_place)
    ∙ ap (λ (b : BankBook). b.history) (get_or_default zones.books place (fresh 0 0) (fresh zone bank) (omega (arith, there.0, there.1, all.all)))

-- ---- what is left behind an entry

left_none : (config : Option ZoneConfig) (m : Machine) (zone bank : ℕ) (e : ControlEntry) (before after : Known) → IsAtRest before
    → IsLeft config [] bank before (calls_where config m zone bank e.call e.reply) after
    → after ≡ at_rest (with_calls bank before.history (calls_where config m zone bank e.call e.reply))
left_none None m zone bank e before after rest left = sees-none before after left ∙ rest
left_none (Some config) m zone bank e before after rest left =
    left.1 ∙ ap at_rest (made-none bank before.history (calls_where (Some config) m zone bank e.call e.reply) after.history left.0)

-- The banks behind an entry that left them so are the ones that the schedule says.
pub books_are : (m : Machine) (e : ControlEntry) (old new : List BankBook) → AreAllBanks old → AreAllBanks new
    → ((zone bank : ℕ) → IsBank zone bank → IsAtRest (known_at old zone bank)) → HaveTheCalls [] m e.call e.reply (known_at old) (known_at new)
    → new ≡ map (book_behind m e) old
books_are m e old new all_old all_new rest called =
    ext_get_or (fresh 0 0) new (map (book_behind m e) old) (all_new.all ∙ sym (length-map old (book_behind m e) ∙ all_old.all))
    (λ i within. one i (omega (arith, within, all_new.all)))
  where
    one : (i : ℕ) → i < bank_count → get_or new i (fresh 0 0) ≡ get_or (map (book_behind m e) old) i (fresh 0 0)
    one i within =
        let there : IsBank (i / banks) (i % banks) = has_bank i within in
        let left = left_none (slice_get (zones_of m) (i / banks)) m (i / banks) (i % banks) e (known_at old (i / banks) (i % banks))
        (known_at new (i / banks) (i % banks)) (rest (i / banks) (i % banks) there) (called (i / banks) (i % banks) there) in
        let behind : book_behind m e (book_of (i / banks) (i % banks) (known_at old (i / banks) (i % banks)))
        ≡ book_of (i / banks) (i % banks) (at_rest (with_calls (i % banks) (known_at old (i / banks) (i % banks)).history
        (owner_calls m e.call e.reply (i / banks) (i % banks)))) = refl in
        book_at new i all_new within
        ∙ ap (book_of (i / banks) (i % banks)) left ∙ sym behind
        ∙ sym (get_or-map (book_behind m e) old i (fresh 0 0) (fresh 0 0) (omega (arith, within, all_old.all))
        ∙ ap (book_behind m e) (book_at old i all_old within))

-- ---- the first full book

wanted_same : (zone : ℕ) (known other : ℕ → Known) (calls : ℕ → List BankCall) → ((bank : ℕ) → bank < banks → known bank ≡ other bank)
    → wanted_refusal zone known calls ≡ wanted_refusal zone other calls
wanted_same zone known other calls same =
    let places = most_in_zone (λ bank. places_wanted (calls bank)) in
    let pages = most_in_zone (λ bank. pages_wanted (calls bank)) in
    ap (λ why. if places == 0 && pages == 0 then None else why) (zone-refusal-same zone known other places pages same)

-- it depends on what is known of the banks alone
pub first_full_same : (m : Machine) (history : List ControlEntry) (known other : ℕ → ℕ → Known) (e : ControlEntry)
    → ((zone bank : ℕ) → IsBank zone bank → known zone bank ≡ other zone bank) → first_full m history known e ≡ first_full m history other e
first_full_same m history known other e same =
    ap (λ (due : List (Option Refusal)). or_else (full_at m history e) (book_in (first_due due)))
    (map-range-same (λ zone. wanted_refusal zone (known zone) (owner_calls m e.call e.reply zone)) (λ zone. wanted_refusal zone (other zone) (owner_calls m e.call e.reply zone))
    0 most_zones (λ zone below. wanted_same zone (known zone) (other zone) (owner_calls m e.call e.reply zone) (λ bank within. same zone bank (below, within))))

-- what the schedule knows of the banks is what the owner knows
pub known_same : (zones : Lent) → AreAllBanks zones.books → ((zone bank : ℕ) → IsBank zone bank → IsAtRest (known_at zones.books zone bank))
    → (zone bank : ℕ) → IsBank zone bank → known_at zones.books zone bank ≡ known_in (traced zones) zone bank
known_same zones all rest zone bank there =
    rest zone bank there ∙ ap at_rest (sym (entries_known zones zone bank all there))
