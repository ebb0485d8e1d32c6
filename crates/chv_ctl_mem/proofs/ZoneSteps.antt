-- What a call on the banks changes while no context acts.
use Rattle.std.proofs.Common.{◌≡◌, ℕ, ◌+◌, ◌-◌, ◌<◌, Bool, true, false, List, [], ◌∷◌, Result, Ok, Err, refl, sym, ◌∙◌, ap, subst, arith, IfOk, OnErr, MatchResult}
use Rattle.std.specs.Prelude.{◌==◌}
use Rattle.std.proofs.lemmas.Bool.Decides.{nat_tests}
use Rattle.chv_defs_memory.specs.declared.bank.BankCall.{BankCall}
use Rattle.chv_defs_memory.specs.declared.bank.BankReply.{BankReply}
use Rattle.chv_defs_memory.specs.declared.bank.Refusal.{Refusal}
use Rattle.chv_defs_memory.specs.BankBook.{pages_used, refused_or}
use Rattle.chv_defs_memory.specs.BankState.{banks}
use Rattle.chv_defs_memory.specs.Zones.{with_room, zone_refusal, Enters, GivesBack, Known, MakesRoom, OnlySeesMore, OtherBanksStay, OtherZonesStay, OwnerMayAsk}
use Rattle.chv_defs_memory.proofs.ZoneLaws.{entered_by, enters-none, gives-back-none, makes-room-none, sees-none}
use Rattle.chv_ctl_mem.specs.BankChanges.{back_to, calls_made, is_bank, is_in_zone, more_places, AreChanged, HasRoom, MayMake}
use Rattle.chv_ctl_mem.specs.ZoneCalls.{AreAsBefore}
use Rattle.chv_ctl_mem.proofs.ChangeLaws.{changed-bank, changed-zone}

one-call : (z b : ℕ) (c : BankCall) (known : Known) → entered_by b c known ≡ calls_made (c ∷ []) z b known
one-call z b c known =
    let same : known.pages - pages_used c ≡ known.pages - (0 + pages_used c) = omega arith in
    ap (λ pages. record (entered_by b c known) { pages = pages }) same

zone-as-before : (zone : ℕ) (before after : ℕ → ℕ → Known)
    → ((b : ℕ) → b < banks → after zone b ≡ before zone b) → OtherZonesStay before after zone → AreAsBefore before after
zone-as-before zone before after same others z b is = by (z == zone) refl
  where
    by : (t : Bool) → (z == zone) ≡ t → after z b ≡ before z b
    by true e = let here : zone ≡ z = grind (arith, nat_tests) in rw (← here) (same b is.1)
    by false e = others z b is e

-- a call of the owner
pub call-made : (lent : List ℕ) (zone bank : ℕ) (before after : ℕ → ℕ → Known) (c : BankCall) (r : BankReply)
    → lent ≡ [] → Enters lent bank (before zone bank) (after zone bank) c r → OtherBanksStay before after zone bank
    → AreChanged (is_bank zone bank) (calls_made (c ∷ [])) before after
call-made lent zone bank before after c r home entered others =
    let P : List ℕ → Type 0 = λ l. Enters l bank (before zone bank) (after zone bank) c r in
    changed-bank zone bank (calls_made (c ∷ [])) before after
    ((enters-none bank (before zone bank) (after zone bank) c r (subst P home entered)).1 ∙ one-call zone bank c (before zone bank))
    others

-- its condition, where no context is lent
pub may-ask : (lent : List ℕ) (bank : ℕ) (c : BankCall) (known : Known) → lent ≡ [] → MayMake bank c known → OwnerMayAsk lent bank known.history c
may-ask lent bank c known home may = let P : List ℕ → Type 0 = λ l. OwnerMayAsk l bank known.history c in subst P (sym home) may.condition

-- what is given back in a zone
pub given-back : (lent : List ℕ) (zone keep : ℕ) (before after : ℕ → ℕ → Known)
    → lent ≡ [] → ((b : ℕ) → b < banks → GivesBack lent keep (before zone b) (after zone b)) → OtherZonesStay before after zone
    → AreChanged (is_in_zone zone) (back_to keep) before after
given-back lent zone keep before after home back others =
    let P : List ℕ → Type 0 = λ l. (b : ℕ) → b < banks → GivesBack l keep (before zone b) (after zone b) in
    changed-zone zone (back_to keep) before after
    (λ b below. gives-back-none keep (before zone b) (after zone b) ((subst P home back) b below))
    others

-- where nothing is seen in a zone, all is as before
pub seen-nothing : (lent : List ℕ) (zone : ℕ) (before after : ℕ → ℕ → Known)
    → lent ≡ [] → ((b : ℕ) → b < banks → OnlySeesMore lent (before zone b) (after zone b)) → OtherZonesStay before after zone → AreAsBefore before after
seen-nothing lent zone before after home seen others =
    let P : List ℕ → Type 0 = λ l. (b : ℕ) → b < banks → OnlySeesMore l (before zone b) (after zone b) in
    zone-as-before zone before after (λ b below. sees-none (before zone b) (after zone b) ((subst P home seen) b below)) others

asked-so : (zone entries pages : ℕ) (before after : ℕ → ℕ → Known) (answer : Result (Unit {0}) Refusal)
    → ((b : ℕ) → b < banks → after zone b ≡ with_room (before zone b) entries pages answer) → OtherZonesStay before after zone
    → MatchResult answer (λ _. AreChanged (is_in_zone zone) (more_places entries pages) before after) (λ _. AreAsBefore before after)
asked-so zone entries pages before after (Ok done) left others = changed-zone zone (more_places entries pages) before after left others
asked-so zone entries pages before after (Err why) left others = zone-as-before zone before after left others

-- room in a zone
pub asked : (lent : List ℕ) (zone entries pages : ℕ) (before after : ℕ → ℕ → Known) (answer : Result (Unit {0}) Refusal)
    → lent ≡ [] → MakesRoom lent (before zone) (after zone) zone entries pages (tt {0}) answer → OtherZonesStay before after zone
    → HasRoom (is_in_zone zone) entries pages (zone_refusal zone (before zone) entries pages) before after answer
asked lent zone entries pages before after answer home made others =
    let P : List ℕ → Type 0 = λ l. MakesRoom l (before zone) (after zone) zone entries pages (tt {0}) answer in
    let both : (answer ≡ refused_or (zone_refusal zone (before zone) entries pages) (tt {0})) × ((b : ℕ) → b < banks → after zone b ≡ with_room (before zone b) entries pages answer) =
    makes-room-none (before zone) (after zone) zone entries pages (tt {0}) answer (subst P home made) in
    record { answered = both.0; left = asked-so zone entries pages before after answer both.1 others }

-- the same of a call that may want memory
pub asked-of : {E : Type 0} (lent : List ℕ) (zone entries pages : ℕ) (before after : ℕ → ℕ → Known) (answer : Result (Result (Unit {0}) Refusal) E)
    → lent ≡ [] → IfOk answer (λ a. MakesRoom lent (before zone) (after zone) zone entries pages (tt {0}) a) → OtherZonesStay before after zone
    → IfOk answer (HasRoom (is_in_zone zone) entries pages (zone_refusal zone (before zone) entries pages) before after)
asked-of lent zone entries pages before after (Ok answer) home made others = asked lent zone entries pages before after answer home made others
asked-of lent zone entries pages before after (Err why) home made others = made

-- and where it fails
pub failed-of : {A E : Type 0} (lent : List ℕ) (zone : ℕ) (before after : ℕ → ℕ → Known) (answer : Result A E)
    → lent ≡ [] → OnErr answer ((b : ℕ) → b < banks → OnlySeesMore lent (before zone b) (after zone b)) → OtherZonesStay before after zone
    → OnErr answer (AreAsBefore before after)
failed-of lent zone before after (Ok answer) home seen others = seen
failed-of lent zone before after (Err why) home seen others = seen-nothing lent zone before after home seen others
