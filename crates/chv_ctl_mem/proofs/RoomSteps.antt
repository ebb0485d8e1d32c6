-- Room in one zone after another.
use Rattle.std.proofs.Common.{◌≡◌, ℕ, ◌+◌, ◌<◌, ◌≤◌, Bool, true, false, Option, None, Some, Result, Ok, Err, refl, sym, ◌∙◌, ap, arith}
use Rattle.std.specs.Prelude.{◌==◌, nat_lt, min, IfOk}
use Rattle.std.proofs.lemmas.Bool.Decides.{nat_tests}
use Rattle.chv_defs_memory.specs.declared.bank.Refusal.{Refusal}
use Rattle.chv_defs_memory.specs.BankBook.{refused_or}
use Rattle.chv_defs_memory.specs.Zones.{most_zones, zone_refusal, Known}
use Rattle.chv_defs_memory.proofs.ZoneLaws.{first-due-at, first-due-none, zone-refusal-same}
use Rattle.chv_ctl_mem.specs.BankChanges.{back_to, is_in_zone, is_in_zone_below, more_places, refusal_below, AreChanged, HasPlaces, HasRoom, HavePlaces}
use Rattle.chv_ctl_mem.specs.ZoneCalls.{AreAsBefore}
use Rattle.chv_ctl_mem.proofs.ChangeLaws.{next-zone, no-zone-below, zone-not-reached, zone-reached}

-- every bank of the zones below a number has its room, and none had to be refused
pub record HasRoomBelow (entries pages zone : ℕ) (before now : ℕ → ℕ → Known) : Type 0 where
  pub none : (z : ℕ) → z < zone → zone_refusal z (before z) entries pages ≡ None
  pub room : AreChanged (is_in_zone_below zone) (more_places entries pages) before now

pub room-none : (entries pages : ℕ) (known : ℕ → ℕ → Known) → HasRoomBelow entries pages 0 known known
room-none entries pages known = record { none = λ z below. absurd (omega arith); room = no-zone-below (more_places entries pages) known }

due-of : (due : Option Refusal) (answer : Result (Unit {0}) Refusal) → answer ≡ refused_or due (tt {0}) → IfOk answer (λ _. due ≡ None)
due-of None (Ok done) e = refl
due-of None (Err why) e = tt
due-of (Some why) (Ok done) e = cc
due-of (Some why) (Err other) e = tt

why-of : (due : Option Refusal) (why : Refusal) → refused_or due (tt {0}) ≡ Err why → due ≡ Some why
why-of None why e = cc
why-of (Some due) why e = cc

-- a zone that was not reached asks as it did before
same-due : (entries pages : ℕ) (zone : ℕ) (before now : ℕ → ℕ → Known) → zone < most_zones → HasRoomBelow entries pages zone before now → zone_refusal zone (now zone) entries pages ≡ zone_refusal zone (before zone) entries pages
same-due entries pages zone before now few h =
    zone-refusal-same zone (now zone) (before zone) entries pages (λ b below. zone-not-reached zone zone b (more_places entries pages) before now (few, below) (omega arith) h.room)

-- one more zone has its room
pub room-more : (entries pages : ℕ) (zone : ℕ) (before now after : ℕ → ℕ → Known) (done : Unit {0}) → zone < most_zones → HasRoomBelow entries pages zone before now
    → HasRoom (is_in_zone zone) entries pages (zone_refusal zone (now zone) entries pages) now after (Ok done) → HasRoomBelow entries pages (zone + 1) before after
room-more entries pages zone before now after done few h more = record {
  none = λ z below. by z below (z == zone) refl;
  room = next-zone zone (more_places entries pages) before now after h.room more.left;
}
  where
    here : zone_refusal zone (before zone) entries pages ≡ None
    here = sym (same-due entries pages zone before now few h) ∙ due-of (zone_refusal zone (now zone) entries pages) (Ok done) more.answered

    by : (z : ℕ) → z < zone + 1 → (t : Bool) → (z == zone) ≡ t → zone_refusal z (before z) entries pages ≡ None
    by z below true e = let is : zone ≡ z = grind (arith, nat_tests) in rw (← is) here
    by z below false e = h.none z (grind (arith, nat_tests))

-- all zones have
pub room-all : (entries pages : ℕ) (count : ℕ) (before after : ℕ → ℕ → Known) → HasRoomBelow entries pages count before after
    → HasRoom (is_in_zone_below count) entries pages (refusal_below count entries pages before) before after (Ok (tt {0}))
room-all entries pages count before after h = record {
  answered = let none : refusal_below count entries pages before ≡ None = first-due-none (λ z. zone_refusal z (before z) entries pages) count h.none in ap (λ due. refused_or due (tt {0})) (sym none);
  left = h.room;
}

-- What was given in the zones below is given back.
pub all-given-back : (entries pages : ℕ) (zone kept : ℕ) (before now mid after : ℕ → ℕ → Known) → HavePlaces zone kept before → AreChanged (is_in_zone_below zone) (more_places entries pages) before now
    → AreAsBefore now mid → AreChanged (is_in_zone_below zone) (back_to kept) mid after → AreAsBefore before after
all-given-back entries pages zone kept before now mid after rest room same back z b is = by (nat_lt z zone) refl
  where
    given : (k : Known) → HasPlaces kept k → back_to kept z b (more_places entries pages z b k) ≡ k
    given k has =
        let same : min (k.entries + entries) kept ≡ k.entries = omega (arith, has.entries) in
        ap (λ n. record k { entries = n; pages = 0 }) same ∙ ap (λ pages. record k { pages = pages }) (sym has.pages)

    by : (t : Bool) → nat_lt z zone ≡ t → after z b ≡ before z b
    by true e =
        let below : z < zone = grind (arith, nat_tests) in
        zone-reached z zone b (back_to kept) mid after is below back
        ∙ ap (back_to kept z b) (same z b is ∙ zone-reached z zone b (more_places entries pages) before now is below room)
        ∙ given (before z b) (rest z b below is.1)
    by false e =
        let above : zone ≤ z = grind (arith, nat_tests) in
        zone-not-reached z zone b (back_to kept) mid after is above back ∙ same z b is ∙ zone-not-reached z zone b (more_places entries pages) before now is above room

-- the refusal of a zone is the answer
pub room-refused : (entries pages : ℕ) (zone count : ℕ) (before now mid after : ℕ → ℕ → Known) (why : Refusal) → zone < count → count ≤ most_zones → HasRoomBelow entries pages zone before now
    → HasRoom (is_in_zone zone) entries pages (zone_refusal zone (now zone) entries pages) now mid (Err why) → AreAsBefore before after
    → HasRoom (is_in_zone_below count) entries pages (refusal_below count entries pages before) before after (Err why)
room-refused entries pages zone count before now mid after why below few h asked same = record {
  answered = ap (λ due. refused_or due (tt {0})) (sym first);
  left = same;
}
  where
    here : zone_refusal zone (before zone) entries pages ≡ Some why
    here = sym (same-due entries pages zone before now (omega arith) h) ∙ why-of (zone_refusal zone (now zone) entries pages) why (sym asked.answered)

    first : refusal_below count entries pages before ≡ Some why
    first = first-due-at (λ z. zone_refusal z (before z) entries pages) zone count why below h.none here
