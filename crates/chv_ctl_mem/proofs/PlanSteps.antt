-- Plans in the banks of the zones in effect: what they want, when they may be made, and what they leave.
use Rattle.std.proofs.Common.{◌≡◌, ℕ, ◌+◌, ◌-◌, ◌<◌, ◌≤◌, zero, suc, Bool, true, false, List, [], ◌∷◌, length, map, Option, None, Some, Result, Ok, Err, refl, sym, ◌∙◌, ap, subst, arith}
use Rattle.std.specs.Prelude.{is_ok, slice_get, if◌then◌else◌, MatchResult}
use Rattle.std.specs.List.{range_with_len}
use Rattle.std.proofs.lemmas.List.{append-nil}
use Rattle.std.proofs.lemmas.Option.{slice_get_within}
use Rattle.chv_addr.proofs.Limits.{checked-within}
use Rattle.chv_addr.specs.AddressMap.{is_within_limits}
use Rattle.chv_defs_api.specs.declared.config.Checked.{Checked}
use Rattle.chv_defs_api.specs.declared.config.ZoneConfig.{ZoneConfig}
use Rattle.chv_defs_base.specs.Sizes.{blocks_in}
use Rattle.chv_defs_control.specs.declared.machine.Machine.{Machine}
use Rattle.chv_defs_control.specs.Machine.{HasChecked}
use Rattle.chv_defs_control.specs.OwnerCalls.{zones_of, IsLeft}
use Rattle.chv_defs_memory.specs.declared.bank.BankCall.TheVariants as call
use Rattle.chv_defs_memory.specs.declared.bank.BankEntry.{BankEntry}
use Rattle.chv_defs_memory.specs.declared.bank.BankReply.TheVariants as bank_reply
use Rattle.chv_defs_memory.specs.declared.bank.Refusal.{Refusal}
use Rattle.chv_defs_memory.specs.BankBook.{with_entry}
use Rattle.chv_defs_memory.specs.BankState.{banks, is_frozen, most_blocks}
use Rattle.chv_defs_memory.specs.MadeCalls.{at_rest, pages_wanted, wanted_refusal, with_calls, AreMade}
use Rattle.chv_defs_memory.specs.Zones.{first_due, most_zones, zone_refusal, IsBank, Known, OnlySeesMore}
use Rattle.chv_defs_memory.proofs.GoingOn.{frozen-entry}
use Rattle.chv_defs_memory.proofs.ZoneLaws.{thawed-by-thaw}
use Rattle.chv_ctl_mem.specs.declared.plan.Plan.{Plan}
use Rattle.chv_ctl_mem.specs.declared.plan.Plan.TheVariants as plan
use Rattle.chv_ctl_mem.specs.BankChanges.{calls_made, is_for_frozen, is_in_zone_below, more_places, plan_calls, plan_where, planned, refusal_below, AreChanged, HasRoom, IsReady, MayMakeAll}
use Rattle.chv_ctl_mem.specs.Plans.{plan_refusal, HaveThePlan}
use Rattle.chv_ctl_mem.specs.ZoneCalls.{AreAsBefore, AreAtRest, IsAtRestSo}
use Rattle.chv_ctl_mem.proofs.CallSteps.{with-calls-made}
use Rattle.chv_ctl_mem.proofs.ChangeLaws.{zone-not-reached, zone-reached}

-- the zones of a checked configuration are within the limits
pub within-of : (config : Option Checked) (checked : Checked) → config ≡ Some checked → HasChecked config → is_within_limits checked.zones ≡ true
within-of config checked e h = checked-within checked (let P : Option Checked → Type 0 = HasChecked in subst P e h)

-- ---- frozen or not

-- behind a plan no bank is frozen
plan-thaws : (p : Plan) (config : ZoneConfig) (bank : ℕ) (history : List BankEntry) → is_frozen history ≡ is_for_frozen p
    → is_frozen (with_calls bank history (plan_calls p config)) ≡ false
plan-thaws plan.Shape config bank history frozen = frozen-entry history (call.Shape (blocks_in config.size)) bank_reply.Done ∙ frozen
plan-thaws plan.Wipe config bank history frozen = frozen-entry history call.Wipe bank_reply.Done ∙ frozen
plan-thaws plan.ThawAndWipe config bank history frozen =
    frozen-entry (with_entry history 0 call.Thaw bank_reply.Done) call.Wipe bank_reply.Done ∙ thawed-by-thaw history bank_reply.Done

-- ---- when a plan may be made

pub plan-may : (p : Plan) (config : ZoneConfig) (bank : ℕ) (known : Known) → blocks_in config.size ≤ most_blocks
    → IsReady (is_for_frozen p) (length (plan_calls p config)) known → MayMakeAll bank (plan_calls p config) known
plan-may plan.Shape config bank known few ready =
    (record { call = few; owner = refl; condition = (ready.frozen_so, refl); entry = omega (arith, ready.entries); page = omega arith }, tt)
plan-may plan.Wipe config bank known few ready =
    (record { call = tt; owner = refl; condition = (ready.frozen_so, refl); entry = omega (arith, ready.entries); page = omega arith }, tt)
plan-may plan.ThawAndWipe config bank known few ready = (
  record { call = tt; owner = refl; condition = ready.frozen_so; entry = omega (arith, ready.entries); page = omega arith },
  (
    record {
      call = tt;
      owner = refl;
      condition = (thawed-by-thaw known.history bank_reply.Done, refl);
      entry = omega (arith, ready.entries);
      page = omega arith;
    },
    tt,
  ),
)

-- ---- room

-- what is reserved in a bank at rest
rest-entries : (frozen : Bool) (known : Known) → IsAtRestSo frozen known → (known.entries ≡ (if frozen then 1 else 0)) × (known.pages ≡ 0)
rest-entries frozen known rest = (
  ap (λ (k : Known). k.entries) rest.rest ∙ ap (λ (b : Bool). if b then 1 else 0) rest.frozen_so,
  ap (λ (k : Known). k.pages) rest.rest,
)

-- with room for a plan a bank at rest is ready for it
plan-ready : (p : Plan) (config : ZoneConfig) (z b : ℕ) (known : Known) → IsAtRestSo (is_for_frozen p) known
    → IsReady (is_for_frozen p) (length (plan_calls p config)) (more_places 1 0 z b known)
plan-ready plan.Shape config z b known rest =
    record { frozen_so = rest.frozen_so; entries = omega (arith, (rest-entries false known rest).0); pages = refl }
plan-ready plan.Wipe config z b known rest =
    record { frozen_so = rest.frozen_so; entries = omega (arith, (rest-entries false known rest).0); pages = refl }
plan-ready plan.ThawAndWipe config z b known rest =
    record { frozen_so = rest.frozen_so; entries = omega (arith, (rest-entries true known rest).0); pages = refl }

-- and what it leaves is at rest
plan-rests : (p : Plan) (config : ZoneConfig) (z b : ℕ) (known : Known) → IsAtRestSo (is_for_frozen p) known
    → calls_made (plan_calls p config) z b (more_places 1 0 z b known) ≡ at_rest (with_calls b known.history (plan_calls p config))
plan-rests p config z b known rest =
    let calls = plan_calls p config in
    let places : (known.entries + 1) - length calls ≡ 0 = counts p known rest in
    let pages : 0 - pages_wanted calls ≡ 0 = omega arith in
    let thawed : is_frozen (with_calls b known.history calls) ≡ false = plan-thaws p config b known.history rest.frozen_so in
    ap (λ n. record { history = with_calls b known.history calls; entries = n; pages = 0 - pages_wanted calls }) places
    ∙ ap (λ n. record { history = with_calls b known.history calls; entries = 0; pages = n }) pages
    ∙ ap (λ (f : Bool). record { history = with_calls b known.history calls; entries = (if f then 1 else 0); pages = 0 }) (sym thawed)
  where
    counts : (p : Plan) (known : Known) → IsAtRestSo (is_for_frozen p) known → (known.entries + 1) - length (plan_calls p config) ≡ 0
    counts plan.Shape known rest = omega (arith, (rest-entries false known rest).0)
    counts plan.Wipe known rest = omega (arith, (rest-entries false known rest).0)
    counts plan.ThawAndWipe known rest = omega (arith, (rest-entries true known rest).0)

-- ---- the refusal

-- what a plan wants in a zone is one place
wanted-one : (p : Plan) (config : ZoneConfig) (zone : ℕ) (known : ℕ → Known) → wanted_refusal zone known (λ bank. plan_calls p config) ≡ zone_refusal zone known 1 0
wanted-one plan.Shape config zone known = refl
wanted-one plan.Wipe config zone known = refl
wanted-one plan.ThawAndWipe config zone known = refl

wanted-where : (o : Option ZoneConfig) (config : ZoneConfig) (p : Plan) (zone : ℕ) (known : ℕ → Known) → o ≡ Some config
    → wanted_refusal zone known (λ bank. plan_where o p) ≡ zone_refusal zone known 1 0
wanted-where o config p zone known is = ap (λ o. wanted_refusal zone known (λ bank. plan_where o p)) is ∙ wanted-one p config zone known

wanted-nowhere : (o : Option ZoneConfig) (p : Plan) (zone : ℕ) (known : ℕ → Known) → o ≡ None → wanted_refusal zone known (λ bank. plan_where o p) ≡ None
wanted-nowhere o p zone known is = ap (λ o. wanted_refusal zone known (λ bank. plan_where o p)) is

due-behind : (x : Option Refusal) (xs ys : List (Option Refusal)) → first_due xs ≡ first_due ys → first_due (x ∷ xs) ≡ first_due (x ∷ ys)
due-behind None xs ys same = same
due-behind (Some why) xs ys same = refl

-- zones that want nothing are passed over
due-short : (f g : ℕ → Option Refusal) (from count total : ℕ) → count ≤ total → ((i : ℕ) → from ≤ i → i < from + count → f i ≡ g i)
    → ((i : ℕ) → from + count ≤ i → i < from + total → f i ≡ None)
    → first_due (map f (range_with_len from total)) ≡ first_due (map g (range_with_len from count))
due-short f g from zero zero few same none = refl
due-short f g from zero (suc total) few same none =
    rw (none from (omega arith) (omega arith))
    (due-short f g (from + 1) zero total (omega arith) (λ i above below. absurd (omega (arith, above, below))) (λ i above below. none i (omega (arith, above)) (omega (arith, below))))
due-short f g from (suc count) zero few same none = absurd (omega (arith, few))
due-short f g from (suc count) (suc total) few same none =
    ap (λ x. first_due (x ∷ map f (range_with_len (from + 1) total))) (same from (omega arith) (omega arith))
    ∙ due-behind (g from) (map f (range_with_len (from + 1) total)) (map g (range_with_len (from + 1) count))
    (due-short f g (from + 1) count total (omega (arith, few)) (λ i above below. same i (omega (arith, above)) (omega (arith, below)))
    (λ i above below. none i (omega (arith, above)) (omega (arith, below))))

some-below : {A : Type 0} (xs : List A) (i : ℕ) → i < length xs → (x : A) × (slice_get xs i ≡ Some x)
some-below [] i within = absurd (omega (arith, within))
some-below (x ∷ xs) zero within = (x, refl)
some-below (x ∷ xs) (suc i) within = some-below xs i (omega (arith, within))

none-above : {A : Type 0} (xs : List A) (i : ℕ) → length xs ≤ i → slice_get xs i ≡ None
none-above [] i above = refl
none-above (x ∷ xs) zero above = absurd (omega (arith, above))
none-above (x ∷ xs) (suc i) above = none-above xs i (omega (arith, above))

above-none : {A : Type 0} (xs : List A) (i : ℕ) → slice_get xs i ≡ None → length xs ≤ i
above-none [] i e = omega arith
above-none (x ∷ xs) zero e = absurd (cc e)
above-none (x ∷ xs) (suc i) e = let rest : length xs ≤ i = above-none xs i e in omega (arith, rest)

pub plan-due : (m : Machine) (configs : List ZoneConfig) (p : Plan) (places : ℕ) (known : ℕ → ℕ → Known) → configs ≡ zones_of m → length configs ≤ most_zones → places ≡ 1
    → refusal_below (length configs) places 0 known ≡ plan_refusal m p known
plan-due m configs p places known e few one =
    ap (λ n. refusal_below (length configs) n 0 known) one
    ∙ sym (due-short (λ z. wanted_refusal z (known z) (λ bank. plan_where (slice_get configs z) p)) (λ z. zone_refusal z (known z) 1 0) 0 (length configs) most_zones few
    (λ z above below. let some = some-below configs z (omega (arith, below)) in wanted-where (slice_get configs z) some.0 p z (known z) some.1)
    (λ z above below. wanted-nowhere (slice_get configs z) p z (known z) (none-above configs z (omega (arith, above)))))
    ∙ ap (λ (zones : List ZoneConfig). first_due (map (λ z. wanted_refusal z (known z) (λ bank. plan_where (slice_get zones z) p)) (range_with_len 0 most_zones))) e

-- ---- the whole

-- of a bank that is as before nothing is seen
pub sees-same : (before after : Known) → after ≡ before → OnlySeesMore [] before after
sees-same before after same =
    let history : after.history ≡ before.history = ap (λ (k : Known). k.history) same in
    (([], refl, history ∙ sym (append-nil before.history)), same ∙ ap (λ (h : List BankEntry). record before { history = h }) (sym history))

-- zones with room for a plan are ready for it
pub all-ready : (m : Machine) (configs : List ZoneConfig) (p : Plan) (places : ℕ) (before room : ℕ → ℕ → Known) (answer : Result (Unit {0}) Refusal) (due : Option Refusal)
    → configs ≡ zones_of m → length configs ≤ most_zones → places ≡ 1 → AreAtRest (is_for_frozen p) m before → is_ok answer ≡ true
    → HasRoom (is_in_zone_below (length configs)) places 0 due before room answer
    → (z b : ℕ) → z < length configs → b < banks → IsReady (is_for_frozen p) (length (plan_where (slice_get configs z) p)) (room z b)
all-ready m configs p places before room (Err why) due e few one rest well given z b below bank = absurd (cc well)
all-ready m configs p places before room (Ok done) due e few one rest well given z b below bank =
    let some = some-below configs z below in
    let same : room z b ≡ more_places places 0 z b (before z b) =
    zone-reached z (length configs) b (more_places places 0) before room (omega (arith, below, few), bank) below given.left in
    let as_one : room z b ≡ more_places 1 0 z b (before z b) = same ∙ ap (λ n. more_places n 0 z b (before z b)) one in
    let at_rest_so = rest z b (omega (arith, below, ap length e)) bank in
    subst (λ o. IsReady (is_for_frozen p) (length (plan_where o p)) (room z b)) (sym some.1)
    (subst (λ (k : Known). IsReady (is_for_frozen p) (length (plan_calls p some.0)) k) (sym as_one) (plan-ready p some.0 z b (before z b) at_rest_so))

-- what is left behind a plan, in a bank
plan-here : (m : Machine) (configs : List ZoneConfig) (p : Plan) (places : ℕ) (before room after : ℕ → ℕ → Known) (z b : ℕ)
    → configs ≡ zones_of m → places ≡ 1 → AreAtRest (is_for_frozen p) m before → IsBank z b
    → AreChanged (is_in_zone_below (length configs)) (more_places places 0) before room → AreChanged (is_in_zone_below (length configs)) (planned configs p) room after
    → IsLeft (slice_get (zones_of m) z) [] b (before z b) (plan_where (slice_get (zones_of m) z) p) (after z b)
plan-here m configs p places before room after z b e one rest is given made = by (slice_get (zones_of m) z) refl
  where
    left : Option ZoneConfig → Type 0
    left o = IsLeft o [] b (before z b) (plan_where o p) (after z b)

    count : length configs ≡ length (zones_of m)
    count = ap length e

    by : (o : Option ZoneConfig) → slice_get (zones_of m) z ≡ o → left (slice_get (zones_of m) z)
    by None nothing =
        let above : length configs ≤ z = omega (arith, count, above-none (zones_of m) z nothing) in
        subst left (sym nothing) (sees-same (before z b) (after z b)
        (zone-not-reached z (length configs) b (planned configs p) room after is above made
        ∙ zone-not-reached z (length configs) b (more_places places 0) before room is above given))
    by (Some config) here =
        let below : z < length configs = omega (arith, count, slice_get_within (zones_of m) z config here) in
        let same : slice_get configs z ≡ Some config = ap (λ (zones : List ZoneConfig). slice_get zones z) e ∙ here in
        let behind : after z b ≡ at_rest (with_calls b (before z b).history (plan_calls p config)) =
        zone-reached z (length configs) b (planned configs p) room after is below made
        ∙ ap (λ o. calls_made (plan_where o p) z b (room z b)) same
        ∙ ap (calls_made (plan_calls p config) z b) (zone-reached z (length configs) b (more_places places 0) before room is below given
        ∙ ap (λ n. more_places n 0 z b (before z b)) one)
        ∙ plan-rests p config z b (before z b) (rest z b (omega (arith, below, count)) is.1) in
        let history : (after z b).history ≡ with_calls b (before z b).history (plan_calls p config) = ap (λ (k : Known). k.history) behind in
        subst left (sym here) (
          subst (λ (h : List BankEntry). AreMade [] b (before z b).history (plan_calls p config) h) (sym history)
              (with-calls-made b (before z b).history (plan_calls p config)),
          behind ∙ ap at_rest (sym history),
        )

-- in every bank
pub plan-left : (m : Machine) (configs : List ZoneConfig) (p : Plan) (places : ℕ) (before room after : ℕ → ℕ → Known) (answer : Result (Unit {0}) Refusal) (due : Option Refusal)
    → configs ≡ zones_of m → places ≡ 1 → AreAtRest (is_for_frozen p) m before → is_ok answer ≡ true
    → HasRoom (is_in_zone_below (length configs)) places 0 due before room answer → AreChanged (is_in_zone_below (length configs)) (planned configs p) room after
    → MatchResult answer (λ _. HaveThePlan m p before after) (λ _. AreAsBefore before after)
plan-left m configs p places before room after (Err why) due e one rest well given made = absurd (cc well)
plan-left m configs p places before room after (Ok done) due e one rest well given made =
    λ z b is. plan-here m configs p places before room after z b e one rest is given.left made
