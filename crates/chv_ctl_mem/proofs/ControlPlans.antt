-- The plan of a control call: it is refused as the call is, and leaves what the call asks for; and a call without a plan asks for
-- nothing.
use Rattle.std.proofs.Common.{◌≡◌, ℕ, ◌+◌, ◌*◌, zero, suc, Bool, true, false, List, [], ◌∷◌, map, Option, None, Some, Result, Ok, Err, refl, sym, ◌∙◌, ap, subst}
use Rattle.std.specs.Prelude.{◌==◌, ◌&&◌, slice_get, if◌then◌else◌, IfOk, MatchResult}
use Rattle.std.specs.List.{range_with_len}
use Rattle.std.proofs.lemmas.Option.{slice_get_within}
use Rattle.chv_defs_api.specs.declared.config.ZoneConfig.{ZoneConfig}
use Rattle.chv_defs_api.specs.declared.control.ControlCall.{ControlCall}
use Rattle.chv_defs_api.specs.declared.control.ControlCall.TheVariants as control
use Rattle.chv_defs_api.specs.declared.control.ControlReply.{ControlReply}
use Rattle.chv_defs_api.specs.declared.control.ControlReply.TheVariants as reply
use Rattle.chv_defs_api.specs.declared.control.Goal.TheVariants as goal
use Rattle.chv_defs_control.specs.declared.machine.Machine.{Machine}
use Rattle.chv_defs_control.specs.ApiStep.{is_paused}
use Rattle.chv_defs_base.specs.declared.book.Full.{Full}
use Rattle.chv_defs_control.specs.FullBooks.{book_in}
use Rattle.chv_defs_control.specs.OwnerCalls.{calls_in, calls_where, owner_calls, room_refusal_for, zones_of, HaveTheCalls, IsLeft}
use Rattle.chv_defs_memory.specs.declared.bank.BankCall.{BankCall}
use Rattle.chv_defs_memory.specs.declared.bank.BankCall.TheVariants as call
use Rattle.chv_defs_memory.specs.declared.bank.Refusal.{Refusal}
use Rattle.chv_defs_memory.specs.BankBook.{full, passes_limit, refused_or, room_refusal}
use Rattle.chv_defs_memory.specs.BankState.{banks}
use Rattle.chv_defs_memory.specs.MadeCalls.{greatest, most_in_zone, pages_wanted, places_wanted, wanted_refusal, AreMade, IsAtRest}
use Rattle.chv_defs_memory.specs.Zones.{book_of, first_due, most_zones, zone_refusal, Known}
use Rattle.chv_defs_memory.proofs.ZoneLaws.{first-due-none, map-range-same}
use Rattle.chv_ctl_mem.specs.declared.plan.Plan.{Plan}
use Rattle.chv_ctl_mem.specs.declared.plan.Plan.TheVariants as plan
use Rattle.chv_ctl_mem.specs.BankChanges.{plan_calls, plan_where}
use Rattle.chv_ctl_mem.specs.Plans.{plan_for, plan_refusal, wipe_for, HaveThePlan, IsOnlyFull}
use Rattle.chv_ctl_mem.specs.ZoneCalls.{unless_full, AreAsBefore, AreAtRest}
use Rattle.chv_ctl_mem.proofs.CallSteps.{with-calls-made}
use Rattle.chv_ctl_mem.proofs.PlanSteps.{sees-same}

-- The calls that a control call, answered so, stands for are those of a plan.
pub record IsPlanOf (m : Machine) (c : ControlCall) (r : ControlReply) (p : Plan) : Type 0 where
  pub same : (config : ZoneConfig) (zone bank : ℕ) → calls_in m config zone bank c r ≡ plan_calls p config

where-same : (m : Machine) (c : ControlCall) (r : ControlReply) (p : Plan) → IsPlanOf m c r p → (o : Option ZoneConfig) (zone bank : ℕ)
    → calls_where o m zone bank c r ≡ plan_where o p
where-same m c r p is None zone bank = refl
where-same m c r p is (Some config) zone bank = is.same config zone bank

wanted-same : (o : Option ZoneConfig) (m : Machine) (c : ControlCall) (r : ControlReply) (p : Plan) → IsPlanOf m c r p → (zone : ℕ) (known : ℕ → Known)
    → wanted_refusal zone known (λ bank. plan_where o p) ≡ wanted_refusal zone known (λ bank. calls_where o m zone bank c r)
wanted-same o m c r p is zone known =
    let places : most_in_zone (λ bank. places_wanted (plan_where o p)) ≡ most_in_zone (λ bank. places_wanted (calls_where o m zone bank c r)) =
    ap greatest (map-range-same (λ bank. places_wanted (plan_where o p)) (λ bank. places_wanted (calls_where o m zone bank c r)) 0 banks
    (λ bank below. ap places_wanted (sym (where-same m c r p is o zone bank)))) in
    let pages : most_in_zone (λ bank. pages_wanted (plan_where o p)) ≡ most_in_zone (λ bank. pages_wanted (calls_where o m zone bank c r)) =
    ap greatest (map-range-same (λ bank. pages_wanted (plan_where o p)) (λ bank. pages_wanted (calls_where o m zone bank c r)) 0 banks
    (λ bank below. ap pages_wanted (sym (where-same m c r p is o zone bank)))) in
    ap (λ n. if n == 0 && most_in_zone (λ bank. pages_wanted (plan_where o p)) == 0 then None
    else zone_refusal zone known n (most_in_zone (λ bank. pages_wanted (plan_where o p)))) places
    ∙ ap (λ n. if most_in_zone (λ bank. places_wanted (calls_where o m zone bank c r)) == 0 && n == 0 then None
    else zone_refusal zone known (most_in_zone (λ bank. places_wanted (calls_where o m zone bank c r))) n) pages

-- what it is refused
pub refusal-same : (m : Machine) (c : ControlCall) (r : ControlReply) (p : Plan) (known : ℕ → ℕ → Known) → IsPlanOf m c r p → plan_refusal m p known ≡ room_refusal_for m c r known
refusal-same m c r p known is =
    ap first_due (map-range-same (λ zone. wanted_refusal zone (known zone) (λ bank. plan_where (slice_get (zones_of m) zone) p))
    (λ zone. wanted_refusal zone (known zone) (owner_calls m c r zone)) 0 most_zones
    (λ zone below. wanted-same (slice_get (zones_of m) zone) m c r p is zone (known zone)))

left-calls : (o : Option ZoneConfig) (bank : ℕ) (before after : Known) (calls other : List BankCall) → other ≡ calls → IsLeft o [] bank before calls after → IsLeft o [] bank before other after
left-calls o bank before after calls other same left = subst (λ (cs : List BankCall). IsLeft o [] bank before cs after) (sym same) left

-- and what it leaves
pub left-same : (m : Machine) (c : ControlCall) (r : ControlReply) (p : Plan) (before after : ℕ → ℕ → Known) → IsPlanOf m c r p → HaveThePlan m p before after → HaveTheCalls [] m c r before after
left-same m c r p before after is have zone bank there =
    left-calls (slice_get (zones_of m) zone) bank (before zone bank) (after zone bank) (plan_where (slice_get (zones_of m) zone) p)
    (owner_calls m c r zone bank) (where-same m c r p is (slice_get (zones_of m) zone) zone bank) (have zone bank there)

-- answered so
pub answer-same : {E : Type 0} (m : Machine) (c : ControlCall) (r : ControlReply) (p : Plan) (before after : ℕ → ℕ → Known) (answer : Result (Result (Unit {0}) Refusal) E) → IsPlanOf m c r p
    → IfOk answer (λ a. a ≡ refused_or (plan_refusal m p before) (tt {0})) → IfOk answer (λ a. a ≡ refused_or (room_refusal_for m c r before) (tt {0}))
answer-same m c r p before after (Ok a) is h = h ∙ ap (λ due. refused_or due (tt {0})) (refusal-same m c r p before is)
answer-same m c r p before after (Err e) is h = h

called-so : (m : Machine) (c : ControlCall) (r : ControlReply) (p : Plan) (before after : ℕ → ℕ → Known) (a : Result (Unit {0}) Refusal) → IsPlanOf m c r p
    → MatchResult a (λ _. HaveThePlan m p before after) (λ _. AreAsBefore before after) → MatchResult a (λ _. HaveTheCalls [] m c r before after) (λ _. AreAsBefore before after)
called-so m c r p before after (Ok done) is h = left-same m c r p before after is h
called-so m c r p before after (Err why) is h = h

pub called-same : {E : Type 0} (m : Machine) (c : ControlCall) (r : ControlReply) (p : Plan) (before after : ℕ → ℕ → Known) (answer : Result (Result (Unit {0}) Refusal) E) → IsPlanOf m c r p
    → IfOk answer (λ a. MatchResult a (λ _. HaveThePlan m p before after) (λ _. AreAsBefore before after))
    → IfOk answer (λ a. MatchResult a (λ _. HaveTheCalls [] m c r before after) (λ _. AreAsBefore before after))
called-same m c r p before after (Ok a) is h = called-so m c r p before after a is h
called-same m c r p before after (Err e) is h = h

pub boot-plan : (m : Machine) → IsPlanOf m control.Boot reply.Done plan.Shape
boot-plan m = record { same = λ config zone bank. refl }

wipe-calls : (paused : Bool) (config : ZoneConfig)
    → (if paused then call.Thaw ∷ call.Wipe ∷ [] else call.Wipe ∷ []) ≡ plan_calls (if paused then plan.ThawAndWipe else plan.Wipe) config
wipe-calls true config = refl
wipe-calls false config = refl

pub wipe-plan : (m : Machine) (p : Plan) → p ≡ wipe_for m.life → IsPlanOf m (control.Begin goal.Delete) reply.Done p
wipe-plan m p is = record { same = λ config zone bank. wipe-calls (is_paused m.life) config ∙ ap (λ (q : Plan). plan_calls q config) (sym is) }

some-is : (p q : Plan) → Some p ≡ Some q → q ≡ p
some-is p q same = cc

-- the plan of a control call has its calls
pub for-calls : (m : Machine) (c : ControlCall) (r : ControlReply) (p : Plan) → plan_for m.life c r ≡ Some p → IsPlanOf m c r p
for-calls m control.Boot reply.Done p is = record { same = λ config zone bank. ap (λ (q : Plan). plan_calls q config) (sym (some-is plan.Shape p is)) }
for-calls m (control.Begin goal.Shutdown) reply.Done p is = record {
  same = λ config zone bank. wipe-calls (is_paused m.life) config ∙ ap (λ (q : Plan). plan_calls q config) (sym (some-is (wipe_for m.life) p is));
}
for-calls m (control.Begin goal.Delete) reply.Done p is = record {
  same = λ config zone bank. wipe-calls (is_paused m.life) config ∙ ap (λ (q : Plan). plan_calls q config) (sym (some-is (wipe_for m.life) p is));
}
for-calls m c r p is = absurd (cc is)

-- ---- a control call without a plan

-- it stands for no calls
for-none : (m : Machine) (c : ControlCall) (r : ControlReply) (config : ZoneConfig) (zone bank : ℕ) → plan_for m.life c r ≡ None → calls_in m config zone bank c r ≡ []
for-none m control.Boot reply.Done config zone bank is = absurd (cc is)
for-none m (control.Begin goal.Shutdown) reply.Done config zone bank is = absurd (cc is)
for-none m (control.Begin goal.Delete) reply.Done config zone bank is = absurd (cc is)
for-none m c r config zone bank is = refl

where-none : (o : Option ZoneConfig) (m : Machine) (c : ControlCall) (r : ControlReply) (zone bank : ℕ) → plan_for m.life c r ≡ None → calls_where o m zone bank c r ≡ []
where-none None m c r zone bank is = refl
where-none (Some config) m c r zone bank is = for-none m c r config zone bank is

wanted-none : (zone : ℕ) (known : ℕ → Known) (calls : ℕ → List BankCall) → ((bank : ℕ) → calls bank ≡ []) → wanted_refusal zone known calls ≡ None
wanted-none zone known calls none =
    let places : most_in_zone (λ bank. places_wanted (calls bank)) ≡ 0 =
    ap greatest (map-range-same (λ bank. places_wanted (calls bank)) (λ bank. 0) 0 banks (λ bank below. ap places_wanted (none bank))) in
    let pages : most_in_zone (λ bank. pages_wanted (calls bank)) ≡ 0 =
    ap greatest (map-range-same (λ bank. pages_wanted (calls bank)) (λ bank. 0) 0 banks (λ bank below. ap pages_wanted (none bank))) in
    ap (λ n. if n == 0 && most_in_zone (λ bank. pages_wanted (calls bank)) == 0 then None else zone_refusal zone known n (most_in_zone (λ bank. pages_wanted (calls bank)))) places
    ∙ ap (λ n. if 0 == 0 && n == 0 then None else zone_refusal zone known 0 n) pages

-- it wants no room
pub none-due : (m : Machine) (c : ControlCall) (r : ControlReply) (known : ℕ → ℕ → Known) → plan_for m.life c r ≡ None → room_refusal_for m c r known ≡ None
none-due m c r known is =
    first-due-none (λ zone. wanted_refusal zone (known zone) (owner_calls m c r zone)) most_zones
    (λ zone below. wanted-none zone (known zone) (owner_calls m c r zone) (λ bank. where-none (slice_get (zones_of m) zone) m c r zone bank is))

none-left : (o : Option ZoneConfig) (bank : ℕ) (known : Known) (calls : List BankCall) → calls ≡ [] → IsAtRest known → IsLeft o [] bank known calls known
none-left None bank known calls none rest = sees-same known known refl
none-left (Some config) bank known calls none rest =
    (subst (λ (cs : List BankCall). AreMade [] bank known.history cs known.history) (sym none) (with-calls-made bank known.history []), rest)

none-here : (o : Option ZoneConfig) (m : Machine) (c : ControlCall) (r : ControlReply) (zone bank : ℕ) (known : Known) → plan_for m.life c r ≡ None
    → ((config : ZoneConfig) → o ≡ Some config → IsAtRest known) → IsLeft o [] bank known (calls_where o m zone bank c r) known
none-here None m c r zone bank known is rest = sees-same known known refl
none-here (Some config) m c r zone bank known is rest =
    none-left (Some config) bank known (calls_where (Some config) m zone bank c r) (where-none (Some config) m c r zone bank is) (rest config refl)

-- and leaves all as it was
pub none-made : (m : Machine) (c : ControlCall) (r : ControlReply) (frozen : Bool) (known : ℕ → ℕ → Known) → plan_for m.life c r ≡ None → AreAtRest frozen m known
    → HaveTheCalls [] m c r known known
none-made m c r frozen known is rest zone bank there =
    none-here (slice_get (zones_of m) zone) m c r zone bank (known zone bank) is
    (λ config here. (rest zone bank (slice_get_within (zones_of m) zone config here) there.1).rest)

-- ---- a book that is full

zone-only-full : (zone : ℕ) (known : ℕ → Known) (entries pages from count : ℕ)
    → IsOnlyFull (refused_or (first_due (map (λ bank. room_refusal (book_of zone bank (known bank)) entries pages) (range_with_len from count))) (tt {0}))
zone-only-full zone known entries pages from zero = tt
zone-only-full zone known entries pages from (suc count) =
    go (passes_limit (book_of zone from (known from)) entries (pages * 4096)) (zone-only-full zone known entries pages (from + 1) count)
  where
    go : (b : Bool) → IsOnlyFull (refused_or (first_due (map (λ bank. room_refusal (book_of zone bank (known bank)) entries pages) (range_with_len (from + 1) count))) (tt {0}))
        → IsOnlyFull (refused_or (first_due ((if b then Some (full (book_of zone from (known from))) else None)
        ∷ map (λ bank. room_refusal (book_of zone bank (known bank)) entries pages) (range_with_len (from + 1) count))) (tt {0}))
    go true rest = tt
    go false rest = rest

behind-only-full : (x : Option Refusal) (xs : List (Option Refusal)) → IsOnlyFull (refused_or x (tt {0})) → IsOnlyFull (refused_or (first_due xs) (tt {0}))
    → IsOnlyFull (refused_or (first_due (x ∷ xs)) (tt {0}))
behind-only-full None xs here rest = rest
behind-only-full (Some why) xs here rest = here

wanted-only-full : (zone : ℕ) (known : ℕ → Known) (calls : ℕ → List BankCall) → IsOnlyFull (refused_or (wanted_refusal zone known calls) (tt {0}))
wanted-only-full zone known calls = go (most_in_zone (λ bank. places_wanted (calls bank)) == 0 && most_in_zone (λ bank. pages_wanted (calls bank)) == 0)
  where
    go : (b : Bool) → IsOnlyFull (refused_or (if b then None else zone_refusal zone known (most_in_zone (λ bank. places_wanted (calls bank))) (most_in_zone (λ bank. pages_wanted (calls bank)))) (tt {0}))
    go true = tt
    go false = zone-only-full zone known (most_in_zone (λ bank. places_wanted (calls bank))) (most_in_zone (λ bank. pages_wanted (calls bank))) 0 banks

plans-only-full : (m : Machine) (p : Plan) (known : ℕ → ℕ → Known) (from count : ℕ)
    → IsOnlyFull (refused_or (first_due (map (λ zone. wanted_refusal zone (known zone) (λ bank. plan_where (slice_get (zones_of m) zone) p)) (range_with_len from count))) (tt {0}))
plans-only-full m p known from zero = tt
plans-only-full m p known from (suc count) =
    behind-only-full (wanted_refusal from (known from) (λ bank. plan_where (slice_get (zones_of m) from) p)) _
    (wanted-only-full from (known from) (λ bank. plan_where (slice_get (zones_of m) from) p)) (plans-only-full m p known (from + 1) count)

-- room for a plan is refused in no other way
pub only-full : {E : Type 0} (m : Machine) (p : Plan) (known : ℕ → ℕ → Known) (answer : Result (Result (Unit {0}) Refusal) E)
    → IfOk answer (λ a. a ≡ refused_or (plan_refusal m p known) (tt {0})) → IfOk answer IsOnlyFull
only-full m p known (Ok a) is = subst IsOnlyFull (sym is) (plans-only-full m p known 0 most_zones)
only-full m p known (Err e) is = tt

-- the answer, with the book that is full
pub full-answer : {E : Type 0} (due other : Option Refusal) (result : Result (Result (Unit {0}) Full) E) → due ≡ other
    → IfOk result (λ r. r ≡ unless_full (book_in due)) → IfOk result (λ r. r ≡ unless_full (book_in other))
full-answer due other (Ok r) same is = is ∙ ap (λ d. unless_full (book_in d)) same
full-answer due other (Err e) same is = is
