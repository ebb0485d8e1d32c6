-- Calls of the owner that are made one after another in a bank.
use Rattle.std.proofs.Common.{◌≡◌, ℕ, ◌+◌, ◌-◌, ◌<◌, zero, suc, List, [], ◌∷◌, ◌++◌, length, take, get_or, refl, sym, ◌∙◌, ap, subst, arith}
use Rattle.std.proofs.lemmas.List.{append-nil, take_more}
use Rattle.std.proofs.lemmas.List.Sums.{sum_by-cons}
use Rattle.chv_defs_memory.specs.declared.bank.BankCall.{BankCall}
use Rattle.chv_defs_memory.specs.declared.bank.BankEntry.{BankEntry}
use Rattle.chv_defs_memory.specs.BankBook.{owner_reply, pages_used, with_entry}
use Rattle.chv_defs_memory.specs.MadeCalls.{pages_wanted, with_calls, AreMade}
use Rattle.chv_defs_memory.specs.Zones.{Known}
use Rattle.chv_ctl_mem.specs.BankChanges.{calls_made, is_in_zone, AreChanged, MayMake, MayMakeAll}
use Rattle.chv_ctl_mem.proofs.ChangeLaws.{changed-by, elsewhere, there}

-- none
pub made-none : (z b : ℕ) (known : Known) → calls_made [] z b known ≡ known
made-none z b known =
    let entries : known.entries - 0 ≡ known.entries = omega arith in
    let pages : known.pages - 0 ≡ known.pages = omega arith in
    ap (λ n. record known { entries = n; pages = known.pages - 0 }) entries ∙ ap (λ n. record known { pages = n }) pages

-- the first, and then the others
pub made-first : (c : BankCall) (calls : List BankCall) (z b : ℕ) (known : Known)
    → calls_made (c ∷ calls) z b known ≡ calls_made calls z b (calls_made (c ∷ []) z b known)
made-first c calls z b known =
    let entries : known.entries - suc (length calls) ≡ (known.entries - 1) - length calls = omega arith in
    let used : pages_wanted (c ∷ calls) ≡ pages_used c + pages_wanted calls = sum_by-cons pages_used c calls in
    let pages : known.pages - pages_wanted (c ∷ calls) ≡ (known.pages - (0 + pages_used c)) - pages_wanted calls = omega (arith, used) in
    ap (λ n. record (calls_made (c ∷ calls) z b known) { entries = n }) entries
    ∙ ap (λ n. record (calls_made (c ∷ calls) z b known) { entries = (known.entries - 1) - length calls; pages = n }) pages

-- the last, behind the others
pub made-last : (calls : List BankCall) (c : BankCall) (z b : ℕ) (known : Known)
    → calls_made (calls ++ c ∷ []) z b known ≡ calls_made (c ∷ []) z b (calls_made calls z b known)
made-last [] c z b known = ap (calls_made (c ∷ []) z b) (sym (made-none z b known))
made-last (d ∷ calls) c z b known =
    made-first d (calls ++ c ∷ []) z b known ∙ made-last calls c z b (calls_made (d ∷ []) z b known)
    ∙ ap (calls_made (c ∷ []) z b) (sym (made-first d calls z b known))

-- where all may be made, each may when its turn comes
pub may-at : (z b i : ℕ) (calls : List BankCall) (c : BankCall) (known : Known) → MayMakeAll b calls known → i < length calls → c ≡ get_or calls i c
    → MayMake b c (calls_made (take i calls) z b known)
may-at z b i [] c known may within is = absurd (omega (arith, within))
may-at z b zero (d ∷ calls) c known may within is =
    subst (λ (k : Known). MayMake b c k) (sym (made-none z b known)) (subst (λ (x : BankCall). MayMake b x known) (sym is) may.0)
may-at z b (suc i) (d ∷ calls) c known may within is =
    subst (λ (k : Known). MayMake b c k) (sym (made-first d (take i calls) z b known))
    (may-at z b i calls c (calls_made (d ∷ []) z b known) may.1 (omega (arith, within)) is)

-- in a zone
pub zone-begins : (zone : ℕ) (calls : List BankCall) (known : ℕ → ℕ → Known) → AreChanged (is_in_zone zone) (calls_made (take 0 calls)) known known
zone-begins zone calls known =
    changed-by (is_in_zone zone) (calls_made (take 0 calls)) known known (λ z b is holds. sym (made-none z b (known z b))) (λ z b is fails. refl)

pub zone-goes-on : (zone i : ℕ) (calls : List BankCall) (c : BankCall) (before now after : ℕ → ℕ → Known) → i < length calls → c ≡ get_or calls i c
    → AreChanged (is_in_zone zone) (calls_made (take i calls)) before now → AreChanged (is_in_zone zone) (calls_made (c ∷ [])) now after
    → AreChanged (is_in_zone zone) (calls_made (take (i + 1) calls)) before after
zone-goes-on zone i calls c before now after within is first second =
    let more : take (i + 1) calls ≡ take i calls ++ c ∷ [] =
    take_more calls i c within ∙ ap (λ (d : BankCall). take i calls ++ d ∷ []) (sym is) in
    changed-by (is_in_zone zone) (calls_made (take (i + 1) calls)) before after
    (λ z b bank holds. there (is_in_zone zone) (calls_made (c ∷ [])) now after z b second bank holds
    ∙ ap (calls_made (c ∷ []) z b) (there (is_in_zone zone) (calls_made (take i calls)) before now z b first bank holds)
    ∙ sym (made-last (take i calls) c z b (before z b)) ∙ ap (λ (cs : List BankCall). calls_made cs z b (before z b)) (sym more))
    (λ z b bank fails. elsewhere (is_in_zone zone) (calls_made (c ∷ [])) now after z b second bank fails
    ∙ elsewhere (is_in_zone zone) (calls_made (take i calls)) before now z b first bank fails)

-- with no context lent, calls are made behind all that there is
pub with-calls-made : (bank : ℕ) (before : List BankEntry) (calls : List BankCall) → AreMade [] bank before calls (with_calls bank before calls)
with-calls-made bank before [] = ([], refl, sym (append-nil before))
with-calls-made bank before (c ∷ calls) =
    let all : before ++ [] ≡ before = append-nil before in (
      [],
      refl,
      subst (λ (h : List BankEntry). AreMade [] bank (with_entry h 0 c (owner_reply bank h c)) calls (with_calls bank (with_entry before 0 c (owner_reply bank before c)) calls))
          (sym all) (with-calls-made bank (with_entry before 0 c (owner_reply bank before c)) calls),
    )
