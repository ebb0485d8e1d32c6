-- Bytes that are added one after another, and put on the way.
use Rattle.std.proofs.Common.{◌≡◌, ℕ, List, [], ◌++◌, length, take, drop, Option, None, Some, Result, Ok, Err, OnOk, OnErr, sym, ap, subst, ◌∙◌, arith, append_assoc, length-append, refl}
use Rattle.std.proofs.lemmas.List.{append-nil, take-append-drop}
use Rattle.std.proofs.Math.Seq.{take-append_seam}
use Rattle.std.proofs.lemmas.Result.{on_ok_weaker, on_err_weaker}
use Rattle.chv_io.proofs.Gained.{gains_join}
use Rattle.chv_io.specs.Outside.{Puts, Gains, GainsPart}
use Rattle.chv_trace.specs.Printing.{Adds, BreaksOff}

-- ---- what was put, in two parts

-- where bytes were put and the others are held, and then some of those are put
moved : (p i h x q j y : List ℕ) → p ++ i ≡ h ++ x → q ++ j ≡ i ++ y → (p ++ q) ++ j ≡ h ++ (x ++ y)
moved p i h x q j y first second = append_assoc p q j ∙ ap (λ l. p ++ l) second ∙ sym (append_assoc p i y) ∙ ap (λ l. l ++ y) first ∙ append_assoc h x y

pub adds_two : {a b c : Option (List ℕ)} {h i j xs ys : List ℕ} → Adds a h b i xs → Adds b i c j ys → Adds a h c j (xs ++ ys)
adds_two {a} {b} {c} {h} {i} {j} {xs} {ys} first second = record {
  put = first.put ++ second.put;
  gains = gains_join a b c first.put second.put first.gains second.gains;
  all = moved first.put i h xs second.put j ys first.all second.all;
}

breaks_later : {a b c : Option (List ℕ)} {h i xs ys : List ℕ} → Adds a h b i xs → BreaksOff b i c ys → BreaksOff a h c (xs ++ ys)
breaks_later {a} {b} {c} {h} {i} {xs} {ys} first second = record {
  put = first.put ++ second.put;
  lost = second.lost;
  gains = gains_join a b c first.put second.put first.gains second.gains;
  all = moved first.put i h xs second.put second.lost ys first.all second.all;
}

breaks_before : {a b : Option (List ℕ)} {h xs : List ℕ} → BreaksOff a h b xs → (ys : List ℕ) → BreaksOff a h b (xs ++ ys)
breaks_before {a} {b} {h} {xs} first ys = record {
  put = first.put;
  lost = first.lost ++ ys;
  gains = first.gains;
  all = sym (append_assoc first.put first.lost ys) ∙ ap (λ l. l ++ ys) first.all ∙ append_assoc h xs ys;
}

-- ---- at the end of a call

always_on_err : {T E P : Type 0} (result : Result T E) → P → OnErr result P
always_on_err (Ok x) p = tt
always_on_err (Err e) p = p

-- all was added, the last by this call
pub last_added : {T E : Type 0} (result : Result T E) {a b : Option (List ℕ)} {h i xs : List ℕ} (c : Option (List ℕ)) (j ys : List ℕ) → Adds a h b i xs → OnOk result (Adds b i c j ys) → (all : List ℕ) → xs ++ ys ≡ all → OnOk result (Adds a h c j all)
last_added result {a} {b} {h} {i} {xs} c j ys first second all same = on_ok_weaker result (λ s. subst (λ l. Adds a h c j l) same (adds_two first s)) second

-- the last was broken off in this call
pub last_broken : {T E : Type 0} (result : Result T E) {a b : Option (List ℕ)} {h i xs : List ℕ} (c : Option (List ℕ)) (ys : List ℕ) → Adds a h b i xs → OnErr result (BreaksOff b i c ys) → (all : List ℕ) → xs ++ ys ≡ all → OnErr result (BreaksOff a h c all)
last_broken result {a} {b} {h} {i} {xs} c ys first second all same = on_err_weaker result (λ s. subst (λ l. BreaksOff a h c l) same (breaks_later first s)) second

-- the first was broken off
pub first_broken : {T E : Type 0} (result : Result T E) {a b : Option (List ℕ)} {h xs : List ℕ} → BreaksOff a h b xs → (rest all : List ℕ) → xs ++ rest ≡ all → OnErr result (BreaksOff a h b all)
first_broken result {a} {b} {h} first rest all same = always_on_err result (subst (λ l. BreaksOff a h b l) same (breaks_before first rest))

-- the next was added
pub next_added : {a b c : Option (List ℕ)} {h i j xs ys : List ℕ} → Adds a h b i xs → Adds b i c j ys → (all : List ℕ) → xs ++ ys ≡ all → Adds a h c j all
next_added {a} {b} {c} {h} {i} {j} first second all same = subst (λ l. Adds a h c j l) same (adds_two first second)

-- one was broken off, after others
pub next_broken : {T E : Type 0} (result : Result T E) {a b c : Option (List ℕ)} {h i xs ys : List ℕ} → Adds a h b i xs → BreaksOff b i c ys → (rest all : List ℕ) → xs ++ ys ++ rest ≡ all → OnErr result (BreaksOff a h c all)
next_broken result first second rest all same = first_broken result (breaks_later first second) rest all same

-- ---- what is put

pub put_in_part : {E F G : Type 0} (T : Type 0) (result : Result F G) (e : E) (a b : Option (List ℕ)) (held bytes : List ℕ) → bytes ≡ held → Puts {T = T} {E = E} a b bytes (Err e) → OnErr result (BreaksOff a held b [])
put_in_part T result e None b held bytes same puts = always_on_err result (record { put = held; lost = []; gains = puts; all = refl })
put_in_part T result e (Some a) None held bytes same puts = absurd puts
put_in_part T result e (Some a) (Some b) held bytes same puts = always_on_err result (record {
  put = take puts.0 held;
  lost = drop puts.0 held;
  gains = puts.2 ∙ ap (λ l. a ++ take puts.0 l) same;
  all = take-append-drop puts.0 held ∙ sym (append-nil held);
})

-- ---- from nothing held

-- nothing was held, and nothing is
all_gained : {a b : Option (List ℕ)} {xs : List ℕ} → Adds a [] b [] xs → Gains a b xs
all_gained {a} {b} {xs} adds = subst (λ l. Gains a b l) (sym (append-nil adds.put) ∙ adds.all) adds.gains

part_gained : (a b : Option (List ℕ)) (put lost : List ℕ) → Gains a b put → GainsPart a b (put ++ lost)
part_gained None b put lost gains = gains
part_gained (Some a) None put lost gains = absurd gains
part_gained (Some a) (Some b) put lost gains = (length put, omega (arith, length-append put lost), gains ∙ ap (λ l. a ++ l) (sym (take-append_seam put lost)))

part_of_all : {a b : Option (List ℕ)} {h xs : List ℕ} → h ≡ [] → BreaksOff a h b xs → GainsPart a b xs
part_of_all {a} {b} {h} {xs} none broken = subst (λ l. GainsPart a b l) (broken.all ∙ ap (λ l. l ++ xs) none) (part_gained a b broken.put broken.lost broken.gains)

-- it was broken off before the last was put
pub broken_before : {T E : Type 0} (result : Result T E) {a b : Option (List ℕ)} {h xs : List ℕ} → h ≡ [] → BreaksOff a h b xs → OnErr result (GainsPart a b xs)
broken_before result none broken = always_on_err result (part_of_all none broken)

-- it was broken off as the last was put
pub broken_last : {T E : Type 0} (result : Result T E) {a b : Option (List ℕ)} {h i xs : List ℕ} (c : Option (List ℕ)) → h ≡ [] → Adds a h b i xs → OnErr result (BreaksOff b i c []) → OnErr result (GainsPart a c xs)
broken_last result {a} {b} {h} {i} {xs} c none first second = on_err_weaker result (λ s. part_of_all none (subst (λ l. BreaksOff a h c l) (append-nil xs) (breaks_later first s))) second

-- all was put
pub put_whole : {T E : Type 0} (result : Result T E) {a b : Option (List ℕ)} {h i xs : List ℕ} (c : Option (List ℕ)) (j : List ℕ) → h ≡ [] → Adds a h b i xs → OnOk result (Adds b i c j []) → OnOk result (j ≡ []) → OnOk result (Gains a c xs)
put_whole (Err e) c j none first second empty = tt
put_whole (Ok x) {a} {b} {h} {i} {xs} c j none first second empty =
    all_gained (subst (λ l. Adds a l c [] xs) none (subst (λ l. Adds a h c l xs) empty (subst (λ l. Adds a h c j l) (append-nil xs) (adds_two first second))))
