-- The lowest default id that is free.
use Rattle.std.proofs.Common.{◌≡◌, ℕ, ◌+◌, ◌<◌, ◌≤◌, ◌^◌, Bool, true, false, List, [], ◌∷◌, Option, None, Some, refl, sym, ◌∙◌, ap, arith, length, zero, suc, inl, inr, add-one}
use Rattle.std.specs.Prelude.{find, unwrap_or, not, ◌||◌, cond}
use Rattle.std.specs.List.{range_with_len}
use Rattle.std.specs.Str.{bytes_eq}
use Rattle.std.specs.Fmt.{decimal}
use Rattle.std.proofs.lemmas.Fmt.{decimal_injective}
use Rattle.std.proofs.lemmas.Slice.Eq.{bytes_eq-Decides}
use Rattle.std.proofs.lemmas.Bool.{false_from_ne_true, cases_order, cases_lt}
use Rattle.chv_defs_api.specs.ConfigRules.{has_text, is_free, lowest_free, default_id}
use Rattle.chv_config.proofs.Firsts.{find-range, IsFirstPassing}

-- where the numbers below k are used and k is free, the lowest free number is k
pub lowest_free-at : (ids : List (List ℕ)) (k : ℕ) → k < length ids → ((j : ℕ) → j < k → is_free ids j ≡ false) → is_free ids k ≡ true → lowest_free ids ≡ k
lowest_free-at ids k small below here = by (find (is_free ids) (range_with_len 0 (length ids))) (find-range (is_free ids) 0 (length ids))
  where
    by : (found : Option ℕ) → IsFirstPassing (is_free ids) 0 (length ids) found → unwrap_or found (length ids) ≡ k
    by None first = let used : is_free ids k ≡ false = first k (omega arith) (omega arith) in cc
    by (Some m) first = elim (cases_order m k) [
      | inl e ↦ e
      | inr apart ↦ (elim apart [
        | inl less ↦ (let used : is_free ids m ≡ false = below m less in let free : is_free ids m ≡ true = first.2 in cc)
        | inr more ↦ (let used : is_free ids k ≡ false = first.3 k (omega arith) more in cc)
      ])
    ]

-- where as many numbers as there are ids are used, the lowest free number is the next one
pub lowest_free-none : (ids : List (List ℕ)) → ((j : ℕ) → j < length ids → is_free ids j ≡ false) → lowest_free ids ≡ length ids
lowest_free-none ids below = by (find (is_free ids) (range_with_len 0 (length ids))) (find-range (is_free ids) 0 (length ids))
  where
    by : (found : Option ℕ) → IsFirstPassing (is_free ids) 0 (length ids) found → unwrap_or found (length ids) ≡ length ids
    by None first = refl
    by (Some m) first = let used : is_free ids m ≡ false = below m (omega arith) in let free : is_free ids m ≡ true = first.2 in cc

-- a default id that no device has is free
pub is_free-absent : (ids : List (List ℕ)) (id : List ℕ) (k : ℕ) → id ≡ default_id k → false ≡ has_text ids id → is_free ids k ≡ true
is_free-absent ids id k e h = ap not (ap (has_text ids) (sym e) ∙ sym h)

-- ---- as many texts as there are can be used, and no more

-- texts without one that is equal to t
abbrev pub erase : List ℕ → List (List ℕ) → List (List ℕ)
erase t [] = []
erase t (x ∷ xs) = cond (bytes_eq t x) xs (x ∷ erase t xs)

erase-length : (t : List ℕ) (xs : List (List ℕ)) → has_text xs t ≡ true → length (erase t xs) + 1 ≡ length xs
erase-length t [] h = cc
erase-length t (x ∷ xs) h = by (bytes_eq t x) h (erase-length t xs)
  where
    by : (b : Bool) → (b || has_text xs t) ≡ true → (has_text xs t ≡ true → length (erase t xs) + 1 ≡ length xs) → length (cond b xs (x ∷ erase t xs)) + 1 ≡ length (x ∷ xs)
    by true g f = omega arith
    by false g f = omega (arith, f g)

erase-keeps : (t q : List ℕ) (xs : List (List ℕ)) → bytes_eq q t ≡ false → has_text xs q ≡ true → has_text (erase t xs) q ≡ true
erase-keeps t q [] apart h = h
erase-keeps t q (x ∷ xs) apart h = by (bytes_eq t x) (bytes_eq q x) refl refl h (erase-keeps t q xs apart)
  where
    by : (b d : Bool) → bytes_eq t x ≡ b → bytes_eq q x ≡ d → (d || has_text xs q) ≡ true → (has_text xs q ≡ true → has_text (erase t xs) q ≡ true) → has_text (cond b xs (x ∷ erase t xs)) q ≡ true
    by true true e f g k =
        let same : t ≡ x = (bytes_eq-Decides t x).0 e in
        let other : bytes_eq q x ≡ false = ap (bytes_eq q) (sym same) ∙ apart in
        cc
    by true false e f g k = g
    by false true e f g k = rw f refl
    by false false e f g k = rw f (k g)

-- default ids of different numbers differ
default_id-apart : (j n : ℕ) → j < n → n < 2 ^ 64 → bytes_eq (default_id j) (default_id n) ≡ false
default_id-apart j n less small =
    false_from_ne_true (bytes_eq (default_id j) (default_id n)) (λ h.
    let same : j ≡ n = decimal_injective j n (omega arith) small ((bytes_eq-Decides (decimal j) (decimal n)).0 h) in
    absurd (omega (arith, same)))

-- where n default ids are used, there are at least n ids
used-le : (n : ℕ) (ids : List (List ℕ)) → n ≤ 2 ^ 64 → ((j : ℕ) → j < n → has_text ids (default_id j) ≡ true) → n ≤ length ids
used-le zero ids small used = omega arith
used-le (suc n) ids small used =
    let last : has_text ids (default_id n) ≡ true = used n (omega arith) in
    let rest : n ≤ length (erase (default_id n) ids) =
    used-le n (erase (default_id n) ids) (omega arith) (λ j less. erase-keeps (default_id n) (default_id j) ids (default_id-apart j n less (omega arith)) (used j (omega arith))) in
    omega (arith, erase-length (default_id n) ids last)

not_free : (b : Bool) → not b ≡ false → b ≡ true
not_free true h = refl
not_free false h = cc

-- the lowest free number is free, and each number below it is used
pub lowest_free-is : (ids : List (List ℕ)) → length ids < 2 ^ 64 → (is_free ids (lowest_free ids) ≡ true) × ((j : ℕ) → j < lowest_free ids → is_free ids j ≡ false)
lowest_free-is ids small = by (find (is_free ids) (range_with_len 0 (length ids))) (find-range (is_free ids) 0 (length ids))
  where
    next : ((j : ℕ) → j < length ids → is_free ids j ≡ false) → (b : Bool) → is_free ids (length ids) ≡ b → is_free ids (length ids) ≡ true
    next below true e = e
    next below false e =
        let all : length ids + 1 ≤ length ids = rw add-one (used-le (suc (length ids)) ids (omega arith) (λ j less. used j (omega arith))) in
        absurd (omega arith)
      where
        used : (j : ℕ) → j ≤ length ids → has_text ids (default_id j) ≡ true
        used j low = not_free (has_text ids (default_id j)) (elim (cases_lt j (length ids)) [ inl less ↦ below j less | inr more ↦ (let same : j ≡ length ids = omega arith in ap (is_free ids) same ∙ e) ])

    by : (found : Option ℕ) → IsFirstPassing (is_free ids) 0 (length ids) found → (is_free ids (unwrap_or found (length ids)) ≡ true) × ((j : ℕ) → j < unwrap_or found (length ids) → is_free ids j ≡ false)
    by None first = let below : (j : ℕ) → j < length ids → is_free ids j ≡ false = λ j less. first j (omega arith) (omega arith) in (next below (is_free ids (length ids)) refl, below)
    by (Some m) first = (first.2, λ j less. first.3 j (omega arith) less)
