-- The values of a name, one field after another, and what they announce.
use Rattle.std.proofs.Common.{◌≡◌, ℕ, ◌<◌, true, false, cond, List, ◌∷◌, ◌++◌, map, filter, ◌+◌, length, get_or, drop, Option, Some, None, is_some, option_to_list, option_copied, Bor, refl, sym, ap, ◌∙◌, add-one}
use Rattle.std.proofs.Math.Seq.{drop-cons}
use Rattle.httparse.specs.declared.spans.HeaderSpan.{HeaderSpan}
use Rattle.httparse.specs.Spans.{header_bytes}
use Rattle.chv_defs_api.specs.Requests.{Field, is_named, values, announced_length}

values_cons : (name : List ℕ) (field : Field) (fields : List Field)
    → values name (field ∷ fields) ≡ cond (is_named name field) (field.1 ∷ values name fields) (values name fields)
values_cons name field fields =
    elim (is_named name field) as (λ b. map (λ f. f.1) (cond b (field ∷ filter (is_named name) fields) (filter (is_named name) fields))
    ≡ cond b (field.1 ∷ values name fields) (values name fields)) [ true ↦ refl | false ↦ refl ]

-- a field of the name gives its value
pub values_more : (name head : List ℕ) (fields : List HeaderSpan) (i : ℕ) (d : HeaderSpan) → i < length fields
    → is_named name (header_bytes head (get_or fields i d)) ≡ true
    → values name (map (header_bytes head) (drop i fields))
    ≡ (header_bytes head (get_or fields i d)).1 ∷ values name (map (header_bytes head) (drop (i + 1) fields))
values_more name head fields i d below named =
    rw (add-one, drop-cons fields i d) (values_cons name _ _ ∙ rw named refl)

-- and another field gives none
pub values_same : (name head : List ℕ) (fields : List HeaderSpan) (i : ℕ) (d : HeaderSpan) → i < length fields
    → is_named name (header_bytes head (get_or fields i d)) ≡ false
    → values name (map (header_bytes head) (drop i fields)) ≡ values name (map (header_bytes head) (drop (i + 1) fields))
values_same name head fields i d below other =
    rw (add-one, drop-cons fields i d) (values_cons name _ _ ∙ rw other refl)

-- a second value leaves no length
pub second_value : (found : Option (Bor (List ℕ))) (all rest more : List (List ℕ)) (value : List ℕ) → true ≡ is_some found
    → all ≡ option_to_list (option_copied found) ++ rest → rest ≡ value ∷ more
    → ◌≡◌ {A = Option ℕ} None (announced_length all)
second_value (Some first) all rest more value some is next = sym (ap announced_length (is ∙ ap (λ r. first.now ∷ r) next))
second_value None all rest more value some is next = cc

-- the first value is found
pub first_value : (found : Option (Bor (List ℕ))) (all rest more : List (List ℕ)) (value shown : List ℕ)
    → false ≡ is_some found → all ≡ option_to_list (option_copied found) ++ rest → rest ≡ value ∷ more → shown ≡ value
    → all ≡ shown ∷ more
first_value (Some first) all rest more value shown none is next same = cc
first_value None all rest more value shown none is next same = is ∙ next ∙ ap (λ v. v ∷ more) (sym same)
