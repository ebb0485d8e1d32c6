-- Digits without leading zeros: each number has one spelling in a base.
use Rattle.std.proofs.Common.{◌≡◌, ◌≤◌, ◌<◌, ◌^◌, ℕ, zero, suc, List, [], ◌∷◌, ◌++◌, ◌+◌, ◌-◌, ◌*◌, ◌/◌, ◌%◌, inl, inr, add-one, lit<, ◌==◌, ◌&&◌, ◌||◌, not, Bool, true, false, nat_lt, Some, length, slice_index, refl, sym, ap, ◌∙◌, append-nil, arith}
use Rattle.std.proofs.lemmas.Bool.{and_parts, and_from, or_cases, or_right, or_left, cond-true, cond-false, cond_both, cases_lt, cases_eq, eqb-true, eqb-false, ne_eqb, ltb-true, lt-ltb, not-true, not_from_false}
use Rattle.std.proofs.lemmas.Option.{cond_some}
use Rattle.std.proofs.lemmas.Nat.{div-mul-add, mod-mul-add, div_below, mod_below, div-add-mod'}
use Rattle.std.proofs.lemmas.Grind.{pow_more}
use Rattle.std.proofs.Math.Nat.{pow-le-pow_right}
use native.Mathlib.Numerals.{unary_clauses}
use Rattle.std.proofs.lemmas.Fmt.{digits_is_IsNumeral}
use Rattle.std.specs.Char.{digit_value}
use Rattle.std.specs.Fmt.{digits, digits_onto, digit_glyph}
use Rattle.std.specs.List.{list_all}
use Rattle.std.specs.Str.Parse.{digits_value, digits_value_after}
use Rattle.chv_num.proofs.Values.{le-times}
use Rattle.chv_defs_base.specs.Numbers.{are_digits, number_of}

-- what is known of a base and its digits
pub record IsBase (base : ℕ) (is_digit : ℕ → Bool) : Type 0 where
  pub low : 2 ≤ base
  pub high : base ≤ 16
  pub wide : 2 ^ 64 ≤ base ^ 64
  pub glyph : (d : ℕ) → d < base → is_digit (digit_glyph false d) ≡ true
  pub value : (c : ℕ) → is_digit c ≡ true → digit_value c < base
  pub same : (c : ℕ) → is_digit c ≡ true → digit_glyph false (digit_value c) ≡ c
  pub zero_text : digits base false 0 ≡ 48 ∷ []

-- only 0 is written as `0`
glyph_zero : (d : ℕ) → digit_glyph false d ≡ 48 → d ≡ 0
glyph_zero zero e = refl
glyph_zero (suc d) e = absurd (cond_both (nat_lt (suc d) 10) (48 + suc d) (87 + suc d) (λ g. g ≡ 48 → ⊥) (λ _ h. omega arith) (λ _ h. omega arith) e)

twice-le : (n b : ℕ) → 2 ≤ b → n * 2 ≤ n * b
twice-le n b h = grind arith

power : (x k : ℕ) → x ^ suc k ≡ x ^ k * x
power x k = rw add-one at (pow_more x k)

-- ---- what is written is digits

positive : {base : ℕ} {is_digit : ℕ → Bool} → IsBase base is_digit → 0 < base
positive b = omega (arith, b.low)

all_onto : {base : ℕ} {is_digit : ℕ → Bool} → IsBase base is_digit → (k n : ℕ) (acc : List ℕ) → list_all is_digit acc ≡ true → list_all is_digit (digits_onto k base false n acc) ≡ true
all_onto {base} {is_digit} b zero n acc h = h
all_onto {base} {is_digit} b (suc k) n acc h =
    let more : list_all is_digit (digit_glyph false (n % base) ∷ acc) ≡ true =
    and_from (is_digit (digit_glyph false (n % base))) (list_all is_digit acc) (b.glyph (n % base) (mod_below n base (positive b))) h in
    cond_both (n / base == 0) _ _ (λ ds. list_all is_digit ds ≡ true) (λ _. more) (λ _. all_onto b k (n / base) _ more)

no_zero : (base n : ℕ) → 0 < n → n / base ≡ 0 → n % base ≡ 0 → ⊥
no_zero base n pos q r = let total : 0 * base + n % base ≡ n = rw q at (div-add-mod' n base) in omega (arith, total, r)

first_onto : {base : ℕ} {is_digit : ℕ → Bool} → IsBase base is_digit → (k n : ℕ) (acc : List ℕ) → 0 < n → n < base ^ k → slice_index (digits_onto k base false n acc) 0 ≡ 48 → ⊥
first_onto {base} b zero n acc pos small e = let one = simp unary_clauses at small in absurd (omega (arith, one, pos))
first_onto {base} b (suc k) n acc pos small e =
    let within : n < base ^ k * base = rw (power base k) at small in
    cond_both (n / base == 0) _ _ (λ ds. slice_index ds 0 ≡ 48 → ⊥)
    (λ z h. no_zero base n pos (eqb-true (n / base) 0 z) (glyph_zero (n % base) h))
    (λ z h. let some = eqb-false (n / base) 0 z in first_onto b k (n / base) _ (omega arith) (div_below n base (base ^ k) (positive b) within) h)
    e

one_zero_at_most : {base : ℕ} {is_digit : ℕ → Bool} → IsBase base is_digit → (n : ℕ) → n < 2 ^ 64 → (length (digits base false n) == 1 || not (slice_index (digits base false n) 0 == 48)) ≡ true
unfolding digits
one_zero_at_most {base} b zero h = or_left _ _ (ap (λ t. length t == 1) b.zero_text)
one_zero_at_most {base} b (suc n) h =
    or_right _ _ (not_from_false _ (ne_eqb _ 48 (first_onto b 64 (suc n) [] (omega arith) (omega (arith, h, b.wide)))))

pub read_back : (base : ℕ) (is_digit : ℕ → Bool) → IsBase base is_digit → (n : ℕ) → n < 2 ^ 64 → number_of base is_digit (digits base false n) ≡ Some n
unfolding digits
read_back base is_digit b n h =
    let numeral = digits_is_IsNumeral base false b.low b.high n (omega (arith, h, b.wide)) in
    let small : digits_value base (digits base false n) < 2 ^ 64 = rw numeral.1 h in
    let tests = and_from _ _ (and_from _ _ (and_from _ _ (lt-ltb 0 (length (digits base false n)) numeral.0.0) (all_onto b 64 n [] refl)) (one_zero_at_most b n h)) (lt-ltb _ (2 ^ 64) small) in
    cond-true _ _ _ tests ∙ ap Some numeral.1

-- ---- what is read is written so

onto_step : (base k n d c : ℕ) (xs : List ℕ) → d < base → digit_glyph false d ≡ c → 0 < n → digits_onto (suc k) base false (n * base + d) xs ≡ digits_onto k base false n (c ∷ xs)
onto_step base k n d c xs below same pos =
    let some : n ≡ 0 → ⊥ = λ e. omega arith in
    rw (div-mul-add n base d below) (rw (mod-mul-add n base d below) (cond-false (n == 0) _ _ (ne_eqb n 0 some) ∙ ap (λ g. digits_onto k base false n (g ∷ xs)) same))

onto_first : (base k d c : ℕ) (xs : List ℕ) → d < base → digit_glyph false d ≡ c → digits_onto (suc k) base false (0 * base + d) xs ≡ c ∷ xs
onto_first base k d c xs below same =
    rw (div-mul-add 0 base d below) (rw (mod-mul-add 0 base d below) (ap (λ g. g ∷ xs) same))

onto_value : {base : ℕ} {is_digit : ℕ → Bool} → IsBase base is_digit → (cs : List ℕ) (m k n : ℕ) (acc : List ℕ) → m ≡ k + length cs → list_all is_digit cs ≡ true → 0 < n
    → digits_onto m base false (digits_value_after base n cs) acc ≡ digits_onto k base false n (cs ++ acc)
onto_value {base} {is_digit} b [] m k n acc e all pos = let same : m ≡ k = omega (arith, e) in ap (λ t. digits_onto t base false n acc) same
onto_value {base} {is_digit} b (c ∷ cs) m k n acc e all pos =
    let parts = and_parts (is_digit c) (list_all is_digit cs) all in
    onto_value b cs m (suc k) (n * base + digit_value c) acc (omega (arith, e)) parts.1 (omega (arith, le-times base n (positive b)))
    ∙ onto_step base k n (digit_value c) c (cs ++ acc) (b.value c parts.0) (b.same c parts.0) pos

grows : {base : ℕ} {is_digit : ℕ → Bool} → IsBase base is_digit → (cs : List ℕ) (j m n : ℕ) → m ≡ j + length cs → 2 ^ j ≤ n → 2 ^ m ≤ digits_value_after base n cs
grows {base} b [] j m n e h = let same : m ≡ j = omega (arith, e) in rw same h
grows {base} b (c ∷ cs) j m n e h =
    grows b cs (suc j) m (n * base + digit_value c) (omega (arith, e)) (omega (arith, power 2 j, twice-le n base b.low, h))

is_short : {base : ℕ} {is_digit : ℕ → Bool} → IsBase base is_digit → (cs : List ℕ) (n : ℕ) → 0 < n → digits_value_after base n cs < 2 ^ 64 → length cs < 64
is_short {base} b cs n pos small = elim (cases_lt (length cs) 64) [
  | inl h ↦ h
  | inr h ↦ (let one : 2 ^ zero ≡ 1 = refl in
      let large = grows b cs 0 (length cs) n (omega arith) (omega (arith, one, pos)) in
      let more = pow-le-pow_right {n = 2} (lit< tt) h in
      absurd (omega (arith, large, more, small)))
]

-- a text that begins with `0` is "0"
alone : (c : ℕ) (cs : List ℕ) → c ≡ 48 → (length (c ∷ cs) == 1 || not (c == 48)) ≡ true → length (c ∷ cs) ≡ 1
alone c cs is test =
    elim (or_cases (length (c ∷ cs) == 1) (not (c == 48)) test) [
      | inl one ↦ eqb-true (length (c ∷ cs)) 1 one
      | inr other ↦ absurd (eqb-false c 48 (not-true (c == 48) other) is)
    ]

zero_spelled : {base : ℕ} {is_digit : ℕ → Bool} → IsBase base is_digit → (c : ℕ) (cs : List ℕ) → c ≡ 48 → digit_value c ≡ 0 → length (c ∷ cs) ≡ 1 → c ∷ cs ≡ digits base false (digits_value base (c ∷ cs))
zero_spelled {base} b c [] is none one =
    let value : 0 * base + digit_value c ≡ 0 = omega (arith, none) in
    ap (λ d. d ∷ []) is ∙ (sym b.zero_text ∙ ap (digits base false) (sym value))
zero_spelled {base} b c (x ∷ xs) is none one = absurd (omega (arith, one))

text_spelled : {base : ℕ} {is_digit : ℕ → Bool} → IsBase base is_digit → (text : List ℕ) → nat_lt 0 (length text) ≡ true → list_all is_digit text ≡ true → (length text == 1 || not (slice_index text 0 == 48)) ≡ true
    → digits_value base text < 2 ^ 64 → text ≡ digits base false (digits_value base text)
unfolding digits
text_spelled {base} {is_digit} b [] some all test small = absurd (cc)
text_spelled {base} {is_digit} b (c ∷ cs) some all test small =
    let parts = and_parts (is_digit c) (list_all is_digit cs) all in
    elim (cases_eq (digit_value c) 0) [
      | inl none ↦ (let is : c ≡ 48 = sym (rw none at (b.same c parts.0)) in zero_spelled b c cs is none (alone c cs is test))
      | inr more ↦ (let pos : 0 < 0 * base + digit_value c = omega arith in
          let short = is_short b cs (0 * base + digit_value c) pos small in
          let room : 64 ≡ suc (63 - length cs) + length cs = omega (arith, short) in
          sym (onto_value b cs 64 (suc (63 - length cs)) (0 * base + digit_value c) [] room parts.1 pos
          ∙ (onto_first base (63 - length cs) (digit_value c) c (cs ++ []) (b.value c parts.0) (b.same c parts.0) ∙ ap (λ t. c ∷ t) (append-nil cs))))
    ]

pub one_spelling : (base : ℕ) (is_digit : ℕ → Bool) → IsBase base is_digit → (text : List ℕ) (n : ℕ) → number_of base is_digit text ≡ Some n → text ≡ digits base false n
one_spelling base is_digit b text n e =
    let found = cond_some (are_digits is_digit text && nat_lt (digits_value base text) (2 ^ 64)) (digits_value base text) n e in
    let tests = and_parts (are_digits is_digit text) (nat_lt (digits_value base text) (2 ^ 64)) found.0 in
    let shape = and_parts (nat_lt 0 (length text) && list_all is_digit text) (length text == 1 || not (slice_index text 0 == 48)) tests.0 in
    let front = and_parts (nat_lt 0 (length text)) (list_all is_digit text) shape.0 in
    text_spelled b text front.0 front.1 shape.1 (ltb-true (digits_value base text) (2 ^ 64) tests.1) ∙ ap (digits base false) found.1
