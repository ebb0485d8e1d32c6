-- The number that decimal digits write, one digit after another.
use Rattle.std.proofs.Common.{◌≡◌, ℕ, ◌+◌, ◌-◌, ◌*◌, ◌^◌, ◌<◌, ◌≤◌, Bool, true, false, ◌&&◌, cond, List, length, get_or, take, drop, Option, Some, None, refl, ap, ◌∙◌, arith, ltb, ◌==◌, add-one}
use Rattle.std.proofs.lemmas.Bool.{le-ltb, lt-ltb}
use Rattle.std.proofs.lemmas.Bool.Decides.{nat_tests}
use Rattle.std.proofs.lemmas.Int.Digits.{digits_value_more}
use Rattle.std.proofs.lemmas.Str.Parse.{digits_value-take-le}
use Rattle.std.proofs.Math.Seq.{drop-cons}
use Rattle.std.specs.List.{list_all}
use Rattle.std.specs.Char.{is_ascii_digit, digit_value}
use Rattle.std.specs.Str.Parse.{digits_value}
use Rattle.chv_defs_api.specs.Requests.{length_of_digits}

digit_is : (c : ℕ) → 48 ≤ c → c ≤ 57 → digit_value c ≡ c - 48
digit_is c low high = grind (arith, nat_tests)

-- one more digit
pub value_more : (digits : List ℕ) (i : ℕ) → i < length digits → 48 ≤ get_or digits i 0 → get_or digits i 0 ≤ 57
    → digits_value 10 (take (i + 1) digits) ≡ 10 * digits_value 10 (take i digits) + (get_or digits i 0 - 48)
value_more digits i below low high =
    omega (arith, digits_value_more 10 digits i below, digit_is (get_or digits i 0) low high)

digit_yes : (c : ℕ) → 48 ≤ c → c ≤ 57 → is_ascii_digit c ≡ true
digit_yes c low high = grind (arith, nat_tests)

-- whether the rest are digits, from one on that is
pub digits_more : (digits : List ℕ) (i : ℕ) → i < length digits → 48 ≤ get_or digits i 0 → get_or digits i 0 ≤ 57
    → list_all is_ascii_digit (drop i digits) ≡ list_all is_ascii_digit (drop (i + 1) digits)
digits_more digits i below low high =
    let digit = digit_yes (get_or digits i 0) low high in
    rw (add-one, drop-cons digits i 0, digit) refl

none_third : (a b c : Bool) (n : ℕ) → c ≡ false → ◌≡◌ {A = Option ℕ} None (cond (a && b && c) (Some n) None)
none_third true true true n e = cc
none_third true true false n e = refl
none_third true false c n e = refl
none_third false b c n e = refl

none_second : (a b c : Bool) (n : ℕ) → b ≡ false → ◌≡◌ {A = Option ℕ} None (cond (a && b && c) (Some n) None)
none_second true true c n e = cc
none_second true false c n e = refl
none_second false b c n e = refl

some_all : (a b c : Bool) (n : ℕ) → a ≡ true → b ≡ true → c ≡ true
    → ◌≡◌ {A = Option ℕ} (Some n) (cond (a && b && c) (Some n) None)
some_all a b c n x y z = rw (x, y, z) refl

-- a number of 2 ^ 64 or more is none
pub too_large : (digits : List ℕ) (i n : ℕ) → n ≡ digits_value 10 (take i digits) → 2 ^ 64 ≤ n
    → ◌≡◌ {A = Option ℕ} None (length_of_digits digits)
too_large digits i n is large =
    none_third (ltb 0 (length digits)) (list_all is_ascii_digit digits) (ltb (digits_value 10 digits) (2 ^ 64)) (digits_value 10 digits)
    (le-ltb (digits_value 10 digits) (2 ^ 64) (omega (arith, digits_value-take-le 10 digits i (omega arith))))

-- nor is what has another byte
pub other_byte : (digits : List ℕ) → list_all is_ascii_digit digits ≡ false
    → ◌≡◌ {A = Option ℕ} None (length_of_digits digits)
other_byte digits other =
    none_second (ltb 0 (length digits)) (list_all is_ascii_digit digits) (ltb (digits_value 10 digits) (2 ^ 64)) (digits_value 10 digits) other

-- digits write their number
pub whole_number : (digits : List ℕ) (n : ℕ) → 0 < length digits → list_all is_ascii_digit digits ≡ true
    → n ≡ digits_value 10 digits → n < 2 ^ 64 → ◌≡◌ {A = Option ℕ} (Some n) (length_of_digits digits)
whole_number digits n some all value small =
    ap Some value ∙ some_all (ltb 0 (length digits)) (list_all is_ascii_digit digits) (ltb (digits_value 10 digits) (2 ^ 64))
    (digits_value 10 digits) (lt-ltb 0 (length digits) some) all
    (lt-ltb (digits_value 10 digits) (2 ^ 64) (omega arith))

-- what is not empty has a first digit
pub some_digit : (n : ℕ) → false ≡ (n == 0) → 0 < n
some_digit n other = grind (arith, nat_tests)
