-- The value of digits grows with each digit.
use Rattle.std.proofs.Common.{◌≡◌, ◌≤◌, ◌<◌, ◌^◌, ℕ, List, [], ◌∷◌, ◌+◌, ◌*◌, Bool, true, false, cond, nat_lt, Option, Some, None, length, drop, get_or, drop-cons, suc, sym, arith}
use Rattle.std.proofs.lemmas.Bool.{ltb-false, lt-ltb, le-ltb, cond-true, cond-false}
use Rattle.std.proofs.lemmas.List.{drop_all}
use Rattle.std.specs.Char.{digit_value}
use Rattle.std.specs.Str.Parse.{digits_value_after}

-- a factor of 1 or more
pub le-times : (b n : ℕ) → 1 ≤ b → n ≤ n * b
le-times b n h = grind arith

le-digits_value_after : (base n : ℕ) (ds : List ℕ) → 1 ≤ base → n ≤ digits_value_after base n ds
le-digits_value_after base n [] h = omega arith
le-digits_value_after base n (d ∷ ds) h = omega (arith, le-digits_value_after base (n * base + digit_value d) ds h, le-times base n h)

-- a number, where it is below 2 ^ 64
abbrev pub if_small : ℕ → Option ℕ
if_small n = cond (nat_lt n (2 ^ 64)) (Some n) None

pub none-if_small : (n : ℕ) → 2 ^ 64 ≤ n → None ≡ if_small n
none-if_small n h = sym (cond-false (nat_lt n (2 ^ 64)) (Some n) None (le-ltb n (2 ^ 64) h))

pub some-if_small : (n : ℕ) → n < 2 ^ 64 → Some n ≡ if_small n
some-if_small n h = sym (cond-true (nat_lt n (2 ^ 64)) (Some n) None (lt-ltb n (2 ^ 64) h))

large_from_none : (n : ℕ) (b : Bool) → nat_lt n (2 ^ 64) ≡ b → None ≡ cond b (Some n) None → 2 ^ 64 ≤ n
large_from_none n true is e = absurd (cc)
large_from_none n false is e = ltb-false n (2 ^ 64) is

-- where one digit more is too large, so is the whole
pub large_value : (base n total : ℕ) (ds : List ℕ) (i : ℕ) → 1 ≤ base → i < length ds → digits_value_after base n (drop i ds) ≡ total
    → None ≡ if_small (n * base + digit_value (get_or ds i 0)) → None ≡ if_small total
large_value base n total ds i h within is e =
    let large = large_from_none (n * base + digit_value (get_or ds i 0)) (nat_lt (n * base + digit_value (get_or ds i 0)) (2 ^ 64)) (λ _. nat_lt (n * base + digit_value (get_or ds i 0)) (2 ^ 64)) e in
    let grows : n * base + digit_value (get_or ds i 0) ≤ digits_value_after base n (drop i ds) =
    rw (drop-cons ds i 0) (le-digits_value_after base (n * base + digit_value (get_or ds i 0)) (drop (suc i) ds) h) in
    none-if_small total (omega (arith, large, grows, is))

-- at the end nothing is left to read
pub whole_value : (base n total : ℕ) (ds : List ℕ) (i : ℕ) → length ds ≤ i → digits_value_after base n (drop i ds) ≡ total → n < 2 ^ 64 → Some n ≡ if_small total
whole_value base n total ds i past is small =
    let none : drop i ds ≡ [] = drop_all i ds past in
    let same : n ≡ total = rw none at is in
    rw (← same) (some-if_small n small)
