-- The two bases.
use Rattle.std.proofs.Common.{◌≡◌, ◌<◌, inl, inr, ℕ, Bool, true, false, ◌==◌, ◌&&◌, not, nat_lt, nat_le, refl, arith, lit≤}
use Rattle.std.proofs.lemmas.Bool.{agree_below_at, and_parts, or_cases, ltb-true, leb-true, eqb-true}
use Rattle.std.specs.Char.{digit_value}
use Rattle.std.specs.Fmt.{digits, digit_glyph}
use Rattle.chv_defs_base.specs.Numbers.{is_decimal_digit, is_hex_digit}
use Rattle.chv_num.proofs.Spelling.{IsBase}

-- where p and not q never hold together, q follows from p
follows : (p q : Bool) → (p && not q) ≡ false → p ≡ true → q ≡ true
follows true true e h = refl
follows true false e h = absurd (cc)
follows false true e h = refl
follows false false e h = h

decimal_below : (c : ℕ) → is_decimal_digit c ≡ true → c < 58
decimal_below c h = let upper = leb-true c 57 (and_parts (nat_le 48 c) (nat_le c 57) h).1 in omega (arith, upper)

hex_below : (c : ℕ) → is_hex_digit c ≡ true → c < 103
hex_below c h =
    elim (or_cases (is_decimal_digit c) (nat_le 97 c && nat_le c 102) h) [
      | inl d ↦ (let upper = decimal_below c d in omega (arith, upper))
      | inr l ↦ (let upper = leb-true c 102 (and_parts (nat_le 97 c) (nat_le c 102) l).1 in omega (arith, upper))
    ]

pub decimal_base : IsBase 10 is_decimal_digit
unfolding digits
decimal_base = record {
  low = lit≤ tt;
  high = lit≤ tt;
  wide = lit≤ tt;
  glyph = λ d h. agree_below_at (λ d. is_decimal_digit (digit_glyph false d)) (λ _. true) 10 d refl h;
  value = λ c h. ltb-true (digit_value c) 10 (follows (is_decimal_digit c) (nat_lt (digit_value c) 10) (agree_below_at (λ c. is_decimal_digit c && not (nat_lt (digit_value c) 10)) (λ _. false) 58 c refl (decimal_below c h)) h);
  same = λ c h. eqb-true (digit_glyph false (digit_value c)) c (follows (is_decimal_digit c) (digit_glyph false (digit_value c) == c) (agree_below_at (λ c. is_decimal_digit c && not (digit_glyph false (digit_value c) == c)) (λ _. false) 58 c refl (decimal_below c h)) h);
  zero_text = refl;
}

pub hex_base : IsBase 16 is_hex_digit
unfolding digits
hex_base = record {
  low = lit≤ tt;
  high = lit≤ tt;
  wide = lit≤ tt;
  glyph = λ d h. agree_below_at (λ d. is_hex_digit (digit_glyph false d)) (λ _. true) 16 d refl h;
  value = λ c h. ltb-true (digit_value c) 16 (follows (is_hex_digit c) (nat_lt (digit_value c) 16) (agree_below_at (λ c. is_hex_digit c && not (nat_lt (digit_value c) 16)) (λ _. false) 103 c refl (hex_below c h)) h);
  same = λ c h. eqb-true (digit_glyph false (digit_value c)) c (follows (is_hex_digit c) (digit_glyph false (digit_value c) == c) (agree_below_at (λ c. is_hex_digit c && not (digit_glyph false (digit_value c) == c)) (λ _. false) 103 c refl (hex_below c h)) h);
  zero_text = refl;
}
