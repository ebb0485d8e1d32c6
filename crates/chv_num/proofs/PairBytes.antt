-- The bytes that pairs of digits spell, and the digits of their pairs.
use Rattle.std.proofs.Common.{◌≡◌, ℕ, ◌+◌, ◌*◌, ◌/◌, ◌%◌, ◌<◌, ◌==◌, ◌&&◌, nat_lt, Bool, true, zero, suc, List, [], ◌∷◌, length, get_or, Option, None, Some, option_map, refl, sym, ◌∙◌, subst, arith}
use Rattle.std.specs.Char.{digit_value}
use Rattle.std.specs.List.{list_all}
use Rattle.std.proofs.lemmas.Bool.{and_parts, and_from, cond-false, ne_eqb, ltb-true, lt-ltb}
use Rattle.chv_defs_base.specs.Numbers.{is_hex_digit, pairs, bytes_in, bytes_of}
use Rattle.chv_num.proofs.Bases.{hex_base}
use Rattle.chv_num.proofs.HexSpelling.{chosen}

-- whether each of them is a byte
abbrev pub are_bytes : List ℕ → Bool
are_bytes bytes = list_all (λ b. nat_lt b 256) bytes

pair_is_byte : (high low : ℕ) → is_hex_digit high ≡ true → is_hex_digit low ≡ true → nat_lt (digit_value high * 16 + digit_value low) 256 ≡ true
pair_is_byte high low h l =
    let first = hex_base.value high h in
    let second = hex_base.value low l in
    lt-ltb _ 256 (omega (arith, first, second))

one_more : (byte : ℕ) (found : Option (List ℕ)) (bytes : List ℕ) → nat_lt byte 256 ≡ true → option_map (λ bs. byte ∷ bs) found ≡ Some bytes → ((rest : List ℕ) → found ≡ Some rest → are_bytes rest ≡ true) → are_bytes bytes ≡ true
one_more byte None bytes is e h = absurd (cc)
one_more byte (Some rest) bytes is e h = let all : byte ∷ rest ≡ bytes = cc in subst (λ bs. are_bytes bs ≡ true) all (and_from _ _ is (h rest refl))

pub pairs_are_bytes : (text bytes : List ℕ) → bytes_in text ≡ Some bytes → are_bytes bytes ≡ true
pairs_are_bytes [] bytes e = let none : [] ≡ bytes = cc in subst (λ bs. are_bytes bs ≡ true) none refl
pairs_are_bytes (high ∷ []) bytes e = absurd (cc)
pairs_are_bytes (high ∷ low ∷ text) bytes e =
    let found = chosen (is_hex_digit high && is_hex_digit low) _ bytes e in
    let tests = and_parts (is_hex_digit high) (is_hex_digit low) found.0 in
    one_more (digit_value high * 16 + digit_value low) (bytes_in text) bytes (pair_is_byte high low tests.0 tests.1) found.1 (pairs_are_bytes text)

pub in_some : (text bytes : List ℕ) → bytes_of text ≡ Some bytes → bytes_in text ≡ Some bytes
in_some [] bytes e = absurd (cc)
in_some (b ∷ text) bytes e =
    let more : length (b ∷ text) ≡ 0 → ⊥ = λ e. omega arith in
    sym (cond-false (length (b ∷ text) == 0) None (bytes_in (b ∷ text)) (ne_eqb (length (b ∷ text)) 0 more)) ∙ e

pub pairs_digits : (bytes : List ℕ) → are_bytes bytes ≡ true → list_all is_hex_digit (pairs bytes) ≡ true
pairs_digits [] h = refl
pairs_digits (b ∷ bytes) h =
    let parts = and_parts (nat_lt b 256) (are_bytes bytes) h in
    let byte = ltb-true b 256 parts.0 in
    let high : b / 16 < 16 = omega (arith, byte) in
    let low : b % 16 < 16 = omega arith in
    and_from _ _ (hex_base.glyph (b / 16) high) (and_from _ _ (hex_base.glyph (b % 16) low) (pairs_digits bytes parts.1))

pub byte_at : (bytes : List ℕ) → are_bytes bytes ≡ true → (i : ℕ) → get_or bytes i 0 < 256
byte_at [] h i = omega arith
byte_at (b ∷ bytes) h zero = ltb-true b 256 (and_parts (nat_lt b 256) (are_bytes bytes) h).0
byte_at (b ∷ bytes) h (suc i) = byte_at bytes (and_parts (nat_lt b 256) (are_bytes bytes) h).1 i
