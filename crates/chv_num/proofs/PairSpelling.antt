-- Bytes have one spelling in pairs of hexadecimal digits.
use Rattle.std.proofs.Common.{◌≡◌, ◌<◌, ℕ, suc, List, [], ◌∷◌, ◌++◌, ◌+◌, ◌*◌, ◌/◌, ◌%◌, ◌==◌, ◌&&◌, true, false, Option, Some, None, option_map, length, get_or, refl, sym, ap, ap₂, ◌∙◌, arith}
use Rattle.std.proofs.lemmas.Bool.{agree_below_at, and_parts, and_from, cond-true, cond-false, eqb-true, ne_eqb}
use Rattle.std.proofs.lemmas.Nat.{div-mul-add, mod-mul-add, div-add-mod'}
use Rattle.std.specs.Char.{digit_value}
use Rattle.std.specs.Fmt.{digit_glyph}
use Rattle.chv_num.proofs.Bases.{hex_base}
use Rattle.chv_num.proofs.HexSpelling.{chosen}
use Rattle.chv_defs_base.specs.Numbers.{is_hex_digit, pair, pairs, bytes_in, bytes_of}

value_of_glyph : (d : ℕ) → d < 16 → digit_value (digit_glyph false d) ≡ d
value_of_glyph d h = eqb-true _ d (agree_below_at (λ d. digit_value (digit_glyph false d) == d) (λ _. true) 16 d refl h)

pub pairs_read : (bytes : List ℕ) → ((i : ℕ) → get_or bytes i 0 < 256) → bytes_in (pairs bytes) ≡ Some bytes
pairs_read [] small = refl
pairs_read (x ∷ xs) small =
    let byte : x < 256 = small 0 in
    let high : x / 16 < 16 = omega (arith, byte) in
    let low : x % 16 < 16 = omega arith in
    let tests = and_from _ _ (hex_base.glyph (x / 16) high) (hex_base.glyph (x % 16) low) in
    let value = ap₂ (λ h l. h * 16 + l) (value_of_glyph (x / 16) high) (value_of_glyph (x % 16) low) ∙ div-add-mod' x 16 in
    cond-true _ _ _ tests ∙ (ap (option_map _) (pairs_read xs (λ i. small (suc i))) ∙ ap (λ b. Some (b ∷ xs)) value)

of_some : (text : List ℕ) → 0 < length text → bytes_of text ≡ bytes_in text
of_some text some = let more : length text ≡ 0 → ⊥ = λ e. omega arith in cond-false (length text == 0) None (bytes_in text) (ne_eqb (length text) 0 more)

pub pairs_read_back : (bytes : List ℕ) → ((i : ℕ) → get_or bytes i 0 < 256) → 0 < length bytes → bytes_of (pairs bytes) ≡ Some bytes
pairs_read_back [] small some = absurd (omega arith)
pairs_read_back (x ∷ xs) small some = of_some (pairs (x ∷ xs)) (omega arith) ∙ pairs_read (x ∷ xs) small

-- where a list with one more in front was found, so was the list
with_one : (byte : ℕ) (o : Option (List ℕ)) (bytes : List ℕ) → option_map (λ bs. byte ∷ bs) o ≡ Some bytes → (rest : List ℕ) × (o ≡ Some rest) × (bytes ≡ byte ∷ rest)
with_one byte None bytes e = absurd (cc)
with_one byte (Some rest) bytes e = (rest, refl, (cc))

pair_spelled : (high low : ℕ) → is_hex_digit high ≡ true → is_hex_digit low ≡ true → high ∷ low ∷ [] ≡ pair (digit_value high * 16 + digit_value low)
pair_spelled high low h l =
    let below = hex_base.value low l in
    let first : digit_glyph false ((digit_value high * 16 + digit_value low) / 16) ≡ high = ap (digit_glyph false) (div-mul-add (digit_value high) 16 (digit_value low) below) ∙ hex_base.same high h in
    let second : digit_glyph false ((digit_value high * 16 + digit_value low) % 16) ≡ low = ap (digit_glyph false) (mod-mul-add (digit_value high) 16 (digit_value low) below) ∙ hex_base.same low l in
    sym (ap₂ (λ a b. a ∷ b ∷ []) first second)

spelled : (text bytes : List ℕ) → bytes_in text ≡ Some bytes → text ≡ pairs bytes
spelled [] bytes e = let none : bytes ≡ [] = cc in ap pairs (sym none)
spelled (high ∷ []) bytes e = absurd (cc)
spelled (high ∷ low ∷ text) bytes e =
    let found = chosen (is_hex_digit high && is_hex_digit low) _ bytes e in
    let tests = and_parts (is_hex_digit high) (is_hex_digit low) found.0 in
    let rest = with_one (digit_value high * 16 + digit_value low) (bytes_in text) bytes found.1 in
    ap₂ (λ front back. front ++ back) (pair_spelled high low tests.0 tests.1) (spelled text rest.0 rest.1) ∙ ap pairs (sym rest.2)

pub pairs_one_spelling : (text bytes : List ℕ) → bytes_of text ≡ Some bytes → text ≡ pairs bytes
pairs_one_spelling [] bytes e = absurd (cc)
pairs_one_spelling (x ∷ xs) bytes e = spelled (x ∷ xs) bytes (sym (of_some (x ∷ xs) (omega arith)) ∙ e)
