-- Numbers as texts and as bytes. A number is below 2^64.
use Rattle.std.specs.Prelude.{ℕ, zero, suc, ◌+◌, ◌*◌, ◌/◌, ◌%◌, ◌^◌, ◌==◌, ◌&&◌, ◌||◌, not, nat_lt, nat_le, Bool, false, if◌then◌else◌, List, [], ◌∷◌, ◌++◌, length, take, drop, slice_index, flat_map, codes, Option, None, Some, option_map}
use Rattle.std.specs.Char.{digit_value}
use Rattle.std.specs.Fmt.{decimal, digits, digit_glyph}
use Rattle.std.specs.List.{list_all}
use Rattle.std.specs.Str.{bytes_eq}
use Rattle.std.specs.Str.Parse.{digits_value}

-- `0` to `9`
abbrev pub is_decimal_digit : ℕ → Bool
is_decimal_digit b = nat_le 48 b && nat_le b 57

-- `0` to `9` and `a` to `f`
abbrev pub is_hex_digit : ℕ → Bool
is_hex_digit b = is_decimal_digit b || (nat_le 97 b && nat_le b 102)

-- one digit or more, with no `0` before another digit
abbrev pub are_digits : (ℕ → Bool) → List ℕ → Bool
are_digits is_digit text = nat_lt 0 (length text) && list_all is_digit text && (length text == 1 || not (slice_index text 0 == 48))

-- the number that digits of a base spell
abbrev pub number_of : ℕ → (ℕ → Bool) → List ℕ → Option ℕ
number_of base is_digit text = if are_digits is_digit text && nat_lt (digits_value base text) (2 ^ 64) then Some (digits_value base text) else None

-- the number that a text spells in decimal, without leading zeros
abbrev pub dec : List ℕ → Option ℕ
dec text = number_of 10 is_decimal_digit text

-- the number that a text spells as `0x` and lower-case hexadecimal digits, without leading zeros
abbrev pub hex : List ℕ → Option ℕ
hex text = if bytes_eq (take 2 text) (codes "0x") then number_of 16 is_hex_digit (drop 2 text) else None

-- the one spelling of a number in decimal
abbrev pub dec_text : ℕ → List ℕ
dec_text n = decimal n

-- the one spelling of a number in hexadecimal
abbrev pub hex_text : ℕ → List ℕ
hex_text n = codes "0x" ++ digits 16 false n

-- ---- pairs: two lower-case hexadecimal digits for each byte

-- the pair of a byte
abbrev pub pair : ℕ → List ℕ
pair b = digit_glyph false (b / 16) ∷ digit_glyph false (b % 16) ∷ []

-- the one spelling of bytes in pairs
abbrev pub pairs : List ℕ → List ℕ
pairs bytes = flat_map pair bytes

-- the bytes that a text spells in pairs
abbrev pub bytes_in : List ℕ → Option (List ℕ)
bytes_in [] = Some []
bytes_in (high ∷ []) = None
bytes_in (high ∷ low ∷ rest) = if is_hex_digit high && is_hex_digit low then option_map (λ bytes. (digit_value high * 16 + digit_value low) ∷ bytes) (bytes_in rest) else None

-- the same where there is at least one byte
abbrev pub bytes_of : List ℕ → Option (List ℕ)
bytes_of text = if length text == 0 then None else bytes_in text

-- ---- fields of 1, 2, 4 or 8 bytes, the lowest byte first

-- a width of a field, in bytes
abbrev pub is_width : ℕ → Bool
is_width w = w == 1 || w == 2 || w == 4 || w == 8

-- the number in some bytes
abbrev pub le_number : List ℕ → ℕ
le_number [] = 0
le_number (b ∷ bs) = b + 256 * le_number bs

-- the lowest n bytes of a number
abbrev pub le_bytes : ℕ → ℕ → List ℕ
le_bytes zero x = []
le_bytes (suc n) x = x % 256 ∷ le_bytes n (x / 256)

-- the field of a width that begins at a place, where it does not run past the end
abbrev pub le_field : List ℕ → ℕ → ℕ → Option ℕ
le_field bytes at width = if is_width width && nat_le (at + width) (length bytes) then Some (le_number (take width (drop at bytes))) else None
