-- A hexadecimal number is `0x` and its digits.
use Rattle.std.proofs.Common.{◌≡◌, ◌<◌, ◌^◌, ℕ, List, ◌++◌, Bool, true, false, cond, codes, Option, Some, None, take, drop, refl, sym, ap, ◌∙◌}
use Rattle.std.proofs.lemmas.List.{take-append-drop}
use Rattle.std.proofs.lemmas.Slice.Eq.{bytes_eq-Decides}
use Rattle.std.specs.Str.{bytes_eq}
use Rattle.chv_num.proofs.Bases.{hex_base}
use Rattle.chv_num.proofs.Spelling.{one_spelling, read_back}
use Rattle.chv_defs_base.specs.Numbers.{is_hex_digit, number_of, hex, hex_text}

-- where a choice gave a value, its test held
pub chosen : {A : Type 0} (b : Bool) (x : Option A) (y : A) → cond b x None ≡ Some y → (b ≡ true) × (x ≡ Some y)
chosen true x y e = (refl, e)
chosen false x y e = absurd (cc)

pub hex_read_back : (n : ℕ) → n < 2 ^ 64 → hex (hex_text n) ≡ Some n
hex_read_back n h = read_back 16 is_hex_digit hex_base n h

prefix_of : (text : List ℕ) → bytes_eq (take 2 text) (codes "0x") ≡ true → text ≡ codes "0x" ++ drop 2 text
prefix_of text e =
    let front : take 2 text ≡ codes "0x" = (bytes_eq-Decides (take 2 text) (codes "0x")).0 e in
    sym (take-append-drop 2 text) ∙ ap (λ t. t ++ drop 2 text) front

pub hex_one_spelling : (text : List ℕ) (n : ℕ) → hex text ≡ Some n → text ≡ hex_text n
hex_one_spelling text n e =
    let found = chosen (bytes_eq (take 2 text) (codes "0x")) (number_of 16 is_hex_digit (drop 2 text)) n e in
    prefix_of text found.0 ∙ ap (λ t. codes "0x" ++ t) (one_spelling 16 is_hex_digit hex_base (drop 2 text) n found.1)
