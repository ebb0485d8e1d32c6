-- Each kind of field has one spelling, without a space and a line feed, which is read back.
use Rattle.std.proofs.Common.{◌≡◌, ℕ, ◌^◌, ◌<◌, ◌==◌, ◌&&◌, ◌||◌, not, nat_le, nat_lt, Bool, true, false, cond, List, [], ◌∷◌, ◌++◌, length, take, drop, codes, slice_index, Option, None, Some, Result, Ok, Err, refl, sym, ◌∙◌, ap, subst, arith}
use Rattle.std.specs.List.{list_all}
use Rattle.std.specs.Str.{bytes_eq}
use Rattle.std.specs.Str.Parse.{digits_value}
use Rattle.std.proofs.lemmas.Bool.{and_parts, and_from, cond-true, ne_eqb, leb-true, ltb-true}
use Rattle.std.proofs.lemmas.Bool.Decides.{nat_tests}
use Rattle.std.proofs.lemmas.List.{take-append-drop}
use Rattle.std.proofs.lemmas.Option.{cond_some}
use Rattle.std.proofs.lemmas.Slice.Eq.{bytes_eq-Decides}
use Rattle.chv_defs_base.specs.Id.{is_id, is_id_byte}
use Rattle.chv_defs_base.specs.Numbers.{is_decimal_digit, is_hex_digit, are_digits, number_of, dec, dec_text, hex, hex_text, is_width}
use Rattle.chv_defs_base.specs.declared.rule.Reason.{Reason}
use Rattle.chv_defs_base.specs.declared.rule.Reason.TheVariants.{BadRegister, BadWidth, BadHex, BadName}
use Rattle.chv_defs_scene.specs.ScriptText.{register}
use Rattle.chv_defs_api.specs.Registers.{is_port_width}
use Rattle.chv_defs_scene.specs.ScriptReading.{kept, is_register, register_of, memory_width_of, port_width_of, value_of, is_port, port_of, name_of}
use Rattle.chv_num.proofs.Bases.{decimal_base}
use Rattle.chv_num.proofs.Spelling.{one_spelling, read_back}
use Rattle.chv_num.proofs.HexSpelling.{chosen as some_chosen, hex_one_spelling, hex_read_back}
use Rattle.chv_script.proofs.FieldLemmas.{no_space}

-- whether neither a space nor a line feed stands in a text
abbrev pub is_plain : List ℕ → Bool
is_plain text = list_all (λ b. not (b == 32) && not (b == 10)) text

-- what is known of a kind of field: its reader, its spelling and its values
pub record IsKind {A : Type 0} (read : List ℕ → Result A Reason) (text : A → List ℕ) (good : A → Bool) : Type 0 where
  pub spelled : (field : List ℕ) (x : A) → read field ≡ Ok x → (field ≡ text x) × (good x ≡ true)
  pub again : (x : A) → good x ≡ true → read (text x) ≡ Ok x
  pub plain : (x : A) → good x ≡ true → is_plain (text x) ≡ true

-- ---- what is kept

kept_if : {A : Type 0} (v : Bool) (x y : A) (reason : Reason) → cond v (Ok x) (Err reason) ≡ Ok y → (v ≡ true) × (x ≡ y)
kept_if true x y reason e = (refl, (cc))
kept_if false x y reason e = absurd (cc)

pub kept_ok : {A : Type 0} (test : A → Bool) (reason : Reason) (found : Option A) (x : A) → kept test reason found ≡ Ok x → (found ≡ Some x) × (test x ≡ true)
kept_ok test reason None x e = absurd (cc)
kept_ok test reason (Some y) x e =
    let found = kept_if (test y) y x reason e in
    (ap Some found.1, subst (λ z. test z ≡ true) found.1 found.0)

pub kept_again : {A : Type 0} (test : A → Bool) (reason : Reason) (found : Option A) (x : A) → found ≡ Some x → test x ≡ true → kept test reason found ≡ Ok x
kept_again test reason found x is good = ap (kept test reason) is ∙ cond-true (test x) (Ok x) (Err reason) good

-- ---- texts without a space and a line feed

-- what holds of each byte of a kind holds of each byte of a text of that kind
pub all_so : (p q : ℕ → Bool) → ((b : ℕ) → p b ≡ true → q b ≡ true) → (text : List ℕ) → list_all p text ≡ true → list_all q text ≡ true
all_so p q h [] e = refl
all_so p q h (b ∷ bytes) e =
    let parts = and_parts (p b) (list_all p bytes) e in
    and_from _ _ (h b parts.0) (all_so p q h bytes parts.1)

-- a byte that is not of a kind is no byte of that kind
pub other_byte : (p : ℕ → Bool) (at b : ℕ) → p at ≡ false → p b ≡ true → not (b == at) ≡ true
other_byte p at b other is = ap not (ne_eqb b at (λ e. let both : true ≡ false = sym is ∙ (ap p e ∙ other) in cc))

-- a text of bytes of which a space and a line feed are none
pub all_plain : (p : ℕ → Bool) → p 32 ≡ false → p 10 ≡ false → (text : List ℕ) → list_all p text ≡ true → is_plain text ≡ true
all_plain p space feed text all = all_so p (λ b. not (b == 32) && not (b == 10)) (λ b is. and_from _ _ (other_byte p 32 b space is) (other_byte p 10 b feed is)) text all

pub plain_no_space : (text : List ℕ) → is_plain text ≡ true → no_space text ≡ true
plain_no_space text h = all_so (λ b. not (b == 32) && not (b == 10)) (λ b. not (b == 32)) (λ b is. (and_parts (not (b == 32)) (not (b == 10)) is).0) text h

pub plain_no_feed : (text : List ℕ) → is_plain text ≡ true → list_all (λ b. not (b == 10)) text ≡ true
plain_no_feed text h = all_so (λ b. not (b == 32) && not (b == 10)) (λ b. not (b == 10)) (λ b is. (and_parts (not (b == 32)) (not (b == 10)) is).1) text h

-- the digits of a number
all_digits : (base : ℕ) (is_digit : ℕ → Bool) (text : List ℕ) (n : ℕ) → number_of base is_digit text ≡ Some n → list_all is_digit text ≡ true
all_digits base is_digit text n e =
    let found = cond_some (are_digits is_digit text && nat_lt (digits_value base text) (2 ^ 64)) (digits_value base text) n e in
    let tests = and_parts (are_digits is_digit text) (nat_lt (digits_value base text) (2 ^ 64)) found.0 in
    let shape = and_parts (nat_lt 0 (length text) && list_all is_digit text) (length text == 1 || not (slice_index text 0 == 48)) tests.0 in
    (and_parts (nat_lt 0 (length text)) (list_all is_digit text) shape.0).1

pub dec_again : (n : ℕ) → n < 2 ^ 64 → dec (dec_text n) ≡ Some n
dec_again n h = read_back 10 is_decimal_digit decimal_base n h

pub dec_plain : (n : ℕ) → n < 2 ^ 64 → is_plain (dec_text n) ≡ true
dec_plain n h = all_plain is_decimal_digit refl refl (dec_text n) (all_digits 10 is_decimal_digit (dec_text n) n (dec_again n h))

pub dec_spelled : (text : List ℕ) (n : ℕ) → dec text ≡ Some n → text ≡ dec_text n
dec_spelled text n e = one_spelling 10 is_decimal_digit decimal_base text n e

hex_plain : (n : ℕ) → n < 2 ^ 64 → is_plain (hex_text n) ≡ true
hex_plain n h = all_plain is_hex_digit refl refl (drop 2 (hex_text n)) (all_digits 16 is_hex_digit (drop 2 (hex_text n)) n (hex_read_back n h))

-- a number that was read is below 2^64
pub number_small : (base : ℕ) (is_digit : ℕ → Bool) (text : List ℕ) (n : ℕ) → number_of base is_digit text ≡ Some n → nat_lt n (2 ^ 64) ≡ true
number_small base is_digit text n e =
    let found = cond_some (are_digits is_digit text && nat_lt (digits_value base text) (2 ^ 64)) (digits_value base text) n e in
    subst (λ m. nat_lt m (2 ^ 64) ≡ true) found.1 (and_parts (are_digits is_digit text) (nat_lt (digits_value base text) (2 ^ 64)) found.0).1

-- ---- registers

front_is : (text : List ℕ) → bytes_eq (take 1 text) (codes "r") ≡ true → text ≡ codes "r" ++ drop 1 text
front_is text e = sym (take-append-drop 1 text) ∙ ap (λ t. t ++ drop 1 text) ((bytes_eq-Decides (take 1 text) (codes "r")).0 e)

chosen : {A : Type 0} (v : Bool) (r : Result A Reason) (reason : Reason) (x : A) → cond v r (Err reason) ≡ Ok x → (v ≡ true) × (r ≡ Ok x)
chosen true r reason x e = (refl, e)
chosen false r reason x e = absurd (cc)

register_small : (r : ℕ) → is_register r ≡ true → r < 2 ^ 64
register_small r h = let low = leb-true r 15 h in omega (arith, low)

pub registers : IsKind register_of register is_register
unfolding register_of
registers = record {
  spelled = λ field x e.
      let test = chosen (bytes_eq (take 1 field) (codes "r")) (kept is_register BadRegister (dec (drop 1 field))) BadRegister x e in
      let found = kept_ok is_register BadRegister (dec (drop 1 field)) x test.1 in
      (front_is field test.0 ∙ ap (λ t. codes "r" ++ t) (dec_spelled (drop 1 field) x found.0), found.1);
  again = λ x good. kept_again is_register BadRegister (dec (dec_text x)) x (dec_again x (register_small x good)) good;
  plain = λ x good. dec_plain x (register_small x good);
}

-- ---- widths

width_small : (w : ℕ) → is_width w ≡ true → w < 2 ^ 64
width_small w h = grind (arith, nat_tests)

pub memory_widths : IsKind memory_width_of dec_text is_width
unfolding memory_width_of
memory_widths = record {
  spelled = λ field x e. let found = kept_ok is_width BadWidth (dec field) x e in (dec_spelled field x found.0, found.1);
  again = λ x good. kept_again is_width BadWidth (dec (dec_text x)) x (dec_again x (width_small x good)) good;
  plain = λ x good. dec_plain x (width_small x good);
}

port_width_small : (w : ℕ) → is_port_width w ≡ true → w < 2 ^ 64
port_width_small w h = grind (arith, nat_tests)

pub port_widths : IsKind port_width_of dec_text is_port_width
unfolding port_width_of
port_widths = record {
  spelled = λ field x e. let found = kept_ok is_port_width BadWidth (dec field) x e in (dec_spelled field x found.0, found.1);
  again = λ x good. kept_again is_port_width BadWidth (dec (dec_text x)) x (dec_again x (port_width_small x good)) good;
  plain = λ x good. dec_plain x (port_width_small x good);
}

-- ---- values and ports

hex_small : (text : List ℕ) (n : ℕ) → hex text ≡ Some n → nat_lt n (2 ^ 64) ≡ true
hex_small text n e =
    let found = some_chosen (bytes_eq (take 2 text) (codes "0x")) (number_of 16 is_hex_digit (drop 2 text)) n e in
    number_small 16 is_hex_digit (drop 2 text) n found.1

pub values : IsKind value_of hex_text (λ n. nat_lt n (2 ^ 64))
unfolding value_of
values = record {
  spelled = λ field x e. let found = kept_ok (λ n. true) BadHex (hex field) x e in (hex_one_spelling field x found.0, hex_small field x found.0);
  again = λ x good. kept_again (λ n. true) BadHex (hex (hex_text x)) x (hex_read_back x (ltb-true x (2 ^ 64) good)) refl;
  plain = λ x good. hex_plain x (ltb-true x (2 ^ 64) good);
}

port_small : (p : ℕ) → is_port p ≡ true → p < 2 ^ 64
port_small p h = let low = leb-true p 65535 h in omega (arith, low)

pub ports : IsKind port_of hex_text is_port
unfolding port_of
ports = record {
  spelled = λ field x e. let found = kept_ok is_port BadHex (hex field) x e in (hex_one_spelling field x found.0, found.1);
  again = λ x good. kept_again is_port BadHex (hex (hex_text x)) x (hex_read_back x (port_small x good)) good;
  plain = λ x good. hex_plain x (port_small x good);
}

-- ---- labels

pub names : IsKind name_of (λ name. name) is_id
unfolding name_of
names = record {
  spelled = λ field x e. let found = kept_ok is_id BadName (Some field) x e in (let is : field ≡ x = cc in is, found.1);
  again = λ x good. kept_again is_id BadName (Some x) x refl good;
  plain = λ x good. all_plain is_id_byte refl refl x (and_parts (nat_le 1 (length x) && nat_le (length x) 32) (list_all is_id_byte x) good).1;
}
