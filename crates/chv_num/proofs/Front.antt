-- Bytes of which a front was read already.
use Rattle.std.proofs.Common.{◌≡◌, ◌≤◌, ◌+◌, ◌-◌, ◌*◌, List, [], ◌∷◌, ℕ, ◌++◌, Option, Some, None, option_map, true, length, take, drop, get_or, refl, sym, ap, ◌∙◌, append_assoc, arith}
use Rattle.std.proofs.lemmas.Bool.{and_from, cond-true}
use Rattle.std.proofs.lemmas.List.{take_all}
use Rattle.std.specs.Char.{digit_value}
use Rattle.chv_defs_base.specs.Numbers.{is_hex_digit, bytes_in}

-- what was found, before what the rest spells
abbrev pub with_front : List ℕ → Option (List ℕ) → Option (List ℕ)
with_front front rest = option_map (λ bytes. front ++ bytes) rest

one_more : (front : List ℕ) (byte : ℕ) (rest : Option (List ℕ)) → with_front (front ++ byte ∷ []) rest ≡ with_front front (option_map (λ bytes. byte ∷ bytes) rest)
one_more front byte None = refl
one_more front byte (Some bytes) = ap Some (append_assoc front (byte ∷ []) bytes)

pub pair_read : (rest front new : List ℕ) (total : Option (List ℕ)) → 2 ≤ length rest → is_hex_digit (get_or rest 0 0) ≡ true → is_hex_digit (get_or rest 1 0) ≡ true
    → new ≡ front ++ (digit_value (get_or rest 0 0) * 16 + digit_value (get_or rest 1 0)) ∷ [] → with_front front (bytes_in rest) ≡ total
    → with_front new (bytes_in (take (length rest - 2) (drop 2 rest))) ≡ total
pair_read [] front new total long hex_high hex_low is was = absurd (omega arith)
pair_read (high ∷ []) front new total long hex_high hex_low is was = absurd (omega arith)
pair_read (high ∷ low ∷ after) front new total long hex_high hex_low is was =
    let whole : take (length (high ∷ low ∷ after) - 2) after ≡ after = take_all _ after (omega arith) in
    let spelled : bytes_in (high ∷ low ∷ after) ≡ option_map (λ bytes. (digit_value high * 16 + digit_value low) ∷ bytes) (bytes_in after) =
    cond-true _ _ _ (and_from (is_hex_digit high) (is_hex_digit low) hex_high hex_low) in
    rw whole (rw is (one_more front _ (bytes_in after) ∙ (ap (with_front front) (sym spelled) ∙ was)))
