-- The bytes of a field are those of its number.
use Rattle.std.proofs.Common.{◌≡◌, ◌<◌, ℕ, suc, List, [], ◌∷◌, ◌+◌, ◌*◌, ◌/◌, ◌%◌, ◌&&◌, Some, length, take, drop, get_or, refl, sym, ap, ap₂, ◌∙◌, length-drop, arith, nat_le}
use Rattle.std.proofs.lemmas.Bool.{and_parts, leb-true}
use Rattle.std.proofs.lemmas.List.{get_or-take, get_or-drop, length-take-le}
use Rattle.std.proofs.lemmas.Option.{cond_some}
use Rattle.chv_defs_base.specs.Numbers.{is_width, le_number, le_bytes, le_field}

again : (bytes : List ℕ) → ((i : ℕ) → i < length bytes → get_or bytes i 0 < 256) → le_bytes (length bytes) (le_number bytes) ≡ bytes
again [] small = refl
again (x ∷ xs) small =
    let byte : x < 256 = small 0 (omega arith) in
    let low : (x + 256 * le_number xs) % 256 ≡ x = omega (arith, byte) in
    let high : (x + 256 * le_number xs) / 256 ≡ le_number xs = omega (arith, byte) in
    ap₂ (λ a b. a ∷ b) low (ap (le_bytes (length xs)) high ∙ again xs (λ i h. small (suc i) (omega (arith, h))))

pub field_spelled : (bytes : List ℕ) (at width value : ℕ) → ((i : ℕ) → get_or bytes i 0 < 256) → le_field bytes at width ≡ Some value → take width (drop at bytes) ≡ le_bytes width value
field_spelled bytes at width value small e =
    let found = cond_some (is_width width && nat_le (at + width) (length bytes)) (le_number (take width (drop at bytes))) value e in
    let within = leb-true (at + width) (length bytes) (and_parts (is_width width) (nat_le (at + width) (length bytes)) found.0).1 in
    let long : length (take width (drop at bytes)) ≡ width = length-take-le width (drop at bytes) (omega (arith, within, length-drop at bytes)) in
    let each : (i : ℕ) → i < length (take width (drop at bytes)) → get_or (take width (drop at bytes)) i 0 < 256 =
    λ i h. rw (get_or-take width (drop at bytes) i 0 (omega (arith, long, h)), get_or-drop at bytes i 0) (small (at + i)) in
    sym (again (take width (drop at bytes)) each) ∙ ap₂ le_bytes long found.1
