-- The value that bytes spell, by whether they are UTF-8.
use Rattle.std.proofs.Common.{◌≡◌, List, ℕ, Bool, true, false, Option, None, Some, cond, Ok, Err, refl, sym, ap, ◌∙◌}
use Rattle.std.specs.Option.{ok_or}
use Rattle.std.specs.Str.{IsUtf8, is_utf8}
use Rattle.std.specs.Prelude.{String, string_bytes}
use Rattle.std.proofs.lemmas.Str.{IsUtf8-from_is_utf8, is_utf8-from_IsUtf8, IsUtf8-string_bytes}
use Rattle.serde_json.specs.Data.{Data}
use Rattle.serde_json.specs.Read.{read}
use Rattle.chv_defs_base.specs.declared.rule.Rule.TheVariants.{NotJson}
use Rattle.chv_defs_api.specs.JsonBodies.{value_of}

chosen : {A : Type 0} (b : Bool) (x y : A) → b ≡ true → cond b x y ≡ x
chosen b x y e = ap (λ t. cond t x y) e

refused : {A : Type 0} (b : Bool) (x y : A) → (b ≡ true → ⊥) → cond b x y ≡ y
refused true x y fails = absurd (fails refl)
refused false x y _ = refl

pub spelled : (bytes text : List ℕ) (found : Option Data) → text ≡ bytes → IsUtf8 bytes → read text ≡ found → value_of bytes ≡ ok_or found NotJson
spelled bytes text found same utf8 was =
    ap (λ o. ok_or o NotJson) (chosen (is_utf8 bytes) (read bytes) None (is_utf8-from_IsUtf8 bytes utf8) ∙ (ap read (sym same) ∙ was))

pub unspelled : (bytes : List ℕ) → ¬ (IsUtf8 bytes) → value_of bytes ≡ Err NotJson
unspelled bytes fails = ap (λ o. ok_or o NotJson) (refused (is_utf8 bytes) (read bytes) None (λ e. fails (IsUtf8-from_is_utf8 bytes e)))

-- a text from which a value is read means that value as a body
pub text_means : {Z : Type 0} (text : String Z) (d : Data) → read (string_bytes text) ≡ Some d → value_of (string_bytes text) ≡ Ok d
text_means text d was = spelled (string_bytes text) (string_bytes text) (Some d) refl (IsUtf8-string_bytes text) was
