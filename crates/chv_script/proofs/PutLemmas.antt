-- The bytes of a `put` have one spelling, which is read back.
use Rattle.std.proofs.Common.{◌≡◌, ℕ, ◌<◌, ◌&&◌, nat_le, Bool, true, List, length, refl, arith}
use Rattle.std.proofs.lemmas.Bool.{and_parts, and_from, leb-true}
use Rattle.chv_defs_base.specs.Numbers.{is_hex_digit, pairs, bytes_of}
use Rattle.chv_defs_base.specs.declared.rule.Reason.TheVariants.{BadHex}
use Rattle.chv_defs_scene.specs.ScriptReading.{is_put, put_bytes_of}
use Rattle.chv_num.proofs.PairBytes.{are_bytes, pairs_are_bytes, in_some, pairs_digits, byte_at}
use Rattle.chv_num.proofs.PairSpelling.{pairs_one_spelling, pairs_read_back}
use Rattle.chv_script.proofs.KindLemmas.{IsKind, kept_ok, kept_again, all_plain}

-- bytes that one instruction can store
abbrev pub is_stored : List ℕ → Bool
is_stored bytes = is_put bytes && are_bytes bytes

some_bytes : (bytes : List ℕ) → is_put bytes ≡ true → 0 < length bytes
some_bytes bytes h = let low = leb-true 1 (length bytes) (and_parts (nat_le 1 (length bytes)) (nat_le (length bytes) 4096) h).0 in omega (arith, low)

pub puts : IsKind put_bytes_of pairs is_stored
unfolding put_bytes_of
puts = record {
  spelled = λ field x e.
      let found = kept_ok is_put BadHex (bytes_of field) x e in
      (pairs_one_spelling field x found.0, and_from _ _ found.1 (pairs_are_bytes field x (in_some field x found.0)));
  again = λ x good.
      let parts = and_parts (is_put x) (are_bytes x) good in
      kept_again is_put BadHex (bytes_of (pairs x)) x (pairs_read_back x (byte_at x parts.1) (some_bytes x parts.0)) parts.0;
  plain = λ x good. all_plain is_hex_digit refl refl (pairs x) (pairs_digits x (and_parts (is_put x) (are_bytes x) good).1);
}
