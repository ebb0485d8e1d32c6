-- A default id is an identifier, so the ids that disks get are.
use Rattle.std.proofs.Common.{◌≡◌, ℕ, ◌+◌, ◌<◌, ◌≤◌, ◌^◌, ◌%◌, true, false, List, [], ◌∷◌, ◌++◌, Option, None, Some, refl, ◌∙◌, ap, arith, length}
use Rattle.std.specs.Prelude.{unwrap_or, find, not, ◌&&◌, nat_le}
use Rattle.std.specs.List.{list_any, list_all, range_with_len}
use Rattle.std.specs.Option.{option_map_or}
use Rattle.std.specs.Fmt.{decimal}
use Rattle.std.proofs.lemmas.Fmt.{decimal_by_steps, length-decimal-le}
use Rattle.std.proofs.lemmas.Bool.{and_from, or_parts, or_from}
use Rattle.std.proofs.lemmas.Bool.Decides.{nat_tests}
use Rattle.std.proofs.lemmas.List.{length-append}
use Rattle.std.proofs.lemmas.List.Folds.{list_all-append}
use Rattle.chv_defs_base.specs.Id.{is_id, is_id_byte}
use Rattle.chv_defs_api.specs.declared.config.DiskConfig.{DiskConfig}
use Rattle.chv_defs_api.specs.ConfigRules.{default_id, has_bad_id, id_beside, is_free, lowest_free, with_id, with_ids}
use Rattle.chv_config.proofs.Firsts.{find-range, IsFirstPassing}

-- a digit is a byte of an identifier
digit : (d : ℕ) → d < 10 → is_id_byte (48 + d) ≡ true
digit d small =
    let low : nat_le 48 (48 + d) ≡ true = grind (arith, nat_tests) in
    let high : nat_le (48 + d) 57 ≡ true = grind (arith, nat_tests) in
    rw (low, high) refl

-- so is each digit of a number
digits : (n : ℕ) → n < 2 ^ 64 → list_all is_id_byte (decimal n) ≡ true
digits n small =
    decimal_by_steps (λ m ds. list_all is_id_byte ds ≡ true)
    (λ m low. and_from (is_id_byte (48 + m)) true (digit m low) refl)
    (λ m ds high all. list_all-append is_id_byte ds ((48 + m % 10) ∷ []) ∙ and_from (list_all is_id_byte ds) (list_all is_id_byte ((48 + m % 10) ∷ [])) all (and_from (is_id_byte (48 + m % 10)) true (digit (m % 10) (omega arith)) refl))
    n small

-- a default id is an identifier
is_id-default : (k : ℕ) → k < 2 ^ 64 → is_id (default_id k) ≡ true
is_id-default k small =
    let short : length (decimal k) ≤ 20 = length-decimal-le 20 k (omega arith) (omega arith) small in
    let least : nat_le 1 (length (default_id k)) ≡ true = grind (arith, nat_tests) in
    let most : nat_le (length (default_id k)) 32 ≡ true = grind (arith, nat_tests) in
    and_from (nat_le 1 (length (default_id k)) && nat_le (length (default_id k)) 32) (list_all is_id_byte (default_id k))
    (and_from (nat_le 1 (length (default_id k))) (nat_le (length (default_id k)) 32) least most)
    (digits k small)

-- the lowest number that is free is at most the number of ids
lowest_free-le : (ids : List (List ℕ)) → lowest_free ids ≤ length ids
lowest_free-le ids = by (find (is_free ids) (range_with_len 0 (length ids))) (find-range (is_free ids) 0 (length ids))
  where
    by : (found : Option ℕ) → IsFirstPassing (is_free ids) 0 (length ids) found → unwrap_or found (length ids) ≤ length ids
    by None first = omega arith
    by (Some m) first = omega (arith, first.1)

-- the id that a disk gets is an identifier where the one that it is given is
pub good_id-with_id : (ids : List (List ℕ)) (disk : DiskConfig) → length ids < 2 ^ 64 → has_bad_id disk ≡ false → has_bad_id (with_id ids disk) ≡ false
good_id-with_id ids disk small good = by disk.id good
  where
    by : (given : Option (List ℕ)) → option_map_or (λ id. not (is_id id)) given false ≡ false → not (is_id (unwrap_or given (default_id (lowest_free ids)))) ≡ false
    by None good = ap not (is_id-default (lowest_free ids) (omega (arith, lowest_free-le ids, small)))
    by (Some id) good = good

-- the ids that disks get are identifiers where those that they are given are
pub good_ids-with_ids : (ids : List (List ℕ)) (disks : List DiskConfig) → length ids + length disks < 2 ^ 64 → list_any has_bad_id disks ≡ false → list_any has_bad_id (with_ids ids disks) ≡ false
good_ids-with_ids ids [] small good = refl
good_ids-with_ids ids (disk ∷ disks) small good =
    let parts : (has_bad_id disk ≡ false) × (list_any has_bad_id disks ≡ false) = or_parts (has_bad_id disk) (list_any has_bad_id disks) good in
    let next : List (List ℕ) = ids ++ id_beside ids disk ∷ [] in
    let fits : length next + length disks < 2 ^ 64 = omega (arith, length-append ids (id_beside ids disk ∷ []), small) in
    or_from (has_bad_id (with_id ids disk)) (list_any has_bad_id (with_ids next disks))
    (good_id-with_id ids disk (omega (arith, small)) parts.0)
    (good_ids-with_ids next disks fits parts.1)
