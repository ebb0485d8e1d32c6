-- Where some disks are left out, no disk is there that was not, and no text stands twice that stood once.
use Rattle.std.proofs.Common.{◌≡◌, ℕ, ◌≤◌, Bool, true, false, List, [], ◌∷◌, ◌++◌, Option, None, Some, refl, sym, ◌∙◌, ap, arith, length, append_assoc, cond}
use Rattle.std.specs.Prelude.{filter, map}
use Rattle.std.specs.List.{list_any, list_all, cons_option}
use Rattle.std.specs.Str.{bytes_eq}
use Rattle.std.proofs.lemmas.Bool.{and_from, and_parts, or_parts, or_from}
use Rattle.std.proofs.lemmas.List.Folds.{list_any-append}
use Rattle.chv_defs_api.specs.declared.config.DiskConfig.{DiskConfig}
use Rattle.chv_defs_api.specs.ConfigRules.{disk_name, given_ids, has_text, has_twice}

-- what holds of no disk holds of none that is left
pub list_any-filter : (test keep : DiskConfig → Bool) (disks : List DiskConfig) → list_any test disks ≡ false → list_any test (filter keep disks) ≡ false
list_any-filter test keep [] none = refl
list_any-filter test keep (disk ∷ disks) none =
    let parts : (test disk ≡ false) × (list_any test disks ≡ false) = or_parts (test disk) (list_any test disks) none in
    by (keep disk) parts.0 (list_any-filter test keep disks parts.1)
  where
    by : (b : Bool) → test disk ≡ false → list_any test (filter keep disks) ≡ false → list_any test (cond b (disk ∷ filter keep disks) (filter keep disks)) ≡ false
    by true here rest = or_from (test disk) (list_any test (filter keep disks)) here rest
    by false here rest = rest

-- what holds of each disk holds of each that is left
pub list_all-filter : (test keep : DiskConfig → Bool) (disks : List DiskConfig) → list_all test disks ≡ true → list_all test (filter keep disks) ≡ true
list_all-filter test keep [] each = refl
list_all-filter test keep (disk ∷ disks) each =
    let parts : (test disk ≡ true) × (list_all test disks ≡ true) = and_parts (test disk) (list_all test disks) each in
    by (keep disk) parts.0 (list_all-filter test keep disks parts.1)
  where
    by : (b : Bool) → test disk ≡ true → list_all test (filter keep disks) ≡ true → list_all test (cond b (disk ∷ filter keep disks) (filter keep disks)) ≡ true
    by true here rest = and_from (test disk) (list_all test (filter keep disks)) here rest
    by false here rest = rest

-- no more disks are left
pub length-filter-le : (keep : DiskConfig → Bool) (disks : List DiskConfig) → length (filter keep disks) ≤ length disks
length-filter-le keep [] = omega arith
length-filter-le keep (disk ∷ disks) = by (keep disk) (length-filter-le keep disks)
  where
    by : (b : Bool) → length (filter keep disks) ≤ length disks → length (cond b (disk ∷ filter keep disks) (filter keep disks)) ≤ length (disk ∷ disks)
    by true rest = omega (arith, rest)
    by false rest = omega (arith, rest)

-- without one text, still none stands twice
has_twice-drop : (xs ys : List (List ℕ)) (x : List ℕ) → has_twice (xs ++ x ∷ ys) ≡ false → has_twice (xs ++ ys) ≡ false
has_twice-drop [] ys x once = (or_parts (has_text ys x) (has_twice ys) once).1
has_twice-drop (z ∷ zs) ys x once =
    let parts : (has_text (zs ++ x ∷ ys) z ≡ false) × (has_twice (zs ++ x ∷ ys) ≡ false) = or_parts (has_text (zs ++ x ∷ ys) z) (has_twice (zs ++ x ∷ ys)) once in
    let among : (has_text zs z ≡ false) × (has_text (x ∷ ys) z ≡ false) = or_parts (has_text zs z) (has_text (x ∷ ys) z) (sym (list_any-append (bytes_eq z) zs (x ∷ ys)) ∙ parts.0) in
    let behind : (bytes_eq z x ≡ false) × (has_text ys z ≡ false) = or_parts (bytes_eq z x) (has_text ys z) among.1 in
    let here : has_text (zs ++ ys) z ≡ false = list_any-append (bytes_eq z) zs ys ∙ or_from (has_text zs z) (has_text ys z) among.0 behind.1 in
    or_from (has_text (zs ++ ys) z) (has_twice (zs ++ ys)) here (has_twice-drop zs ys x parts.1)

-- behind any texts: where none stands twice with these, none does with the others in their place
abbrev pub AreFewer : List (List ℕ) → List (List ℕ) → Type 0
AreFewer texts others = (front : List (List ℕ)) → has_twice (front ++ texts) ≡ false → has_twice (front ++ others) ≡ false

-- the same text, if there is one, before both
onto : (texts others : List (List ℕ)) (first : Option (List ℕ)) → AreFewer texts others → AreFewer (cons_option first texts) (cons_option first others)
onto texts others None fewer front once = fewer front once
onto texts others (Some text) fewer front once =
    let moved : has_twice ((front ++ text ∷ []) ++ texts) ≡ false = ap has_twice (append_assoc front (text ∷ []) texts) ∙ once in
    sym (ap has_twice (append_assoc front (text ∷ []) others)) ∙ fewer (front ++ text ∷ []) moved

-- a text, if there is one, left out
past : (texts others : List (List ℕ)) (first : Option (List ℕ)) → AreFewer texts others → AreFewer (cons_option first texts) others
past texts others None fewer front once = fewer front once
past texts others (Some text) fewer front once = fewer front (has_twice-drop front texts text once)

-- the names of the disks that are left
pub names-filter : (keep : DiskConfig → Bool) (disks : List DiskConfig) → AreFewer (map disk_name disks) (map disk_name (filter keep disks))
names-filter keep [] = λ front once. once
names-filter keep (disk ∷ disks) = by (keep disk) (names-filter keep disks)
  where
    by : (b : Bool) → AreFewer (map disk_name disks) (map disk_name (filter keep disks)) → AreFewer (map disk_name (disk ∷ disks)) (map disk_name (cond b (disk ∷ filter keep disks) (filter keep disks)))
    by true fewer = onto (map disk_name disks) (map disk_name (filter keep disks)) (Some (disk_name disk)) fewer
    by false fewer = past (map disk_name disks) (map disk_name (filter keep disks)) (Some (disk_name disk)) fewer

-- the ids of the disks that are left
pub ids-filter : (keep : DiskConfig → Bool) (disks : List DiskConfig) → AreFewer (given_ids disks) (given_ids (filter keep disks))
ids-filter keep [] = λ front once. once
ids-filter keep (disk ∷ disks) = by (keep disk) (ids-filter keep disks)
  where
    by : (b : Bool) → AreFewer (given_ids disks) (given_ids (filter keep disks)) → AreFewer (given_ids (disk ∷ disks)) (given_ids (cond b (disk ∷ filter keep disks) (filter keep disks)))
    by true fewer = onto (given_ids disks) (given_ids (filter keep disks)) disk.id fewer
    by false fewer = past (given_ids disks) (given_ids (filter keep disks)) disk.id fewer
