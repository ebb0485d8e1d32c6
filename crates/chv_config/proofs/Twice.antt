-- Texts among texts, and texts that stand twice.
use Rattle.std.proofs.Common.{◌≡◌, ℕ, Bool, true, false, List, [], ◌∷◌, ◌++◌, refl, sym, ◌∙◌, ap, append_assoc}
use Rattle.std.specs.Prelude.{◌||◌, ◌&&◌, not, map, cond}
use Rattle.std.specs.List.{list_any, list_all}
use Rattle.std.specs.Str.{bytes_eq}
use Rattle.std.specs.Cmp.{partial_equiv_from_equiv}
use Rattle.std.specs.Cmp.Lexicographic.{nat_list_eq_equiv}
use Rattle.std.proofs.lemmas.List.Folds.{list_any-append}
use Rattle.std.proofs.lemmas.Bool.{or_right}
use Rattle.chv_defs_api.specs.ConfigRules.{has_text, has_twice, is_unknown, disk_name}
use Rattle.chv_defs_api.specs.declared.config.DiskConfig.{DiskConfig}

pub bytes_eq_comm : (a b : List ℕ) → bytes_eq a b ≡ bytes_eq b a
bytes_eq_comm a b = (partial_equiv_from_equiv nat_list_eq_equiv).symm a b

or_false : (a : Bool) → (a || false) ≡ a
or_false true = refl
or_false false = refl

shuffle : (a b c d : Bool) → ((a || (b || false)) || (c || d)) ≡ ((a || c) || (b || d))
shuffle true b c d = refl
shuffle false true true d = refl
shuffle false true false d = refl
shuffle false false true d = refl
shuffle false false false d = refl

-- one text more at the end
pub has_twice-snoc : (xs : List (List ℕ)) (y : List ℕ) → has_twice (xs ++ y ∷ []) ≡ (has_twice xs || has_text xs y)
has_twice-snoc [] y = refl
has_twice-snoc (x ∷ xs) y =
    rw (list_any-append (bytes_eq x) xs (y ∷ []), has_twice-snoc xs y, bytes_eq_comm y x)
    (shuffle (has_text xs x) (bytes_eq x y) (has_twice xs) (has_text xs y))

or_cases : (a b c d : Bool) → (a || b) ≡ true → (b ≡ true → d ≡ true) → ((a || c) || d) ≡ true
or_cases true b c d h f = refl
or_cases false b true d h f = refl
or_cases false b false d h f = f h

-- what stands twice stands twice in a longer list
pub has_twice-append : (xs ys : List (List ℕ)) → has_twice xs ≡ true → has_twice (xs ++ ys) ≡ true
has_twice-append [] ys h = cc
has_twice-append (x ∷ xs) ys h =
    rw (list_any-append (bytes_eq x) xs ys)
    (or_cases (has_text xs x) (has_twice xs) (has_text ys x) (has_twice (xs ++ ys)) h (has_twice-append xs ys))

-- a text was seen before the rest: it stands twice
pub has_twice-seen : (xs : List (List ℕ)) (y : List ℕ) (ys : List (List ℕ)) → has_text xs y ≡ true → has_twice (xs ++ y ∷ ys) ≡ true
has_twice-seen xs y ys h =
    let twice : has_twice (xs ++ y ∷ []) ≡ true = has_twice-snoc xs y ∙ or_right (has_twice xs) (has_text xs y) h in
    let longer : has_twice ((xs ++ y ∷ []) ++ ys) ≡ true = has_twice-append (xs ++ y ∷ []) ys twice in
    rw append_assoc at longer

member : (b a : Bool) → cond b true a ≡ (a || (b || false))
member true true = refl
member true false = refl
member false true = refl
member false false = refl

-- the texts that were seen, and one more
pub seen-step : (old new xs : List (List ℕ)) (key : List ℕ) → ((q : List ℕ) → has_text new q ≡ cond (bytes_eq key q) true (has_text old q)) → ((q : List ℕ) → has_text old q ≡ has_text xs q) → (q : List ℕ) → has_text new q ≡ has_text (xs ++ key ∷ []) q
seen-step old new xs key step before q =
    rw (list_any-append (bytes_eq q) xs (key ∷ []), step q, before q, bytes_eq_comm q key)
    (member (bytes_eq key q) (has_text xs q))

-- the disks of which none is unknown are those whose names are all known
pub known_disks : (names : List (List ℕ)) (disks : List DiskConfig) → not (list_all (has_text names) (map disk_name disks)) ≡ list_any (is_unknown names) disks
known_disks names [] = refl
known_disks names (disk ∷ disks) = rw (← known_disks names disks) (both (has_text names (disk_name disk)) (list_all (has_text names) (map disk_name disks)))
  where
    both : (a b : Bool) → not (a && b) ≡ (not a || not b)
    both true b = refl
    both false b = refl

-- a key that was not added was there
pub was_there : (added there : Bool) → added ≡ not there → added ≡ false → there ≡ true
was_there added true e h = refl
was_there added false e h = cc

pub was_absent : (added there : Bool) → added ≡ not there → added ≡ true → there ≡ false
was_absent added true e h = cc
was_absent added false e h = refl

-- a text that was not seen: still none stands twice
pub has_twice-none : (xs : List (List ℕ)) (y : List ℕ) → has_twice xs ≡ false → has_text xs y ≡ false → has_twice (xs ++ y ∷ []) ≡ false
has_twice-none xs y h u = rw (has_twice-snoc xs y, h, u) refl

-- what was yielded and what is left is the list, one item on
pub items-step : (xs : List (List ℕ)) (y : List ℕ) (ys zs all : List (List ℕ)) → zs ≡ y ∷ ys → xs ++ zs ≡ all → (xs ++ y ∷ []) ++ ys ≡ all
items-step xs y ys zs all e h = append_assoc xs (y ∷ []) ys ∙ ap (λ r. xs ++ r) (sym e) ∙ h
