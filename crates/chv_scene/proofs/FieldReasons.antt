-- The fields behind a word of a scenario's line are judged by their kinds.
use Rattle.std.proofs.Common.{◌≡◌, inl, ℕ, ◌-◌, ◌^◌, ◌≤◌, ◌<◌, ◌==◌, ◌&&◌, ◌||◌, not, nat_le, Bool, true, false, cond, List, [], ◌∷◌, length, Option, None, Some, Result, Ok, Err, refl, sym, ◌∙◌, ap, subst, arith}
use Rattle.std.proofs.lemmas.Bool.{and_parts, and_from, leb-true, le-leb, ltb-true}
use Rattle.chv_defs_base.specs.Numbers.{is_decimal_digit, dec, bytes_of}
use Rattle.chv_defs_base.specs.declared.rule.Reason.{Reason}
use Rattle.chv_defs_base.specs.declared.rule.Reason.TheVariants.{FieldCount, BadNumber, BadHex, BadName}
use Rattle.chv_defs_scene.specs.declared.scene.Asked.{Asked}
use Rattle.chv_defs_scene.specs.declared.scene.OrderStep.{OrderStep}
use Rattle.chv_defs_scene.specs.LineShapes.{Kind, RouteName, Pairs, Number}
use Rattle.chv_defs_scene.specs.ScenarioLines.{at_space, has_space, is_route_name, Part, Has, named, raw_bytes, numbered, ranged}
use Rattle.chv_defs_scene.specs.ScriptReading.{fields_of}
use Rattle.chv_num.proofs.PairBytes.{pairs_are_bytes, in_some, byte_at}
use Rattle.chv_num.proofs.PairSpelling.{pairs_one_spelling, pairs_read_back}
use Rattle.chv_script.specs.Fields.{fields_behind}
use Rattle.chv_script.proofs.FieldLemmas.{no_space, only_field, field_there}
use Rattle.chv_script.proofs.KindLemmas.{dec_spelled, dec_again, number_small}
use Rattle.chv_script.proofs.ReasonLemmas.{Reads, Judges, wrong_count, right_count, all_judged}
use Rattle.chv_scene.proofs.SpellingLemmas.{raw_is}
use Rattle.chv_scene.proofs.RequestLemmas.{pairs_are_some}
use Rattle.chv_scene.proofs.ScriptLemmas.{first_of_fields}

-- ---- one field, or more

not_or : (v w : Bool) → (v || w) ≡ false → (not v ≡ true) × (w ≡ false)
not_or true w e = absurd (cc)
not_or false w e = (refl, e)

no_space_there : (text : List ℕ) → has_space text ≡ false → no_space text ≡ true
no_space_there [] h = refl
no_space_there (b ∷ bytes) h = let parts = not_or (b == 32) (has_space bytes) h in and_from _ _ parts.0 (no_space_there bytes parts.1)

-- a text without a space is one field
pub one_field_there : (text : List ℕ) → has_space text ≡ false → fields_of text ≡ text ∷ []
one_field_there text h = only_field text (no_space_there text h)

behind_byte : (v : Bool) (b : ℕ) (bytes : List ℕ) (parts : List ℕ × Option (List ℕ)) → (v || has_space bytes) ≡ true → (has_space bytes ≡ true → (rest : List ℕ) × (parts.1 ≡ Some rest)) → let more : List ℕ × Option (List ℕ) = cond v ([], Some bytes) (b ∷ parts.0, parts.1) in (rest : List ℕ) × (more.1 ≡ Some rest)
behind_byte true b bytes parts e h = (bytes, refl)
behind_byte false b bytes parts e h = h e

-- something stands behind a space
space_there : (text : List ℕ) → has_space text ≡ true → (rest : List ℕ) × ((at_space text).1 ≡ Some rest)
space_there [] e = absurd (cc)
space_there (b ∷ bytes) e = behind_byte (b == 32) b bytes (at_space bytes) e (space_there bytes)

-- a text with a space is more than one field
pub more_fields : (text : List ℕ) → has_space text ≡ true → 1 < length (fields_of text)
more_fields text h =
    let found = space_there text h in
    let all : fields_of text ≡ (at_space text).0 ∷ fields_of found.0 = first_of_fields text ∙ ap (λ behind. (at_space text).0 ∷ fields_behind behind) found.1 in
    let counted : length (fields_of text) ≡ length ((at_space text).0 ∷ fields_of found.0) = ap length all in
    let some = field_there found.0 in
    omega (arith, counted, some)

-- what is read of the only field
abbrev pub single : {B : Type 0} → (List ℕ → Result B Reason) → Option (List ℕ) → Result B Reason
single read None = Err FieldCount
single read (Some text) = cond (has_space text) (Err FieldCount) (read text)

pub single_judged : {B : Type 0} {read : List ℕ → Result B Reason} {kind : Kind} (reads : Reads read kind) (fields : Option (List ℕ)) → Judges (Some (kind ∷ [])) (fields_behind fields) (single read fields)
single_judged {kind = kind} reads None = wrong_count (kind ∷ []) [] _ (λ e. omega (arith, e)) refl
single_judged {read = read} {kind = kind} reads (Some text) = by_space (has_space text) refl
  where
    by_space : (v : Bool) → has_space text ≡ v → Judges (Some (kind ∷ [])) (fields_of text) (cond v (Err FieldCount) (read text))
    by_space true is = let more = more_fields text is in wrong_count (kind ∷ []) (fields_of text) _ (λ e. omega (arith, e, more)) refl
    by_space false is =
        subst (λ fields. Judges (Some (kind ∷ [])) fields (read text)) (sym (one_field_there text is))
        (right_count (kind ∷ []) (text ∷ []) (read text) refl (record { fits = λ x e. (reads.fits text x e, tt); fails = λ reason e. inl (reads.fails text reason e) }))

-- what is read of no field
abbrev pub nothing : {B : Type 0} → B → Option (List ℕ) → Result B Reason
nothing x None = Ok x
nothing x (Some text) = Err FieldCount

pub nothing_judged : {B : Type 0} (x : B) (fields : Option (List ℕ)) → Judges (Some []) (fields_behind fields) (nothing x fields)
nothing_judged x None = right_count [] [] _ refl (all_judged x)
nothing_judged x (Some text) = let some = field_there text in wrong_count [] (fields_of text) _ (λ e. omega (arith, e, some)) refl

-- ---- kinds of fields

test_passed : {B : Type 0} (v : Bool) (x y : B) (why : Reason) → cond v (Ok x) (Err why) ≡ Ok y → v ≡ true
test_passed true x y why e = refl
test_passed false x y why e = absurd (cc)

pub test_failed : {B : Type 0} (v : Bool) (x : B) (why reason : Reason) → cond v (Ok x) (Err why) ≡ Err reason → (v ≡ false) × (reason ≡ why)
test_failed true x why reason e = absurd (cc)
test_failed false x why reason e = (refl, (cc))

pub not_both : {v : Bool} → v ≡ false → v ≡ true → ⊥
not_both {v} h g = let both : false ≡ true = sym h ∙ g in cc

pub read_names : (request : List ℕ → Asked) → Reads (λ name. named name (request name)) RouteName
read_names request = record {
  fits = λ name p e. test_passed (is_route_name name) (Has (request name)) p BadName e;
  fails = λ name reason e. let found = test_failed (is_route_name name) (Has (request name)) BadName reason e in (λ is. not_both found.0 is, found.1);
}

raw_fails : (found : Option (List ℕ)) (reason : Reason) → raw_bytes found ≡ Err reason → (found ≡ None) × (reason ≡ BadHex)
raw_fails None reason e = (refl, (cc))
raw_fails (Some bytes) reason e = absurd (cc)

pub read_pairs : Reads (λ text. raw_bytes (bytes_of text)) Pairs
read_pairs = record {
  fits = λ text p e.
      let found = raw_is (bytes_of text) p e in
      (found.0, ltb-true 0 (length found.0) (pairs_are_some text found.0 found.1), pairs_are_bytes text found.0 (in_some text found.0 found.1), pairs_one_spelling text found.0 found.1);
  fails = λ text reason e.
      let found = raw_fails (bytes_of text) reason e in
      (λ is. let both : None ≡ Some is.0 = sym found.0 ∙ (ap bytes_of is.3 ∙ pairs_read_back is.0 (byte_at is.0 is.2) is.1) in cc, found.1);
}

numbered_fails : (make : ℕ → OrderStep) (found : Option ℕ) (reason : Reason) → numbered make found ≡ Err reason → (found ≡ None) × (reason ≡ BadNumber)
numbered_fails make None reason e = (refl, (cc))
numbered_fails make (Some n) reason e = absurd (cc)

numbered_some : (make : ℕ → OrderStep) (found : Option ℕ) (p : Part OrderStep) → numbered make found ≡ Ok p → (n : ℕ) × (found ≡ Some n)
numbered_some make None p e = absurd (cc)
numbered_some make (Some n) p e = (n, refl)

pub read_numbers : (make : ℕ → OrderStep) → Reads (λ text. numbered make (dec text)) (Number 0 (2 ^ 64 - 1))
read_numbers make = record {
  fits = λ text p e.
      let found = numbered_some make (dec text) p e in
      let small = ltb-true found.0 (2 ^ 64) (number_small 10 is_decimal_digit text found.0 found.1) in
      (found.0, omega arith, omega (arith, small), dec_spelled text found.0 found.1);
  fails = λ text reason e.
      let found = numbered_fails make (dec text) reason e in
      (λ is. let most = is.2 in let both : None ≡ Some is.0 = sym found.0 ∙ (ap dec is.3 ∙ dec_again is.0 (omega (arith, most))) in cc, found.1);
}

ranged_some : (low high : ℕ) (found : Option ℕ) (n : ℕ) → ranged low high found ≡ Ok n → (found ≡ Some n) × (low ≤ n) × (n ≤ high)
ranged_some low high None n e = absurd (cc)
ranged_some low high (Some m) n e =
    let tests = and_parts (nat_le low m) (nat_le m high) (test_passed (nat_le low m && nat_le m high) m n BadNumber e) in
    let is : m ≡ n = by_test (nat_le low m && nat_le m high) e in
    (ap Some is, subst (λ k. low ≤ k) is (leb-true low m tests.0), subst (λ k. k ≤ high) is (leb-true m high tests.1))
  where
    by_test : (v : Bool) → cond v (Ok m) (Err BadNumber) ≡ Ok n → m ≡ n
    by_test true e = cc
    by_test false e = absurd (cc)

ranged_fails : (low high : ℕ) (found : Option ℕ) (reason : Reason) → ranged low high found ≡ Err reason → (reason ≡ BadNumber) × ((n : ℕ) → found ≡ Some n → low ≤ n → n ≤ high → ⊥)
ranged_fails low high None reason e = ((cc), λ n is l h. absurd (cc))
ranged_fails low high (Some m) reason e =
    let found = test_failed (nat_le low m && nat_le m high) m BadNumber reason e in (
      found.1,
      λ n is l h.
          let same : m ≡ n = cc in
          not_both found.0 (subst (λ k. (nat_le low k && nat_le k high) ≡ true) (sym same) (and_from _ _ (le-leb low n l) (le-leb n high h))),
    )

pub read_ranged : (low high : ℕ) → high < 2 ^ 64 → Reads (λ text. ranged low high (dec text)) (Number low high)
read_ranged low high small = record {
  fits = λ text n e.
      let found = ranged_some low high (dec text) n e in
      (n, found.1, found.2, dec_spelled text n found.0);
  fails = λ text reason e.
      let found = ranged_fails low high (dec text) reason e in
      (λ is. let most = is.2 in found.1 is.0 (ap dec is.3 ∙ dec_again is.0 (omega (arith, small, most))) is.1 is.2, found.0);
}
