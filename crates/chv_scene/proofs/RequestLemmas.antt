-- A request that is read can stand in a scenario.
use Rattle.std.proofs.Common.{◌≡◌, ℕ, ◌+◌, ◌*◌, ◌==◌, ◌&&◌, not, nat_lt, Bool, true, false, cond, List, [], ◌∷◌, length, codes, Option, None, Some, option_map, Ok, Err, refl, sym, ◌∙◌, ap, subst, arith}
use Rattle.std.specs.Char.{digit_value}
use Rattle.std.specs.List.{list_all}
use Rattle.std.specs.Str.{bytes_eq}
use Rattle.std.proofs.lemmas.Bool.{and_parts, and_from, lt-ltb, cond-false, ne_eqb}
use Rattle.chv_defs_base.specs.Numbers.{is_hex_digit, bytes_in, bytes_of}
use Rattle.chv_defs_scene.specs.ScenarioLines.{Line, lines_of, onto_line, at_space, has_space, is_route_name, Part, Has, Ends, end_line, get_line, put_name, put_line, raw_line, session_word, session_line}
use Rattle.chv_defs_scene.specs.ScenarioText.{is_request}
use Rattle.chv_defs_scene.specs.declared.scene.Asked.{Asked}
use Rattle.chv_defs_scene.specs.declared.scene.Asked.TheVariants as asked
use Rattle.chv_defs_base.specs.declared.rule.Reason.TheVariants.{UnknownWord, FieldCount, BadName}
use Rattle.chv_num.proofs.HexSpelling.{chosen}
use Rattle.chv_num.proofs.PairBytes.{pairs_are_bytes, in_some}
use Rattle.chv_scene.proofs.SpellingLemmas.{by_test, no_fault, raw_is}

-- ---- texts without a line feed

-- whether no line feed stands in it
abbrev pub no_feed : List ℕ → Bool
no_feed text = list_all (λ b. not (b == 10)) text

-- whether none stands in any of the lines
abbrev pub feedless : List Line → Bool
feedless lines = list_all (λ (line : Line). no_feed line.text) lines

onto_feedless : (b : ℕ) (lines : List Line) → not (b == 10) ≡ true → feedless lines ≡ true → feedless (onto_line b lines) ≡ true
onto_feedless b [] is h = and_from _ _ (and_from _ _ is refl) refl
onto_feedless b (line ∷ lines) is h =
    let parts = and_parts (no_feed line.text) (feedless lines) h in
    and_from _ _ (and_from _ _ is parts.0) parts.1

byte_feedless : (v : Bool) (b : ℕ) (lines more : List Line) → (v ≡ false → not (b == 10) ≡ true) → feedless lines ≡ true → feedless more ≡ true → feedless (cond v (record { text = []; is_ended = true } ∷ lines) (onto_line b more)) ≡ true
byte_feedless true b lines more is h g = h
byte_feedless false b lines more is h g = onto_feedless b more (is refl) g

pub lines_feedless : (text : List ℕ) → feedless (lines_of text) ≡ true
lines_feedless [] = refl
lines_feedless (b ∷ bytes) = byte_feedless (b == 10) b (lines_of bytes) (lines_of bytes) (λ e. ap not e) (lines_feedless bytes) (lines_feedless bytes)

-- where there is a text, no line feed stands in it
abbrev no_feed_there : Option (List ℕ) → Bool
no_feed_there None = true
no_feed_there (Some text) = no_feed text

byte_behind : (v : Bool) (b : ℕ) (bytes : List ℕ) (parts : List ℕ × Option (List ℕ)) → no_feed bytes ≡ true → no_feed_there parts.1 ≡ true → let more : List ℕ × Option (List ℕ) = cond v ([], Some bytes) (b ∷ parts.0, parts.1) in no_feed_there more.1 ≡ true
byte_behind true b bytes parts h g = h
byte_behind false b bytes parts h g = g

behind_feedless : (text : List ℕ) → no_feed text ≡ true → no_feed_there (at_space text).1 ≡ true
behind_feedless [] h = refl
behind_feedless (b ∷ bytes) h =
    let parts = and_parts (not (b == 10)) (no_feed bytes) h in
    byte_behind (b == 32) b bytes (at_space bytes) parts.1 (behind_feedless bytes parts.1)

-- ---- bytes in pairs

-- a text that is not empty
of_some : (b : ℕ) (text : List ℕ) → bytes_of (b ∷ text) ≡ bytes_in (b ∷ text)
of_some b text = let more : length (b ∷ text) ≡ 0 → ⊥ = λ e. omega arith in cond-false (length (b ∷ text) == 0) None (bytes_in (b ∷ text)) (ne_eqb (length (b ∷ text)) 0 more)

mapped_some : (byte : ℕ) (found : Option (List ℕ)) (bytes : List ℕ) → option_map (λ bs. byte ∷ bs) found ≡ Some bytes → nat_lt 0 (length bytes) ≡ true
mapped_some byte None bytes e = absurd (cc)
mapped_some byte (Some rest) bytes e = let all : byte ∷ rest ≡ bytes = cc in subst (λ bs. nat_lt 0 (length bs) ≡ true) all (lt-ltb 0 _ (omega arith))

pub pairs_are_some : (text bytes : List ℕ) → bytes_of text ≡ Some bytes → nat_lt 0 (length bytes) ≡ true
pairs_are_some [] bytes e = absurd (cc)
pairs_are_some (high ∷ []) bytes e = absurd (cc)
pairs_are_some (high ∷ low ∷ text) bytes e =
    let found = chosen (is_hex_digit high && is_hex_digit low) _ bytes (sym (of_some high (low ∷ text)) ∙ e) in
    mapped_some (digit_value high * 16 + digit_value low) (bytes_in text) bytes found.1

-- ---- a line of a section

-- whether what a line means can stand in a scenario
abbrev pub is_good : {A : Type 0} → (A → Bool) → Part A → Bool
is_good test (Has thing) = test thing
is_good test Ends = true

named_good : (v : Bool) (request : Asked) (p : Part Asked) → (v ≡ true → is_request request ≡ true) → cond v (Ok (Has request)) (Err BadName) ≡ Ok p → is_good is_request p ≡ true
named_good true request p h e = let is : Has request ≡ p = cc in subst (λ q. is_good is_request q ≡ true) is (h refl)
named_good false request p h e = absurd (cc)

get_good : (fields : Option (List ℕ)) (p : Part Asked) → get_line fields ≡ Ok p → is_good is_request p ≡ true
get_good None p e = absurd (cc)
get_good (Some name) p e = named_good (is_route_name name) (asked.Get name) p (λ is. is) (no_fault (has_space name) FieldCount _ p e)

put_name_good : (name : List ℕ) (body : Option (List ℕ)) (p : Part Asked) → no_feed_there body ≡ true → put_name name body ≡ Ok p → is_good is_request p ≡ true
put_name_good name None p h e = named_good (is_route_name name) (asked.Put name None) p (λ is. is) e
put_name_good name (Some []) p h e = absurd (cc)
put_name_good name (Some (b ∷ body)) p h e =
    named_good (is_route_name name) (asked.Put name (Some (b ∷ body))) p
    (λ is. and_from _ _ (and_from _ _ is (lt-ltb 0 _ (omega arith))) h) e

put_good : (fields : Option (List ℕ)) (p : Part Asked) → no_feed_there fields ≡ true → put_line fields ≡ Ok p → is_good is_request p ≡ true
put_good None p h e = absurd (cc)
put_good (Some fields) p h e = put_name_good (at_space fields).0 (at_space fields).1 p (behind_feedless fields h) e

raw_good : (fields : Option (List ℕ)) (p : Part Asked) → raw_line fields ≡ Ok p → is_good is_request p ≡ true
raw_good None p e = absurd (cc)
raw_good (Some digits) p e =
    let found = raw_is (bytes_of digits) p (no_fault (has_space digits) FieldCount _ p e) in
    subst (λ q. is_good is_request q ≡ true) found.2
    (and_from _ _ (pairs_are_some digits found.0 found.1) (pairs_are_bytes digits found.0 (in_some digits found.0 found.1)))

pub end_good : {A : Type 0} (test : A → Bool) (fields : Option (List ℕ)) (p : Part A) → end_line fields ≡ Ok p → is_good test p ≡ true
end_good test None p e = let is : Ends ≡ p = cc in subst (λ q. is_good test q ≡ true) is refl
end_good test (Some fields) p e = absurd (cc)

word_good : (word : List ℕ) (fields : Option (List ℕ)) (p : Part Asked) → no_feed_there fields ≡ true → session_word word fields ≡ Ok p → is_good is_request p ≡ true
word_good word fields p h =
    by_test (bytes_eq word (codes "get")) (get_line fields) _ (Ok p) _ (λ test e. get_good fields p e) (
    by_test (bytes_eq word (codes "put")) (put_line fields) _ (Ok p) _ (λ test e. put_good fields p h e) (
    by_test (bytes_eq word (codes "raw")) (raw_line fields) _ (Ok p) _ (λ test e. raw_good fields p e) (
    by_test (bytes_eq word (codes "end")) (end_line fields) (Err UnknownWord) (Ok p) _ (λ test e. end_good is_request fields p e) (
    λ e. absurd (cc)))))

pub line_good : (text : List ℕ) (v : Bool) (p : Part Asked) → no_feed text ≡ true → session_line (record { text = text; is_ended = v }) ≡ Ok p → is_good is_request p ≡ true
line_good text true p h e = word_good (at_space text).0 (at_space text).1 p (behind_feedless text h) e
line_good text false p h e = absurd (cc)
