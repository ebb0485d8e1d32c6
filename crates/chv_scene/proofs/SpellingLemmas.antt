-- A line that is read is spelled as what it means: lines and their parts, and the lines of a session's section.
use Rattle.std.proofs.Common.{◌≡◌, ℕ, ◌==◌, Bool, true, false, cond, List, [], ◌∷◌, ◌++◌, codes, Option, None, Some, Result, Ok, Err, refl, sym, ◌∙◌, ap, ap₂}
use Rattle.std.specs.Str.{bytes_eq}
use Rattle.std.proofs.lemmas.Bool.{eqb-true}
use Rattle.std.proofs.lemmas.Slice.Eq.{bytes_eq-Decides}
use Rattle.chv_defs_base.specs.Numbers.{bytes_of}
use Rattle.chv_defs_scene.specs.ScenarioLines.{Line, lines_of, onto_line, at_space, has_space, is_route_name, Part, Has, Ends, end_line, get_line, put_name, put_line, raw_bytes, raw_line, session_word, session_line}
use Rattle.chv_defs_scene.specs.SceneText.{request_line}
use Rattle.chv_defs_scene.specs.declared.scene.Asked.{Asked}
use Rattle.chv_defs_scene.specs.declared.scene.Asked.TheVariants as asked
use Rattle.chv_defs_base.specs.declared.rule.Reason.{Reason}
use Rattle.chv_defs_base.specs.declared.rule.Reason.TheVariants.{UnknownWord, FieldCount, BadName}
use Rattle.chv_num.proofs.PairSpelling.{pairs_one_spelling}

-- ---- texts of parts

-- a text from what stands before the first space, and what stands behind it
abbrev pub joined : List ℕ → Option (List ℕ) → List ℕ
joined word None = word
joined word (Some fields) = word ++ 32 ∷ fields

-- a line with its line feed, where it has one
abbrev pub with_feed : Line → List ℕ
with_feed line = line.text ++ cond line.is_ended (codes "\n") []

abbrev pub lines_text : List Line → List ℕ
lines_text [] = []
lines_text (line ∷ lines) = with_feed line ++ lines_text lines

-- what a line of a section is spelled as
abbrev pub part_text : {A : Type 0} → (A → List ℕ) → Part A → List ℕ
part_text spell (Has thing) = spell thing
part_text spell Ends = codes "end\n"

-- ---- a text and its parts

joined_byte : (v : Bool) (b : ℕ) (bytes : List ℕ) (parts : List ℕ × Option (List ℕ)) → (v ≡ true → b ≡ 32) → joined parts.0 parts.1 ≡ bytes → let more : List ℕ × Option (List ℕ) = cond v ([], Some bytes) (b ∷ parts.0, parts.1) in joined more.0 more.1 ≡ b ∷ bytes
joined_byte true b bytes parts is h = ap (λ x. x ∷ bytes) (sym (is refl))
joined_byte false b bytes (word, None) is h = ap (λ bs. b ∷ bs) h
joined_byte false b bytes (word, Some fields) is h = ap (λ bs. b ∷ bs) h

pub at_space_joined : (text : List ℕ) → joined (at_space text).0 (at_space text).1 ≡ text
at_space_joined [] = refl
at_space_joined (b ∷ bytes) = joined_byte (b == 32) b bytes (at_space bytes) (eqb-true b 32) (at_space_joined bytes)

onto_text : (b : ℕ) (lines : List Line) → lines_text (onto_line b lines) ≡ b ∷ lines_text lines
onto_text b [] = refl
onto_text b (line ∷ lines) = refl

text_byte : (v : Bool) (b : ℕ) (bytes : List ℕ) → (v ≡ true → b ≡ 10) → lines_text (lines_of bytes) ≡ bytes → lines_text (cond v (record { text = []; is_ended = true } ∷ lines_of bytes) (onto_line b (lines_of bytes))) ≡ b ∷ bytes
text_byte true b bytes is h = ap₂ (λ x bs. x ∷ bs) (sym (is refl)) h
text_byte false b bytes is h = onto_text b (lines_of bytes) ∙ ap (λ bs. b ∷ bs) h

pub lines_of_text : (text : List ℕ) → lines_text (lines_of text) ≡ text
lines_of_text [] = refl
lines_of_text (b ∷ bytes) = text_byte (b == 10) b bytes (eqb-true b 10) (lines_of_text bytes)

-- ---- a line of a section

-- a choice that is c: the first where the test holds, or the second
pub by_test : {R : Type 0} (v : Bool) (x y c : R) (G : Type 0) → (v ≡ true → x ≡ c → G) → (y ≡ c → G) → cond v x y ≡ c → G
by_test true x y c G f g e = f refl e
by_test false x y c G f g e = g e

-- what is no fault is the other choice
pub no_fault : {A : Type 0} (v : Bool) (reason : Reason) (means : Result A Reason) (p : A) → cond v (Err reason) means ≡ Ok p → means ≡ Ok p
no_fault true reason means p e = absurd (cc)
no_fault false reason means p e = e

named_is : (v : Bool) (request : Asked) (p : Part Asked) → cond v (Ok (Has request)) (Err BadName) ≡ Ok p → Has request ≡ p
named_is true request p e = cc
named_is false request p e = absurd (cc)

get_spelled : (fields : Option (List ℕ)) (p : Part Asked) → get_line fields ≡ Ok p → joined (codes "get") fields ++ codes "\n" ≡ part_text request_line p
get_spelled None p e = absurd (cc)
get_spelled (Some name) p e = ap (part_text request_line) (named_is (is_route_name name) (asked.Get name) p (no_fault (has_space name) FieldCount _ p e))

put_name_spelled : (name : List ℕ) (body : Option (List ℕ)) (p : Part Asked) → put_name name body ≡ Ok p → (codes "put" ++ 32 ∷ joined name body) ++ codes "\n" ≡ part_text request_line p
put_name_spelled name None p e = ap (part_text request_line) (named_is (is_route_name name) (asked.Put name None) p e)
put_name_spelled name (Some []) p e = absurd (cc)
put_name_spelled name (Some (b ∷ body)) p e = ap (part_text request_line) (named_is (is_route_name name) (asked.Put name (Some (b ∷ body))) p e)

put_spelled : (fields : Option (List ℕ)) (p : Part Asked) → put_line fields ≡ Ok p → joined (codes "put") fields ++ codes "\n" ≡ part_text request_line p
put_spelled None p e = absurd (cc)
put_spelled (Some fields) p e =
    ap (λ text. (codes "put" ++ 32 ∷ text) ++ codes "\n") (sym (at_space_joined fields)) ∙ put_name_spelled (at_space fields).0 (at_space fields).1 p e

pub raw_is : (found : Option (List ℕ)) (p : Part Asked) → raw_bytes found ≡ Ok p → (bytes : List ℕ) × (found ≡ Some bytes) × (Has (asked.Raw bytes) ≡ p)
raw_is None p e = absurd (cc)
raw_is (Some bytes) p e = (bytes, refl, (cc))

raw_spelled : (fields : Option (List ℕ)) (p : Part Asked) → raw_line fields ≡ Ok p → joined (codes "raw") fields ++ codes "\n" ≡ part_text request_line p
raw_spelled None p e = absurd (cc)
raw_spelled (Some digits) p e =
    let found = raw_is (bytes_of digits) p (no_fault (has_space digits) FieldCount _ p e) in
    ap (λ text. (codes "raw" ++ 32 ∷ text) ++ codes "\n") (pairs_one_spelling digits found.0 found.1) ∙ ap (part_text request_line) found.2

pub end_spelled : {A : Type 0} (spell : A → List ℕ) (fields : Option (List ℕ)) (p : Part A) → end_line fields ≡ Ok p → joined (codes "end") fields ++ codes "\n" ≡ part_text spell p
end_spelled spell None p e = let is : Ends ≡ p = cc in ap (part_text spell) is
end_spelled spell (Some fields) p e = absurd (cc)

-- a word that is this one
pub is_word : (word other : List ℕ) (fields : Option (List ℕ)) (text : List ℕ) → joined other fields ++ codes "\n" ≡ text → bytes_eq word other ≡ true → joined word fields ++ codes "\n" ≡ text
is_word word other fields text h test = ap (λ w. joined w fields ++ codes "\n") ((bytes_eq-Decides word other).0 test) ∙ h

session_word_spelled : (word : List ℕ) (fields : Option (List ℕ)) (p : Part Asked) → session_word word fields ≡ Ok p → joined word fields ++ codes "\n" ≡ part_text request_line p
session_word_spelled word fields p =
    by_test (bytes_eq word (codes "get")) (get_line fields) _ (Ok p) _ (λ test e. is_word word (codes "get") fields (part_text request_line p) (get_spelled fields p e) test) (
    by_test (bytes_eq word (codes "put")) (put_line fields) _ (Ok p) _ (λ test e. is_word word (codes "put") fields (part_text request_line p) (put_spelled fields p e) test) (
    by_test (bytes_eq word (codes "raw")) (raw_line fields) _ (Ok p) _ (λ test e. is_word word (codes "raw") fields (part_text request_line p) (raw_spelled fields p e) test) (
    by_test (bytes_eq word (codes "end")) (end_line fields) (Err UnknownWord) (Ok p) _ (λ test e. is_word word (codes "end") fields (part_text request_line p) (end_spelled request_line fields p e) test) (
    λ e. absurd (cc)))))

pub session_line_spelled : (text : List ℕ) (v : Bool) (p : Part Asked) → session_line (record { text = text; is_ended = v }) ≡ Ok p → with_feed (record { text = text; is_ended = v }) ≡ part_text request_line p
session_line_spelled text true p e = ap (λ t. t ++ codes "\n") (sym (at_space_joined text)) ∙ session_word_spelled (at_space text).0 (at_space text).1 p e
session_line_spelled text false p e = absurd (cc)
