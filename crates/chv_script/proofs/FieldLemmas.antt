-- The fields of a line, and labels as texts.
use Rattle.std.proofs.Common.{◌≡◌, ℕ, ◌+◌, ◌<◌, ◌≤◌, ◌==◌, ◌&&◌, not, nat_le, Bool, true, false, List, [], ◌∷◌, ◌++◌, length, take, drop, get_or, Result, Ok, Err, refl, sym, ◌∙◌, ap, subst, arith}
use Rattle.std.specs.List.{list_all, All, onto_first}
use Rattle.std.specs.Str.{IsUtf8}
use Rattle.std.proofs.lemmas.Bool.{and_parts, cond-false}
use Rattle.std.proofs.lemmas.Bool.Decides.{nat_tests}
use Rattle.std.proofs.lemmas.List.{take-append-drop, take_all, drop_more}
use Rattle.std.proofs.lemmas.List.Splits.{length-slice_split}
use Rattle.std.proofs.lemmas.List.Elements.{All-nil, All-cons}
use Rattle.std.proofs.lemmas.Str.{IsUtf8-from_ascii}
use Rattle.std.proofs.lemmas.Str.Ascii.{IsAscii-from_all}
use Rattle.chv_defs_base.specs.Id.{is_id, is_id_byte}
use Rattle.chv_defs_base.specs.declared.rule.Reason.{Reason}
use Rattle.chv_defs_base.specs.declared.rule.Reason.TheVariants.{FieldCount}
use Rattle.chv_defs_scene.specs.declared.scene.Line.{Line}
use Rattle.chv_defs_scene.specs.ScriptReading.{◌>>=◌, fields_of, one, two, three, four, with_none}
use Rattle.chv_script.specs.Answer.{Fails}
use Rattle.chv_script.specs.Fields.{first_of}
use Rattle.chv_script.specs.declared.stop.Stop.{Stop}
use Rattle.chv_script.specs.declared.stop.Stop.TheVariants as stop

-- ---- fields

-- whether no space stands in a text
abbrev pub no_space : List ℕ → Bool
no_space text = list_all (λ b. not (b == 32)) text

pub not_is : (v : Bool) → not v ≡ true → v ≡ false
not_is true h = absurd (cc)
not_is false h = refl

-- the field before a space, and those behind it
pub first_field : (text rest : List ℕ) → no_space text ≡ true → fields_of (text ++ 32 ∷ rest) ≡ text ∷ fields_of rest
first_field [] rest h = refl
first_field (b ∷ bytes) rest h =
    let parts = and_parts (not (b == 32)) (no_space bytes) h in
    cond-false (b == 32) ([] ∷ fields_of (bytes ++ 32 ∷ rest)) (onto_first b (fields_of (bytes ++ 32 ∷ rest))) (not_is (b == 32) parts.0)
    ∙ ap (onto_first b) (first_field bytes rest parts.1)

-- the only field
pub only_field : (text : List ℕ) → no_space text ≡ true → fields_of text ≡ text ∷ []
only_field [] h = refl
only_field (b ∷ bytes) h =
    let parts = and_parts (not (b == 32)) (no_space bytes) h in
    cond-false (b == 32) ([] ∷ fields_of bytes) (onto_first b (fields_of bytes)) (not_is (b == 32) parts.0)
    ∙ ap (onto_first b) (only_field bytes parts.1)

-- the next byte is a space
pub field_at : (text : List ℕ) (i : ℕ) → i < length text → no_space (take i text) ≡ true → get_or text i 0 ≡ 32 → fields_of text ≡ take i text ∷ fields_of (drop (i + 1) text)
field_at text i h before next =
    ap fields_of (sym (take-append-drop i text) ∙ ap (λ rest. take i text ++ rest) (drop_more text i 0 h ∙ ap (λ b. b ∷ drop (i + 1) text) next))
    ∙ first_field (take i text) (drop (i + 1) text) before

-- no space stands in the whole
pub whole : (text : List ℕ) (i : ℕ) → length text ≤ i → no_space (take i text) ≡ true → no_space text ≡ true
whole text i h before = ap no_space (sym (take_all i text h)) ∙ before

-- each line has a field
pub field_there : (text : List ℕ) → 0 < length (fields_of text)
field_there text = let parts = length-slice_split (λ b. b == 32) text in omega (arith, parts)

no_room : (fields : List (List ℕ)) (l : Line) → 0 < length fields → with_none l fields ≡ Err FieldCount
unfolding with_none
no_room [] l h = absurd (omega arith)
no_room (field ∷ fields) l h = refl

pub some_fields : (text : List ℕ) (l : Line) → with_none l (fields_of text) ≡ Err FieldCount
some_fields text l = no_room (fields_of text) l (field_there text)

-- ---- exactly so many fields

-- a failure goes before what comes next
fails_first : {A B : Type 0} (e : Stop) (r : Result A Reason) (f : A → Result B Reason) → Fails e r → Fails e (r >>= f)
fails_first stop.Memory r f h = tt
fails_first (stop.Refused reason) (Ok x) f h = absurd (cc)
fails_first (stop.Refused reason) (Err e) f h = let same : e ≡ reason = cc in ap Err same

fails_next : {A B : Type 0} (e : Stop) (r : Result A Reason) (f : A → Result B Reason) (x : A) → r ≡ Ok x → Fails e (f x) → Fails e (r >>= f)
fails_next e r f x is h = subst (λ r. Fails e (r >>= f)) (sym is) h

goes_on : {A B : Type 0} (r : Result A Reason) (f : A → Result B Reason) (x : A) → r ≡ Ok x → (r >>= f) ≡ f x
goes_on r f x is = ap (λ r. r >>= f) is

alone : List ℕ → List (List ℕ) → Result (List ℕ) Reason
alone a [] = Ok a
alone a (b ∷ fields) = Err FieldCount

one_is : (fields : List (List ℕ)) → one fields ≡ (first_of fields >>= λ x. alone x.0 x.1)
unfolding one first_of alone
one_is [] = refl
one_is (a ∷ []) = refl
one_is (a ∷ b ∷ fields) = refl

two_is : (fields : List (List ℕ)) → two fields ≡ (first_of fields >>= λ x. one x.1 >>= λ b. Ok (x.0, b))
unfolding one two first_of
two_is [] = refl
two_is (a ∷ []) = refl
two_is (a ∷ b ∷ []) = refl
two_is (a ∷ b ∷ c ∷ fields) = refl

three_is : (fields : List (List ℕ)) → three fields ≡ (first_of fields >>= λ x. two x.1 >>= λ y. Ok (x.0, y.0, y.1))
unfolding two three first_of
three_is [] = refl
three_is (a ∷ []) = refl
three_is (a ∷ b ∷ []) = refl
three_is (a ∷ b ∷ c ∷ []) = refl
three_is (a ∷ b ∷ c ∷ d ∷ fields) = refl

four_is : (fields : List (List ℕ)) → four fields ≡ (first_of fields >>= λ x. three x.1 >>= λ y. Ok (x.0, y.0, y.1, y.2))
unfolding three four first_of
four_is [] = refl
four_is (a ∷ []) = refl
four_is (a ∷ b ∷ []) = refl
four_is (a ∷ b ∷ c ∷ []) = refl
four_is (a ∷ b ∷ c ∷ d ∷ []) = refl
four_is (a ∷ b ∷ c ∷ d ∷ e ∷ fields) = refl

pub one_first : (e : Stop) (fields : List (List ℕ)) → Fails e (first_of fields) → Fails e (one fields)
one_first e fields h = subst (Fails e) (sym (one_is fields)) (fails_first e (first_of fields) _ h)

pub one_alone : (fields : List (List ℕ)) (a : List ℕ) (rest : List (List ℕ)) → first_of fields ≡ Ok (a, rest) → rest ≡ [] → one fields ≡ Ok a
unfolding alone
one_alone fields a rest is none = one_is fields ∙ (goes_on (first_of fields) _ (a, rest) is ∙ ap (alone a) none)

more_than_one : (a : List ℕ) (rest : List (List ℕ)) → 0 < length rest → alone a rest ≡ Err FieldCount
unfolding alone
more_than_one a [] h = absurd (omega arith)
more_than_one a (b ∷ rest) h = refl

pub one_more : (fields : List (List ℕ)) (a : List ℕ) (rest : List (List ℕ)) → first_of fields ≡ Ok (a, rest) → 0 < length rest → one fields ≡ Err FieldCount
one_more fields a rest is some = one_is fields ∙ (goes_on (first_of fields) _ (a, rest) is ∙ more_than_one a rest some)

pub two_first : (e : Stop) (fields : List (List ℕ)) → Fails e (first_of fields) → Fails e (two fields)
two_first e fields h = subst (Fails e) (sym (two_is fields)) (fails_first e (first_of fields) _ h)

pub two_rest : (e : Stop) (fields : List (List ℕ)) (a : List ℕ) (rest : List (List ℕ)) → first_of fields ≡ Ok (a, rest) → Fails e (one rest) → Fails e (two fields)
two_rest e fields a rest is h = subst (Fails e) (sym (two_is fields)) (fails_next e (first_of fields) _ (a, rest) is (fails_first e (one rest) _ h))

pub two_are : (fields : List (List ℕ)) (a : List ℕ) (rest : List (List ℕ)) (b : List ℕ) → first_of fields ≡ Ok (a, rest) → one rest ≡ Ok b → two fields ≡ Ok (a, b)
two_are fields a rest b is then = two_is fields ∙ (goes_on (first_of fields) _ (a, rest) is ∙ goes_on (one rest) _ b then)

pub three_first : (e : Stop) (fields : List (List ℕ)) → Fails e (first_of fields) → Fails e (three fields)
three_first e fields h = subst (Fails e) (sym (three_is fields)) (fails_first e (first_of fields) _ h)

pub three_rest : (e : Stop) (fields : List (List ℕ)) (a : List ℕ) (rest : List (List ℕ)) → first_of fields ≡ Ok (a, rest) → Fails e (two rest) → Fails e (three fields)
three_rest e fields a rest is h = subst (Fails e) (sym (three_is fields)) (fails_next e (first_of fields) _ (a, rest) is (fails_first e (two rest) _ h))

pub three_are : (fields : List (List ℕ)) (a : List ℕ) (rest : List (List ℕ)) (b : List ℕ × List ℕ) → first_of fields ≡ Ok (a, rest) → two rest ≡ Ok b → three fields ≡ Ok (a, b.0, b.1)
three_are fields a rest b is then = three_is fields ∙ (goes_on (first_of fields) _ (a, rest) is ∙ goes_on (two rest) _ b then)

pub four_first : (e : Stop) (fields : List (List ℕ)) → Fails e (first_of fields) → Fails e (four fields)
four_first e fields h = subst (Fails e) (sym (four_is fields)) (fails_first e (first_of fields) _ h)

pub four_rest : (e : Stop) (fields : List (List ℕ)) (a : List ℕ) (rest : List (List ℕ)) → first_of fields ≡ Ok (a, rest) → Fails e (three rest) → Fails e (four fields)
four_rest e fields a rest is h = subst (Fails e) (sym (four_is fields)) (fails_next e (first_of fields) _ (a, rest) is (fails_first e (three rest) _ h))

pub four_are : (fields : List (List ℕ)) (a : List ℕ) (rest : List (List ℕ)) (b : List ℕ × List ℕ × List ℕ) → first_of fields ≡ Ok (a, rest) → three rest ≡ Ok b → four fields ≡ Ok (a, b.0, b.1, b.2)
four_are fields a rest b is then = four_is fields ∙ (goes_on (first_of fields) _ (a, rest) is ∙ goes_on (three rest) _ b then)

-- ---- labels

ascii_byte : (b : ℕ) → is_id_byte b ≡ true → b < 128
ascii_byte b h = grind (arith, nat_tests)

all_ascii : (bytes : List ℕ) → list_all is_id_byte bytes ≡ true → All (λ b. b < 128) bytes
all_ascii [] h = All-nil (λ b. b < 128)
all_ascii (b ∷ bytes) h =
    let parts = and_parts (is_id_byte b) (list_all is_id_byte bytes) h in
    All-cons (λ b. b < 128) b bytes (ascii_byte b parts.0) (all_ascii bytes parts.1)

-- an identifier is a text
pub id_is_text : (name : List ℕ) → is_id name ≡ true → IsUtf8 name
id_is_text name h =
    let parts = and_parts (nat_le 1 (length name) && nat_le (length name) 32) (list_all is_id_byte name) h in
    IsUtf8-from_ascii name (IsAscii-from_all name (all_ascii name parts.1))
