-- The lines of a printed head spell its parts.
use Rattle.std.proofs.Common.{◌≡◌, ℕ, suc, ◌+◌, ◌-◌, ◌<◌, ◌≤◌, Bool, true, false, ◌&&◌, ◌==◌, List, [], ◌∷◌, ◌++◌, length, get_or, flat_map, append_assoc, refl, sym, ap, ◌∙◌, arith, All}
use Rattle.std.specs.Prelude.{⊤}
use Rattle.std.proofs.lemmas.Bool.Decides.{nat_tests}
use Rattle.std.proofs.lemmas.List.Sums.{list_all-from_AllPass}
use Rattle.std.specs.List.{list_all}
use Rattle.httparse.specs.Grammar.{LineEnd, crlf, lf, print_end, print_blank, print_version, Field, print_field, IsField, print_section, RequestHead, print_request, IsRequestHead, is_token_byte, is_uri_byte, is_value_byte, AllPass}
use Rattle.httparse.proofs.GrammarLemmas.{print_request-append}
use Rattle.chv_defs_api.specs.StreamCut.{Line, onto_line, lines_of, before, behind, field_of, fields_in, last_end, parts_of}

pub both : (a b : Bool) → (a && b) ≡ true → (a ≡ true) × (b ≡ true)
both true b e = (refl, e)
both false b e = cc e

pub other : (a b : ℕ) → ¬ (a ≡ b) → (a == b) ≡ false
other a b differs = grind (arith, nat_tests)

-- ---- lines

-- a byte that ends no line
abbrev Plain : ℕ → Type 0
Plain b = ((b == 10) ≡ false) × ((b == 13) ≡ false)

abbrev AllPlain : List ℕ → Type 0
AllPlain [] = ⊤
AllPlain (b ∷ bytes) = Plain b × AllPlain bytes

plain_from : (test : ℕ → Bool) → test 10 ≡ false → test 13 ≡ false → (bytes : List ℕ) → list_all test bytes ≡ true → AllPlain bytes
plain_from test feed return [] all = tt
plain_from test feed return (b ∷ bytes) all =
    let here = both (test b) (list_all test bytes) all in (
      (
        other b 10 (λ e. cc (ap test e, here.0, feed)),
        other b 13 (λ e. cc (ap test e, here.0, return)),
      ),
      plain_from test feed return bytes here.1,
    )

plain_append : (a b : List ℕ) → AllPlain a → AllPlain b → AllPlain (a ++ b)
plain_append [] b x y = y
plain_append (c ∷ a) b x y = (x.0, plain_append a b x.1 y)

onto_plain : (b : ℕ) (line : List ℕ) (end : LineEnd) (lines : List Line) → (b == 13) ≡ false
    → onto_line b ((line, end) ∷ lines) ≡ (b ∷ line, end) ∷ lines
onto_plain b [] crlf lines e = refl
onto_plain b [] lf lines e = rw e refl
onto_plain b (c ∷ line) end lines e = refl

lines_end : (end : LineEnd) (rest : List ℕ) → lines_of (print_end end ++ rest) ≡ ([], end) ∷ lines_of rest
lines_end crlf rest = refl
lines_end lf rest = refl

lines_line : (text : List ℕ) (end : LineEnd) (rest : List ℕ) → AllPlain text
    → lines_of (text ++ (print_end end ++ rest)) ≡ (text, end) ∷ lines_of rest
lines_line [] end rest plain = lines_end end rest
lines_line (b ∷ text) end rest plain =
    let feed = plain.0.0 in
    rw (feed, lines_line text end rest plain.1) (onto_plain b text end (lines_of rest) plain.0.1)

-- ---- words

-- each byte is another than c
abbrev AllOther : ℕ → List ℕ → Type 0
AllOther c [] = ⊤
AllOther c (b ∷ bytes) = ((b == c) ≡ false) × AllOther c bytes

other_from : (test : ℕ → Bool) (c : ℕ) → test c ≡ false → (bytes : List ℕ) → list_all test bytes ≡ true → AllOther c bytes
other_from test c never [] all = tt
other_from test c never (b ∷ bytes) all =
    let here = both (test b) (list_all test bytes) all in
    (other b c (λ e. cc (ap test e, here.0, never)), other_from test c never bytes here.1)

before_word : (c : ℕ) (word rest : List ℕ) → AllOther c word → before c (word ++ c ∷ rest) ≡ word
before_word c [] rest others = let same : (c == c) ≡ true = grind (arith, nat_tests) in rw same refl
before_word c (b ∷ word) rest others = let e = others.0 in rw (e, before_word c word rest others.1) refl

behind_word : (c : ℕ) (word rest : List ℕ) → AllOther c word → behind c (word ++ c ∷ rest) ≡ rest
behind_word c [] rest others = let same : (c == c) ≡ true = grind (arith, nat_tests) in rw same refl
behind_word c (b ∷ word) rest others = let e = others.0 in rw e (behind_word c word rest others.1)

token_other : (c : ℕ) (bytes : List ℕ) → is_token_byte c ≡ false → AllPass is_token_byte bytes → AllOther c bytes
token_other c bytes never all = other_from is_token_byte c never bytes (list_all-from_AllPass is_token_byte bytes all)

token_never : (is_token_byte 10 ≡ false) × (is_token_byte 13 ≡ false) × (is_token_byte 32 ≡ false) × (is_token_byte 58 ≡ false)
unfolding is_token_byte
token_never = (refl, refl, refl, refl)

token_plain : (bytes : List ℕ) → AllPass is_token_byte bytes → AllPlain bytes
token_plain bytes all =
    plain_from is_token_byte token_never.0 token_never.1 bytes (list_all-from_AllPass is_token_byte bytes all)

uri_plain : (bytes : List ℕ) → AllPass is_uri_byte bytes → AllPlain bytes
uri_plain bytes all = plain_from is_uri_byte refl refl bytes (list_all-from_AllPass is_uri_byte bytes all)

pub value_plain : (bytes : List ℕ) → AllPass is_value_byte bytes → AllPlain bytes
value_plain bytes all = plain_from is_value_byte refl refl bytes (list_all-from_AllPass is_value_byte bytes all)

-- ---- fields

field_plain : (f : Field) → IsField f → AllPlain (f.name ++ 58 ∷ f.raw)
field_plain f is =
    plain_append f.name (58 ∷ f.raw) (token_plain f.name is.name.1) ((refl, refl), value_plain f.raw is.raw)

field_again : (f : Field) → IsField f → field_of (f.name ++ 58 ∷ f.raw, f.end) ≡ f
field_again f is =
    let others = token_other 58 f.name token_never.3 is.name.1 in
    let name = before_word 58 f.name f.raw others in
    let raw = behind_word 58 f.name f.raw others in
    rw (name, raw) refl

-- a field's line before the others
fields_step : (line : List ℕ) (end : LineEnd) (lines : List Line) → 0 < length line
    → fields_in ((line, end) ∷ lines) ≡ field_of (line, end) ∷ fields_in lines
fields_step [] end lines some = absurd (omega arith)
fields_step (b ∷ line) end lines some = refl

end_step : (line : List ℕ) (end : LineEnd) (lines : List Line) → 0 < length line
    → last_end ((line, end) ∷ lines) ≡ last_end lines
end_step [] end lines some = absurd (omega arith)
end_step (b ∷ line) end lines some = refl

some_append : (a b : List ℕ) → 0 < length a → 0 < length (a ++ b)
some_append [] b some = absurd (omega arith)
some_append (c ∷ a) b some = omega arith

-- the bytes of a field and what follows, as a line and the rest
field_bytes : (f : Field) (fields : List Field) (last : LineEnd) (rest : List ℕ)
    → print_section (f ∷ fields) last ++ rest
    ≡ (f.name ++ 58 ∷ f.raw) ++ (print_end f.end ++ (print_section fields last ++ rest))
field_bytes f fields last rest = regroup (f.name ++ 58 ∷ f.raw) (print_end f.end) (flat_map print_field fields) (print_end last) rest
  where
    regroup : (a b c d r : List ℕ) → (((a ++ b) ++ c) ++ d) ++ r ≡ a ++ (b ++ ((c ++ d) ++ r))
    regroup a b c d r = simp append_assoc

section_lines : (fields : List Field) (last : LineEnd) (rest : List ℕ) → All IsField fields
    → (fields_in (lines_of (print_section fields last ++ rest)) ≡ fields)
    × (last_end (lines_of (print_section fields last ++ rest)) ≡ last)
section_lines [] last rest all =
    let e = lines_end last rest in
    (ap fields_in e, ap last_end e)
section_lines (f ∷ fields) last rest all =
    let is : IsField f = all 0 f (omega arith) in
    let others : All IsField fields = λ k d below. all (suc k) d (omega arith) in
    let text = f.name ++ 58 ∷ f.raw in
    let some : 0 < length text = some_append f.name (58 ∷ f.raw) is.name.0 in
    let lines = ap lines_of (field_bytes f fields last rest)
    ∙ lines_line text f.end (print_section fields last ++ rest) (field_plain f is) in
    let more = section_lines fields last rest others in
    let again = field_again f is in
    let first = ap fields_in lines ∙ fields_step text f.end (lines_of (print_section fields last ++ rest)) some in
    let second = ap last_end lines ∙ end_step text f.end (lines_of (print_section fields last ++ rest)) some in
    let tail = more.0 in
    (first ∙ ap (λ x. x ∷ fields_in (lines_of (print_section fields last ++ rest))) again ∙ ap (λ xs. f ∷ xs) tail, second ∙ more.1)

-- ---- the whole head

version_plain : (minor : ℕ) → minor ≤ 1 → AllPlain (print_version minor)
version_plain minor small =
    let digit : Plain (48 + minor) = (other (48 + minor) 10 (λ e. omega arith), other (48 + minor) 13 (λ e. omega arith)) in
    ((refl, refl), ((refl, refl), ((refl, refl), ((refl, refl), ((refl, refl), ((refl, refl), ((refl, refl), (digit, tt))))))))

-- the bytes of a request line
abbrev pub request_text : RequestHead → List ℕ
request_text h = h.method ++ 32 ∷ (h.target ++ 32 ∷ print_version h.minor)

request_plain : (h : RequestHead) → IsRequestHead h → AllPlain (request_text h)
request_plain h is =
    plain_append h.method (32 ∷ (h.target ++ 32 ∷ print_version h.minor)) (token_plain h.method is.method.1) (
      (refl, refl),
      plain_append h.target (32 ∷ print_version h.minor) (uri_plain h.target is.target.1)
          ((refl, refl), version_plain h.minor is.minor),
    )

abbrev with_blank : List LineEnd → RequestHead → RequestHead
with_blank [] h = h
with_blank (end ∷ ends) h = let head = with_blank ends h in record head { blank = end ∷ head.blank }

blank_lines : (ends : List LineEnd) (rest : List ℕ)
    → parts_of (lines_of (print_blank ends ++ rest)) ≡ with_blank ends (parts_of (lines_of rest))
blank_lines [] rest = refl
blank_lines (end ∷ ends) rest =
    ap (λ b. parts_of (lines_of b)) (append_assoc (print_end end) (print_blank ends) rest)
    ∙ ap parts_of (lines_end end (print_blank ends ++ rest))
    ∙ ap (λ h. let head : RequestHead = h in record head { blank = end ∷ head.blank }) (blank_lines ends rest)

-- a head without its empty lines
abbrev without_blank : RequestHead → RequestHead
without_blank h = record h { blank = [] }

blank_again : (ends : List LineEnd) (h : RequestHead) → with_blank ends (without_blank h) ≡ record h { blank = ends }
blank_again [] h = refl
blank_again (end ∷ ends) h =
    ap (λ x. let head : RequestHead = x in record head { blank = end ∷ head.blank }) (blank_again ends h)

abbrev parts_of_line : List ℕ → LineEnd → List Line → RequestHead
parts_of_line line end lines = record {
  blank = [];
  method = before 32 line;
  target = before 32 (behind 32 line);
  minor = get_or (behind 32 (behind 32 line)) 7 0 - 48;
  line_end = end;
  fields = fields_in lines;
  last = last_end lines;
}

parts_step : (line : List ℕ) (end : LineEnd) (lines : List Line) → 0 < length line
    → parts_of ((line, end) ∷ lines) ≡ parts_of_line line end lines
parts_step [] end lines some = absurd (omega arith)
parts_step (b ∷ line) end lines some = refl

group : (a b v r : List ℕ) → a ++ 32 ∷ (b ++ 32 ∷ (v ++ r)) ≡ (a ++ 32 ∷ (b ++ 32 ∷ v)) ++ r
group a b v r = sym (append_assoc a (32 ∷ (b ++ 32 ∷ v)) r ∙ ap (λ x. a ++ 32 ∷ x) (append_assoc b (32 ∷ v) r))

uri_other : (bytes : List ℕ) → AllPass is_uri_byte bytes → AllOther 32 bytes
uri_other bytes all = other_from is_uri_byte 32 refl bytes (list_all-from_AllPass is_uri_byte bytes all)

digit_again : (minor : ℕ) → get_or (print_version minor) 7 0 - 48 ≡ minor
digit_again minor = omega arith

words_again : (h : RequestHead) → IsRequestHead h → (end : LineEnd) (lines : List Line) → end ≡ h.line_end
    → fields_in lines ≡ h.fields → last_end lines ≡ h.last
    → parts_of_line (request_text h) end lines ≡ without_blank h
words_again h is end lines same fields last =
    let method_other = token_other 32 h.method token_never.2 is.method.1 in
    let method = before_word 32 h.method (h.target ++ 32 ∷ print_version h.minor) method_other in
    let rest = behind_word 32 h.method (h.target ++ 32 ∷ print_version h.minor) method_other in
    let target_other = uri_other h.target is.target.1 in
    let target : before 32 (behind 32 (request_text h)) ≡ h.target =
    ap (before 32) rest ∙ before_word 32 h.target (print_version h.minor) target_other in
    let version : behind 32 (behind 32 (request_text h)) ≡ print_version h.minor =
    ap (behind 32) rest ∙ behind_word 32 h.target (print_version h.minor) target_other in
    let minor : get_or (behind 32 (behind 32 (request_text h))) 7 0 - 48 ≡ h.minor =
    ap (λ b. get_or b 7 0 - 48) version ∙ digit_again h.minor in
    cc

-- a printed head is spelled by its lines
pub head_again : (h : RequestHead) → IsRequestHead h → parts_of (lines_of (print_request h ++ [])) ≡ h
head_again h is =
    let section = print_section h.fields h.last ++ [] in
    let text = request_text h in
    let rest = print_end h.line_end ++ section in
    let some : 0 < length text = some_append h.method (32 ∷ (h.target ++ 32 ∷ print_version h.minor)) is.method.0 in
    let lines = section_lines h.fields h.last [] is.fields in
    ap (λ b. parts_of (lines_of b)) (print_request-append h []
    ∙ ap (λ b. print_blank h.blank ++ b) (group h.method h.target (print_version h.minor) rest))
    ∙ blank_lines h.blank (text ++ rest)
    ∙ ap (with_blank h.blank) (ap parts_of (lines_line text h.line_end section (request_plain h is))
    ∙ parts_step text h.line_end (lines_of section) some
    ∙ words_again h is h.line_end (lines_of section) refl lines.0 lines.1)
    ∙ blank_again h.blank h
