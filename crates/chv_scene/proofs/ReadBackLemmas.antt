-- The line of a request is read as it.
use Rattle.std.proofs.Common.{◌≡◌, ℕ, ◌<◌, ◌==◌, ◌&&◌, not, nat_lt, nat_le, Bool, true, false, cond, List, [], ◌∷◌, ◌++◌, length, codes, Option, None, Some, Ok, Err, refl, ◌∙◌, ap, append_assoc, arith}
use Rattle.std.specs.List.{list_all}
use Rattle.std.proofs.lemmas.Bool.{and_parts, and_from, or_from, cond-true, cond-false, ltb-true}
use Rattle.chv_defs_base.specs.Numbers.{is_hex_digit, pairs, bytes_of}
use Rattle.chv_defs_scene.specs.ScenarioLines.{Line, lines_of, onto_line, at_space, has_space, is_route_byte, is_route_name, Has, named, put_name, raw_bytes, session_line}
use Rattle.chv_defs_scene.specs.ScenarioText.{is_request}
use Rattle.chv_defs_scene.specs.SceneText.{request_line}
use Rattle.chv_defs_scene.specs.declared.scene.Asked.{Asked}
use Rattle.chv_defs_scene.specs.declared.scene.Asked.TheVariants as asked
use Rattle.chv_defs_base.specs.declared.rule.Reason.TheVariants.{BadName, FieldCount}
use Rattle.chv_num.proofs.PairBytes.{pairs_digits, byte_at}
use Rattle.chv_num.proofs.PairSpelling.{pairs_read_back}
use Rattle.chv_script.proofs.KindLemmas.{all_so, other_byte}
use Rattle.chv_scene.proofs.RequestLemmas.{no_feed}

-- ---- the first line and the first field of a text

byte_line : (v : Bool) (b : ℕ) (bytes : List ℕ) (rest lines : List Line) → not v ≡ true → lines ≡ record { text = bytes; is_ended = true } ∷ rest → cond v (record { text = []; is_ended = true } ∷ lines) (onto_line b lines) ≡ record { text = b ∷ bytes; is_ended = true } ∷ rest
byte_line true b bytes rest lines is h = absurd (cc)
byte_line false b bytes rest lines is h = ap (onto_line b) h

-- a text up to its first line feed is its first line
pub first_line : (text rest : List ℕ) → no_feed text ≡ true → lines_of (text ++ 10 ∷ rest) ≡ record { text = text; is_ended = true } ∷ lines_of rest
first_line [] rest h = refl
first_line (b ∷ bytes) rest h =
    let parts = and_parts (not (b == 10)) (no_feed bytes) h in
    byte_line (b == 10) b bytes (lines_of rest) (lines_of (bytes ++ 10 ∷ rest)) parts.0 (first_line bytes rest parts.1)

-- whether no space stands in a text
abbrev pub no_space : List ℕ → Bool
no_space text = list_all (λ b. not (b == 32)) text

byte_field : (v : Bool) (b : ℕ) (bytes text : List ℕ) (parts : List ℕ × Option (List ℕ)) (behind : Option (List ℕ)) → not v ≡ true → parts ≡ (bytes, behind) → let found : List ℕ × Option (List ℕ) = cond v ([], Some text) (b ∷ parts.0, parts.1) in let wanted : List ℕ × Option (List ℕ) = (b ∷ bytes, behind) in found ≡ wanted
byte_field true b bytes text parts behind is h = absurd (cc)
byte_field false b bytes text parts behind is h = ap (λ (p : List ℕ × Option (List ℕ)). (b ∷ p.0, p.1)) h

pub only_field : (text : List ℕ) → no_space text ≡ true → at_space text ≡ (text, None)
only_field [] h = refl
only_field (b ∷ bytes) h =
    let parts = and_parts (not (b == 32)) (no_space bytes) h in
    byte_field (b == 32) b bytes bytes (at_space bytes) None parts.0 (only_field bytes parts.1)

pub first_field : (text rest : List ℕ) → no_space text ≡ true → at_space (text ++ 32 ∷ rest) ≡ (text, Some rest)
first_field [] rest h = refl
first_field (b ∷ bytes) rest h =
    let parts = and_parts (not (b == 32)) (no_space bytes) h in
    byte_field (b == 32) b bytes (bytes ++ 32 ∷ rest) (at_space (bytes ++ 32 ∷ rest)) (Some rest) parts.0 (first_field bytes rest parts.1)

not_is : (v : Bool) → not v ≡ true → v ≡ false
not_is true h = absurd (cc)
not_is false h = refl

pub one_field : (text : List ℕ) → no_space text ≡ true → has_space text ≡ false
one_field [] h = refl
one_field (b ∷ bytes) h =
    let parts = and_parts (not (b == 32)) (no_space bytes) h in
    or_from _ _ (not_is (b == 32) parts.0) (one_field bytes parts.1)

-- ---- names and pairs

name_parts : (name : List ℕ) → is_route_name name ≡ true → list_all is_route_byte name ≡ true
name_parts name h = (and_parts (nat_le 1 (length name) && nat_le (length name) 32) (list_all is_route_byte name) h).1

name_no_feed : (name : List ℕ) → is_route_name name ≡ true → no_feed name ≡ true
name_no_feed name h = all_so is_route_byte (λ b. not (b == 10)) (λ b is. other_byte is_route_byte 10 b refl is) name (name_parts name h)

name_no_space : (name : List ℕ) → is_route_name name ≡ true → no_space name ≡ true
name_no_space name h = all_so is_route_byte (λ b. not (b == 32)) (λ b is. other_byte is_route_byte 32 b refl is) name (name_parts name h)

-- ---- the line of a request

-- such a line without its line feed
abbrev pub front : Asked → List ℕ
front (asked.Get name) = codes "get" ++ 32 ∷ name
front (asked.Put name None) = codes "put" ++ 32 ∷ name
front (asked.Put name (Some body)) = codes "put" ++ 32 ∷ (name ++ 32 ∷ body)
front (asked.Raw bytes) = codes "raw" ++ 32 ∷ pairs bytes

front_line : (request : Asked) (rest : List ℕ) → request_line request ++ rest ≡ front request ++ 10 ∷ rest
front_line (asked.Get name) rest = simp append_assoc
front_line (asked.Put name None) rest = simp append_assoc
front_line (asked.Put name (Some body)) rest = simp append_assoc
front_line (asked.Raw bytes) rest = simp append_assoc

-- two texts without a line feed and a space between them
pub joined_no_feed : (text rest : List ℕ) → no_feed text ≡ true → no_feed rest ≡ true → no_feed (text ++ 32 ∷ rest) ≡ true
joined_no_feed [] rest h g = g
joined_no_feed (b ∷ bytes) rest h g =
    let parts = and_parts (not (b == 10)) (no_feed bytes) h in
    and_from _ _ parts.0 (joined_no_feed bytes rest parts.1 g)

-- the parts of a request that can stand in a scenario
body_parts : (name body : List ℕ) → is_request (asked.Put name (Some body)) ≡ true → (is_route_name name ≡ true) × (0 < length body) × (no_feed body ≡ true)
body_parts name body h =
    let parts = and_parts (is_route_name name && nat_lt 0 (length body)) (no_feed body) h in
    let more = and_parts (is_route_name name) (nat_lt 0 (length body)) parts.0 in
    (more.0, ltb-true 0 (length body) more.1, parts.1)

raw_parts : (bytes : List ℕ) → is_request (asked.Raw bytes) ≡ true → (0 < length bytes) × (list_all (λ b. nat_lt b 256) bytes ≡ true)
raw_parts bytes h =
    let parts = and_parts (nat_lt 0 (length bytes)) (list_all (λ b. nat_lt b 256) bytes) h in
    (ltb-true 0 (length bytes) parts.0, parts.1)

front_no_feed : (request : Asked) → is_request request ≡ true → no_feed (front request) ≡ true
front_no_feed (asked.Get name) h = name_no_feed name h
front_no_feed (asked.Put name None) h = name_no_feed name h
front_no_feed (asked.Put name (Some body)) h =
    let parts = body_parts name body h in
    joined_no_feed name body (name_no_feed name parts.0) parts.2
front_no_feed (asked.Raw bytes) h =
    all_so is_hex_digit (λ b. not (b == 10)) (λ b is. other_byte is_hex_digit 10 b refl is) (pairs bytes) (pairs_digits bytes (raw_parts bytes h).1)

get_read : (name : List ℕ) → is_route_name name ≡ true → session_line (record { text = front (asked.Get name); is_ended = true }) ≡ Ok (Has (asked.Get name))
get_read name h =
    cond-false (has_space name) (Err FieldCount) (named name (asked.Get name)) (one_field name (name_no_space name h))
    ∙ cond-true (is_route_name name) (Ok (Has (asked.Get name))) (Err BadName) h

put_read : (name : List ℕ) → is_route_name name ≡ true → session_line (record { text = front (asked.Put name None); is_ended = true }) ≡ Ok (Has (asked.Put name None))
put_read name h =
    ap (λ (parts : List ℕ × Option (List ℕ)). put_name parts.0 parts.1) (only_field name (name_no_space name h))
    ∙ cond-true (is_route_name name) (Ok (Has (asked.Put name None))) (Err BadName) h

some_body_read : (name body : List ℕ) → is_route_name name ≡ true → 0 < length body → put_name name (Some body) ≡ Ok (Has (asked.Put name (Some body)))
some_body_read name [] h some = absurd (omega arith)
some_body_read name (b ∷ body) h some = cond-true (is_route_name name) (Ok (Has (asked.Put name (Some (b ∷ body))))) (Err BadName) h

body_read : (name body : List ℕ) → is_route_name name ≡ true → 0 < length body → session_line (record { text = front (asked.Put name (Some body)); is_ended = true }) ≡ Ok (Has (asked.Put name (Some body)))
body_read name body h some =
    ap (λ (parts : List ℕ × Option (List ℕ)). put_name parts.0 parts.1) (first_field name body (name_no_space name h)) ∙ some_body_read name body h some

raw_read : (bytes : List ℕ) → 0 < length bytes → list_all (λ b. nat_lt b 256) bytes ≡ true → session_line (record { text = front (asked.Raw bytes); is_ended = true }) ≡ Ok (Has (asked.Raw bytes))
raw_read bytes some h =
    let plain = all_so is_hex_digit (λ b. not (b == 32)) (λ b is. other_byte is_hex_digit 32 b refl is) (pairs bytes) (pairs_digits bytes h) in
    cond-false (has_space (pairs bytes)) (Err FieldCount) (raw_bytes (bytes_of (pairs bytes))) (one_field (pairs bytes) plain)
    ∙ ap raw_bytes (pairs_read_back bytes (byte_at bytes h) some)

pub front_read : (request : Asked) → is_request request ≡ true → session_line (record { text = front request; is_ended = true }) ≡ Ok (Has request)
front_read (asked.Get name) h = get_read name h
front_read (asked.Put name None) h = put_read name h
front_read (asked.Put name (Some body)) h = let parts = body_parts name body h in body_read name body parts.0 parts.1
front_read (asked.Raw bytes) h = let parts = raw_parts bytes h in raw_read bytes parts.0 parts.1

-- the lines of a text that begins with a request
pub request_lines : (request : Asked) (rest : List ℕ) → is_request request ≡ true → lines_of (request_line request ++ rest) ≡ record { text = front request; is_ended = true } ∷ lines_of rest
request_lines request rest h = ap lines_of (front_line request rest) ∙ first_line (front request) rest (front_no_feed request h)
