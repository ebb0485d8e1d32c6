-- The bytes of a reply: a status line (RFC 9112, section 4), the header fields, an empty line, and the body. A reply's
-- body is JSON. A reply without a body has neither a type nor a length (RFC 9110, section 8.6, for 204).
use Rattle.std.specs.Prelude.{ℕ, Bool, true, false, List, [], ◌∷◌, ◌++◌, length, Option, None, Some, if◌then◌else◌, ◌==◌, decimal, codes}

-- the end of a line: CR and LF
abbrev pub line_end : List ℕ
line_end = 13 ∷ 10 ∷ []

-- the phrase of a status that this server sends (RFC 9110, section 15); any other has none
unfoldable pub phrase : ℕ → List ℕ
phrase status =
    if status == 200 then codes "OK" else (
    if status == 204 then codes "No Content" else (
    if status == 400 then codes "Bad Request" else (
    if status == 404 then codes "Not Found" else (
    if status == 500 then codes "Internal Server Error" else []))))

-- the version that a reply names
unfoldable pub version_text : List ℕ
version_text = codes "HTTP/1.1 "

-- the names of the fields
unfoldable pub close_text : List ℕ
close_text = codes "Connection: close"

unfoldable pub type_text : List ℕ
type_text = codes "Content-Type: application/json"

unfoldable pub length_text : List ℕ
length_text = codes "Content-Length: "

-- the version, the status and its phrase
abbrev pub status_line : ℕ → List ℕ
status_line status = version_text ++ decimal status ++ 32 ∷ phrase status ++ line_end

-- the field that announces the connection's end, which stands in the last reply alone (RFC 9112, section 9.6)
abbrev pub close_line : Bool → List ℕ
close_line true = close_text ++ line_end
close_line false = []

-- the other fields, the empty line, and the body
abbrev pub body_part : Option (List ℕ) → List ℕ
body_part None = line_end
body_part (Some body) =
    type_text ++ line_end ++ length_text ++ decimal (length body) ++ line_end ++ line_end ++ body

-- the bytes of a reply with a status, maybe a body, and whether it is the last one of its connection
abbrev pub reply_of_status : ℕ → Option (List ℕ) → Bool → List ℕ
reply_of_status status body last = status_line status ++ close_line last ++ body_part body
