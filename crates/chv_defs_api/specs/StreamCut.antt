-- The cut of a stream as a function of its bytes. What a request is, `Requests` says; the law of this file's function is
-- that it gives what `Cuts` relates.
use Rattle.std.specs.Prelude.{ℕ, ◌+◌, ◌-◌, Bool, ◌&&◌, ◌||◌, not, ◌==◌, nat_lt, nat_le, if◌then◌else◌, List, [], ◌∷◌, length, take, drop, slice_index, find, Option, Some, None, Result, Ok, Err}
use Rattle.std.specs.List.{list_any, list_all, range_with_len}
use Rattle.std.specs.Str.{bytes_eq, is_utf8}
use Rattle.httparse.specs.Grammar.{LineEnd, crlf, lf, Field, RequestHead, print_request, is_token, is_uri_byte, is_value_byte}
use Rattle.chv_defs_base.specs.declared.rule.Rule.{Rule}
use Rattle.chv_defs_base.specs.declared.rule.Rule.TheVariants.{BadHead}
use Rattle.chv_defs_api.specs.declared.request.Took.{Took}
use Rattle.chv_defs_api.specs.declared.request.Took.TheVariants as took
use Rattle.chv_defs_api.specs.Requests.{fields_of, body_length, request_of}

-- a byte other than CR and LF
abbrev pub is_text : ℕ → Bool
is_text b = not (b == 13) && not (b == 10)

-- a front may end before n: a line feed stands there, before it a line feed, or CR and a line feed, and text before that
abbrev pub closes : List ℕ → ℕ → Bool
closes bytes n =
    (nat_le 2 n && slice_index bytes (n - 2) == 10 && slice_index bytes (n - 1) == 10 && list_any is_text (take (n - 2) bytes))
    || (nat_le 3 n && slice_index bytes (n - 3) == 10 && slice_index bytes (n - 2) == 13 && slice_index bytes (n - 1) == 10
    && list_any is_text (take (n - 3) bytes))

-- the end of the front, where it is in the first 8,192 bytes
unfoldable pub front_end : List ℕ → Option ℕ
front_end bytes = find (closes bytes) (range_with_len 0 8193)

-- a line, and how it ends
abbrev pub Line : Type 0
Line = List ℕ × LineEnd

-- a byte before the first of the lines; CR right before a line feed belongs to the end
abbrev pub onto_line : ℕ → List Line → List Line
onto_line b [] = []
onto_line b (([], crlf) ∷ lines) = (b ∷ [], crlf) ∷ lines
onto_line b (([], lf) ∷ lines) = if b == 13 then ([], crlf) ∷ lines else (b ∷ [], lf) ∷ lines
onto_line b ((c ∷ line, end) ∷ lines) = (b ∷ c ∷ line, end) ∷ lines

-- the lines, up to the last line feed
abbrev pub lines_of : List ℕ → List Line
lines_of [] = []
lines_of (b ∷ bytes) = if b == 10 then ([], lf) ∷ lines_of bytes else onto_line b (lines_of bytes)

-- what stands before the first byte c, and what behind it
abbrev pub before : ℕ → List ℕ → List ℕ
before c [] = []
before c (b ∷ bytes) = if b == c then [] else b ∷ before c bytes

abbrev pub behind : ℕ → List ℕ → List ℕ
behind c [] = []
behind c (b ∷ bytes) = if b == c then bytes else behind c bytes

-- a line as a field: a name, a colon and a value
abbrev pub field_of : Line → Field
field_of line = record { name = before 58 line.0; raw = behind 58 line.0; end = line.1 }

-- the fields up to the empty line, and its end
abbrev pub fields_in : List Line → List Field
fields_in [] = []
fields_in (([], end) ∷ lines) = []
fields_in ((b ∷ line, end) ∷ lines) = field_of (b ∷ line, end) ∷ fields_in lines

abbrev pub last_end : List Line → LineEnd
last_end [] = lf
last_end (([], end) ∷ lines) = end
last_end ((b ∷ line, end) ∷ lines) = last_end lines

-- the parts of the lines of a head, if they are a head's: empty lines, a method, a target and a version, and fields
abbrev pub parts_of : List Line → RequestHead
parts_of [] = record { blank = []; method = []; target = []; minor = 0; line_end = lf; fields = []; last = lf }
parts_of (([], end) ∷ lines) = let head = parts_of lines in record head { blank = end ∷ head.blank }
parts_of ((b ∷ line, end) ∷ lines) = record {
  blank = [];
  method = before 32 (b ∷ line);
  target = before 32 (behind 32 (b ∷ line));
  minor = slice_index (behind 32 (behind 32 (b ∷ line))) 7 - 48;
  line_end = end;
  fields = fields_in lines;
  last = last_end lines;
}

-- each part is of its class, as `IsRequestHead` says
abbrev pub is_field : Field → Bool
is_field field = is_token field.name && list_all is_value_byte field.raw

abbrev pub is_request_head : RequestHead → Bool
is_request_head head =
    is_token head.method
    && (nat_lt 0 (length head.target) && list_all is_uri_byte head.target && is_utf8 head.target)
    && nat_le head.minor 1 && list_all is_field head.fields

-- the head of at most 32 fields that a whole front is
unfoldable pub head_of : List ℕ → Option RequestHead
head_of front =
    let head = parts_of (lines_of front) in
    if is_request_head head && bytes_eq front (print_request head) && nat_le (length head.fields) 32 then Some head else None

-- what the rest of a stream begins with, and what is left behind that
abbrev pub cut_body : List ℕ → ℕ → RequestHead → Result ℕ Rule → Took × List ℕ
cut_body bytes n head (Err rule) = (took.Bad rule, bytes)
cut_body bytes n head (Ok len) =
    if nat_lt (length bytes) (n + len) then (took.NotYet, bytes)
    else (took.Request (request_of head (take len (drop n bytes))), drop (n + len) bytes)

abbrev pub cut_head : List ℕ → ℕ → Option RequestHead → Took × List ℕ
cut_head bytes n None = (took.Bad BadHead, bytes)
cut_head bytes n (Some head) = cut_body bytes n head (body_length (fields_of head))

abbrev pub cut_front : List ℕ → Option ℕ → Took × List ℕ
cut_front bytes None = (if nat_lt (length bytes) 8192 then took.NotYet else took.Bad BadHead, bytes)
cut_front bytes (Some n) = cut_head bytes n (head_of (take n bytes))

unfoldable pub cut : List ℕ → Took × List ℕ
cut bytes = cut_front bytes (front_end bytes)
