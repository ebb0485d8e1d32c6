-- The requests of a stream, which are cut from its front: a head, and the body that its `Content-Length` announces (RFC
-- 9112, sections 3, 5, 6 and 9). The grammar of a head is that of the crate `httparse`.
use Rattle.std.specs.Prelude.{◌≡◌, ℕ, ◌+◌, ◌<◌, ◌≤◌, ◌^◌, ◌⊎◌, Bool, ◌&&◌, ◌||◌, ◌==◌, nat_lt, nat_le, if◌then◌else◌, List, [], ◌∷◌, length, take, drop, map, filter, Option, Some, None, Result, Ok, Err, codes}
use Rattle.std.specs.List.{list_any, list_all}
use Rattle.std.specs.Char.{is_ascii_digit}
use Rattle.std.specs.Str.{bytes_eq, str_eq_ignore_ascii_case}
use Rattle.std.specs.Str.Parse.{digits_value}
use Rattle.httparse.specs.Grammar.{RequestHead, ReadsRequest}
use Rattle.httparse.specs.Spans.{name_and_value}
use Rattle.chv_defs_base.specs.declared.rule.Rule.{Rule}
use Rattle.chv_defs_base.specs.declared.rule.Rule.TheVariants.{BadHead, Coded, BadLength, BodyTooLong}
use Rattle.chv_defs_api.specs.declared.request.Request.{Request}
use Rattle.chv_defs_api.specs.declared.request.Took.{Took}
use Rattle.chv_defs_api.specs.declared.request.Took.TheVariants as took
use Rattle.chv_defs_api.specs.HttpFront.{IsFront, HasNoFront}

-- a field of a head: its name, and its value without the white space around it
abbrev pub Field : Type 0
Field = List ℕ × List ℕ

-- the fields of a head, in order
abbrev pub fields_of : RequestHead → List Field
fields_of head = map name_and_value head.fields

-- names of fields, and words in them, are compared without case
unfoldable pub content_length : List ℕ
content_length = codes "content-length"

unfoldable pub transfer_encoding : List ℕ
transfer_encoding = codes "transfer-encoding"

unfoldable pub connection : List ℕ
connection = codes "connection"

unfoldable pub close_word : List ℕ
close_word = codes "close"

-- the field has this name
abbrev pub is_named : List ℕ → Field → Bool
is_named name field = str_eq_ignore_ascii_case field.0 name

-- the field asks to close the connection behind the reply: `Connection: close`
abbrev pub asks_to_close : Field → Bool
asks_to_close field = is_named connection field && str_eq_ignore_ascii_case field.1 close_word

-- the number that decimal digits write, leading zeros taken, where it is below 2 ^ 64
abbrev pub length_of_digits : List ℕ → Option ℕ
length_of_digits digits =
    if nat_lt 0 (length digits) && list_all is_ascii_digit digits && nat_lt (digits_value 10 digits) (2 ^ 64)
    then Some (digits_value 10 digits) else None

-- the values of the fields of this name, in order
abbrev pub values : List ℕ → List Field → List (List ℕ)
values name fields = map (λ field. field.1) (filter (is_named name) fields)

-- the length that the values of `Content-Length` announce: 0 where there is none, and no length where there are two
abbrev pub announced_length : List (List ℕ) → Option ℕ
announced_length [] = Some 0
announced_length (digits ∷ []) = length_of_digits digits
announced_length (first ∷ second ∷ more) = None

-- a body has at most 65,536 bytes
abbrev pub checked_length : Option ℕ → Result ℕ Rule
checked_length None = Err BadLength
checked_length (Some n) = if nat_le n 65536 then Ok n else Err BodyTooLong

-- the length of the body behind a head with these fields, or the first rule that refuses the head
abbrev pub body_length : List Field → Result ℕ Rule
body_length fields =
    if list_any (is_named transfer_encoding) fields then Err Coded
    else checked_length (announced_length (values content_length fields))

-- the request of a head and a body. It is the last one where its version is 1.0, or where it asks to close
abbrev pub request_of : RequestHead → List ℕ → Request
request_of head body = record {
  put = bytes_eq head.method (codes "PUT");
  get = bytes_eq head.method (codes "GET");
  target = head.target;
  body = body;
  last = head.minor == 0 || list_any asks_to_close (fields_of head);
}

-- The front of the bytes is n bytes long, at most 8,192, and it is as a whole this head, which has at most 32 fields.
pub record HasHead (bytes : List ℕ) (n : ℕ) (head : RequestHead) : Type 0 where
  pub front : IsFront bytes n
  pub short : n ≤ 8192
  pub reads : ReadsRequest (take n bytes) head []
  pub room : length head.fields ≤ 32

-- The bytes begin with a head, n bytes long, behind which a body of this length is to come.
pub record Announces (bytes : List ℕ) (n : ℕ) (head : RequestHead) (len : ℕ) : Type 0 where
  pub begins : HasHead bytes n head
  pub accepted : body_length (fields_of head) ≡ Ok len

-- The bytes begin with a head and its body, and the rest stands behind them.
pub record BeginsWith (bytes : List ℕ) (request : Request) (rest : List ℕ) : Type 0 where
  pub n : ℕ
  pub head : RequestHead
  pub len : ℕ
  pub announces : Announces bytes n head len
  pub whole : n + len ≤ length bytes
  pub request_is : request ≡ request_of head (take len (drop n bytes))
  pub rest_is : rest ≡ drop (n + len) bytes

-- fewer than 8,192 bytes are there and no whole front, or a head is there and its body is not whole
abbrev pub IsShort : List ℕ → Type 0
IsShort bytes =
    (HasNoFront bytes × (length bytes < 8192))
    ⊎ ((n : ℕ) × (head : RequestHead) × (len : ℕ) × Announces bytes n head len × (length bytes < n + len))

-- no front of at most 8,192 bytes can come, or the front that is there is no head of at most 32 fields
abbrev pub HasBadHead : List ℕ → Type 0
HasBadHead bytes =
    (HasNoFront bytes × (8192 ≤ length bytes))
    ⊎ ((n : ℕ) × IsFront bytes n × (n ≤ 8192) × ((head : RequestHead) → ¬ (HasHead bytes n head)))

-- the head that is there is refused by its fields
abbrev pub HasBadFields : List ℕ → Rule → Type 0
HasBadFields bytes rule = (n : ℕ) × (head : RequestHead) × HasHead bytes n head × (body_length (fields_of head) ≡ Err rule)

-- What the rest of a stream begins with, and what is left behind that: behind a request the bytes that follow it, and
-- else all of the rest.
abbrev pub Cuts : List ℕ → Took → List ℕ → Type 0
Cuts bytes (took.Request request) rest = BeginsWith bytes request rest
Cuts bytes took.NotYet rest = IsShort bytes × (rest ≡ bytes)
Cuts bytes (took.Bad rule) rest = (((rule ≡ BadHead) × HasBadHead bytes) ⊎ HasBadFields bytes rule) × (rest ≡ bytes)

-- the stream is cut into these requests, and the rest is left
abbrev pub CutsInto : List ℕ → List Request → List ℕ → Type 0
CutsInto stream [] rest = stream ≡ rest
CutsInto stream (request ∷ requests) rest = (next : List ℕ) × BeginsWith stream request next × CutsInto next requests rest
