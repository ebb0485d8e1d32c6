-- The lines of a scenario, in a format of this project's own: what each means where it stands, or why it fails. A line that has
-- no line feed fails as that. Else its word is looked at first, then the number of fields, then the fields from the left, and
-- then whether it may stand there; of a script's line its labels are looked at before that.
-- Not built yet are lines of disks: where the format takes one, it is refused as NotBuilt.
use Rattle.std.specs.Prelude.{ℕ, ◌==◌, ◌&&◌, ◌||◌, not, nat_le, nat_lt, Bool, true, false, if◌then◌else◌, List, [], ◌∷◌, length, codes, Option, None, Some, Result, Ok, Err}
use Rattle.std.specs.List.{list_all, list_any}
use Rattle.std.specs.Str.{bytes_eq}
use Rattle.chv_defs_scene.specs.declared.scene.Asked.{Asked}
use Rattle.chv_defs_scene.specs.declared.scene.Asked.TheVariants as asked
use Rattle.chv_defs_scene.specs.declared.scene.OrderStep.{OrderStep}
use Rattle.chv_defs_scene.specs.declared.scene.OrderStep.TheVariants as step
use Rattle.chv_defs_scene.specs.declared.scene.Line.{Line as Instruction}
use Rattle.chv_defs_base.specs.declared.rule.Reason.{Reason}
use Rattle.chv_defs_base.specs.declared.rule.Reason.TheVariants.{UnknownWord, FieldCount, BadNumber, BadHex, BadName, Unended, OutOfOrder, TooMany, NotBuilt}
use Rattle.chv_defs_base.specs.Name.{is_name}
use Rattle.chv_defs_base.specs.Numbers.{dec, bytes_of}
use Rattle.chv_defs_scene.specs.ScriptReading.{line_between}

-- ---- lines and fields

-- a line without its line feed, and whether it has one: the last may have none
pub record Line : Type 0 where
  pub text : List ℕ
  pub is_ended : Bool

-- a byte before the first of the lines
abbrev pub onto_line : ℕ → List Line → List Line
onto_line b [] = record { text = b ∷ []; is_ended = false } ∷ []
onto_line b (line ∷ lines) = record line { text = b ∷ line.text } ∷ lines

-- the lines of a text; an empty text has none
abbrev pub lines_of : List ℕ → List Line
lines_of [] = []
lines_of (b ∷ bytes) = if b == 10 then record { text = []; is_ended = true } ∷ lines_of bytes else onto_line b (lines_of bytes)

-- what stands before the first space, and what stands behind it where there is one
abbrev pub at_space : List ℕ → List ℕ × Option (List ℕ)
at_space [] = ([], None)
at_space (b ∷ bytes) = if b == 32 then ([], Some bytes) else (let rest = at_space bytes in (b ∷ rest.0, rest.1))

-- whether a space stands in it, so that it is more than one field
abbrev pub has_space : List ℕ → Bool
has_space text = list_any (λ b. b == 32) text

-- a name of a route, as a request has it: 1 to 32 bytes, each a lower-case letter, a digit, `.` or `-`
abbrev pub is_route_byte : ℕ → Bool
is_route_byte b = (nat_le 97 b && nat_le b 122) || (nat_le 48 b && nat_le b 57) || b == 46 || b == 45

abbrev pub is_route_name : List ℕ → Bool
is_route_name name = nat_le 1 (length name) && nat_le (length name) 32 && list_all is_route_byte name

-- ---- a line of a section

-- what a line of a section means: something that stands in it, or the end of the section
pub data Part (A : Type 0) : Type 0 where
  Has : (thing : A) → Part A
  Ends : Part A

-- `end`
abbrev pub end_line : {A : Type 0} → Option (List ℕ) → Result (Part A) Reason
end_line None = Ok Ends
end_line (Some fields) = Err FieldCount

-- what a line means where so many stand before it, of which a section can have so many; its end always may come
abbrev pub at_most : {A : Type 0} → ℕ → ℕ → Result (Part A) Reason → Result (Part A) Reason
at_most most before (Ok (Has thing)) = if nat_lt before most then Ok (Has thing) else Err TooMany
at_most most before part = part

-- ---- a session's section

-- the request for the route of this name
abbrev pub named : List ℕ → Asked → Result (Part Asked) Reason
named name request = if is_route_name name then Ok (Has request) else Err BadName

-- `get NAME`: what stands behind the word
abbrev pub get_line : Option (List ℕ) → Result (Part Asked) Reason
get_line None = Err FieldCount
get_line (Some name) = if has_space name then Err FieldCount else named name (asked.Get name)

-- `put NAME` and `put NAME BODY`, where the body is the rest of the line, at least one byte
abbrev pub put_name : List ℕ → Option (List ℕ) → Result (Part Asked) Reason
put_name name None = named name (asked.Put name None)
put_name name (Some []) = Err FieldCount
put_name name (Some (b ∷ body)) = named name (asked.Put name (Some (b ∷ body)))

abbrev pub put_line : Option (List ℕ) → Result (Part Asked) Reason
put_line None = Err FieldCount
put_line (Some fields) = put_name (at_space fields).0 (at_space fields).1

-- the bytes that pairs of digits spell
abbrev pub raw_bytes : Option (List ℕ) → Result (Part Asked) Reason
raw_bytes None = Err BadHex
raw_bytes (Some bytes) = Ok (Has (asked.Raw bytes))

-- `raw PAIRS`
abbrev pub raw_line : Option (List ℕ) → Result (Part Asked) Reason
raw_line None = Err FieldCount
raw_line (Some digits) = if has_space digits then Err FieldCount else raw_bytes (bytes_of digits)

-- a line by its word and what stands behind it
abbrev pub session_word : List ℕ → Option (List ℕ) → Result (Part Asked) Reason
session_word word fields =
    if bytes_eq word (codes "get") then get_line fields else (
    if bytes_eq word (codes "put") then put_line fields else (
    if bytes_eq word (codes "raw") then raw_line fields else (
    if bytes_eq word (codes "end") then end_line fields else
    Err UnknownWord)))

-- what a line of a session's section means, or why it fails
abbrev pub session_line : Line → Result (Part Asked) Reason
session_line line =
    if line.is_ended then session_word (at_space line.text).0 (at_space line.text).1 else Err Unended

-- ---- the section of the order

-- how many steps it can have
abbrev pub most_steps : ℕ
most_steps = 65536

-- the step of a number, which may name a session or a vCPU that there is not
abbrev pub numbered : (ℕ → OrderStep) → Option ℕ → Result (Part OrderStep) Reason
numbered make None = Err BadNumber
numbered make (Some n) = Ok (Has (make n))

-- `s K` or `v N`
abbrev pub number_line : (ℕ → OrderStep) → Option (List ℕ) → Result (Part OrderStep) Reason
number_line make None = Err FieldCount
number_line make (Some number) = if has_space number then Err FieldCount else numbered make (dec number)

-- `q`
abbrev pub queue_line : Option (List ℕ) → Result (Part OrderStep) Reason
queue_line None = Ok (Has step.Queue)
queue_line (Some fields) = Err FieldCount

-- a line by its word and what stands behind it
abbrev pub order_word : List ℕ → Option (List ℕ) → Result (Part OrderStep) Reason
order_word word fields =
    if bytes_eq word (codes "s") then number_line step.Session fields else (
    if bytes_eq word (codes "v") then number_line step.Vcpu fields else (
    if bytes_eq word (codes "q") then queue_line fields else (
    if bytes_eq word (codes "end") then end_line fields else
    Err UnknownWord)))

-- what a line of the order means behind so many steps, or why it fails
abbrev pub order_line : ℕ → Line → Result (Part OrderStep) Reason
order_line steps line =
    if line.is_ended then at_most most_steps steps (order_word (at_space line.text).0 (at_space line.text).1) else Err Unended

-- ---- a vCPU's section

-- how many lines a script can have
abbrev pub most_lines : ℕ
most_lines = 4096

-- whether a line ends its section
abbrev pub is_end : Line → Bool
is_end line = bytes_eq line.text (codes "end")

-- The lines of the script that a section begins with: those before its end, or all where it has none.
abbrev pub script_lines : List Line → List (List ℕ)
script_lines [] = []
script_lines (line ∷ lines) = if is_end line then [] else line.text ∷ script_lines lines

-- what an instruction or its fault comes to
abbrev pub instructed : Result Instruction Reason → Result (Part Instruction) Reason
instructed (Ok l) = Ok (Has l)
instructed (Err reason) = Err reason

-- a line behind these lines of its script and before these, by whether its word ends the section and by what stands behind that
abbrev pub script_word : List (List ℕ) → List ℕ → List (List ℕ) → List ℕ → Option (List ℕ) → Result (Part Instruction) Reason
script_word before text behind word fields =
    if bytes_eq word (codes "end") then end_line fields else instructed (line_between before text behind)

-- What a line of a vCPU's section means, behind these lines of its script and before the lines that follow; or why it fails.
abbrev pub script_line : List (List ℕ) → Line → List Line → Result (Part Instruction) Reason
script_line before line lines =
    if line.is_ended
    then at_most most_lines (length before) (script_word before line.text (script_lines lines) (at_space line.text).0 (at_space line.text).1)
    else Err Unended

-- ---- a line outside of the sections

-- What stands before such a line: the lowest number that a vCPU's section can still have, which is one above the last; how many
-- sessions; and whether the order.
pub record Before : Type 0 where
  pub next_vcpu : ℕ
  pub sessions : ℕ
  pub has_order : Bool

-- nothing stands before it
abbrev pub nothing_before : Before
nothing_before = record { next_vcpu = 0; sessions = 0; has_order = false }

-- what such a line opens
pub data Opening : Type 0 where
  OpensVcpu : (vcpu fuel : ℕ) → Opening
  OpensSession : Opening
  OpensOrder : Opening

-- what is opened, unless it is out of order there
abbrev pub in_order : Bool → Opening → Result Opening Reason
in_order true opening = Ok opening
in_order false opening = Err OutOfOrder

-- `session`: behind at most 15 others, and not behind the order
abbrev pub session_opening : Before → Option (List ℕ) → Result Opening Reason
session_opening before (Some fields) = Err FieldCount
session_opening before None =
    if before.has_order then Err OutOfOrder else (if nat_lt before.sessions 16 then Ok OpensSession else Err TooMany)

-- `order`: once
abbrev pub order_opening : Before → Option (List ℕ) → Result Opening Reason
order_opening before (Some fields) = Err FieldCount
order_opening before None = in_order (not before.has_order) OpensOrder

-- whether only disks and vCPUs stand before a line
abbrev pub is_early : Before → Bool
is_early before = before.sessions == 0 && not before.has_order

-- a number in a range
abbrev pub ranged : ℕ → ℕ → Option ℕ → Result ℕ Reason
ranged low high None = Err BadNumber
ranged low high (Some n) = if nat_le low n && nat_le n high then Ok n else Err BadNumber

-- the section of this vCPU with this fuel: vCPUs ascend, and stand before sessions
abbrev pub vcpu_numbers : Before → Result ℕ Reason → Result ℕ Reason → Result Opening Reason
vcpu_numbers before (Err reason) fuel = Err reason
vcpu_numbers before (Ok vcpu) (Err reason) = Err reason
vcpu_numbers before (Ok vcpu) (Ok fuel) = in_order (is_early before && nat_le before.next_vcpu vcpu) (OpensVcpu vcpu fuel)

-- `vcpu N FUEL`: the number is at most 15, and the fuel at most 1,048,576
abbrev pub vcpu_fields : Before → List ℕ → Option (List ℕ) → Result Opening Reason
vcpu_fields before number None = Err FieldCount
vcpu_fields before number (Some fuel) =
    if has_space fuel then Err FieldCount else vcpu_numbers before (ranged 0 15 (dec number)) (ranged 0 1048576 (dec fuel))

abbrev pub vcpu_opening : Before → Option (List ℕ) → Result Opening Reason
vcpu_opening before None = Err FieldCount
vcpu_opening before (Some fields) = vcpu_fields before (at_space fields).0 (at_space fields).1

-- whether nothing stands before a line but disks, which are not built
abbrev pub is_first : Before → Bool
is_first before = is_early before && before.next_vcpu == 0

-- why a number is refused, or that its line is out of order
abbrev pub late_number : Result ℕ Reason → Reason
late_number (Err reason) = reason
late_number (Ok n) = OutOfOrder

-- why `disk NAME SECTORS` fails behind a section: where its fields are right it is out of order there
abbrev pub late_disk : List ℕ → Option (List ℕ) → Reason
late_disk name None = FieldCount
late_disk name (Some sectors) =
    if has_space sectors then FieldCount else (
    if not (is_name name) then BadName else late_number (ranged 1 8192 (dec sectors)))

abbrev pub disk_reason : Before → Option (List ℕ) → Reason
disk_reason before None = if is_first before then NotBuilt else FieldCount
disk_reason before (Some fields) = if is_first before then NotBuilt else late_disk (at_space fields).0 (at_space fields).1

-- a line by its word and what stands behind it
abbrev pub top_word : Before → List ℕ → Option (List ℕ) → Result Opening Reason
top_word before word fields =
    if bytes_eq word (codes "session") then session_opening before fields else (
    if bytes_eq word (codes "vcpu") then vcpu_opening before fields else (
    if bytes_eq word (codes "order") then order_opening before fields else (
    if bytes_eq word (codes "disk") then Err (disk_reason before fields) else
    Err UnknownWord)))

-- what a line outside of the sections opens, or why it fails
abbrev pub top_line : Before → Line → Result Opening Reason
top_line before line =
    if line.is_ended then top_word before (at_space line.text).0 (at_space line.text).1 else Err Unended
