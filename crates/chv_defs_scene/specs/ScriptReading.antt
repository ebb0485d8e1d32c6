-- How a script is read, in a format of this project's own: the instructions that its lines are, or the first line that fails
-- and why. On a line the word is looked at first, then the number of fields, then the fields from the left, and labels last.
use Rattle.std.specs.Prelude.{◌≡◌, ℕ, ◌+◌, ◌^◌, ◌==◌, ◌&&◌, ◌||◌, not, nat_le, nat_lt, Bool, true, false, if◌then◌else◌, List, [], ◌∷◌, ◌++◌, length, take, drop, map, codes, Option, None, Some, Result, Ok, Err}
use Rattle.std.specs.List.{list_all, list_any, filter_map, slice_split}
use Rattle.std.specs.Str.{bytes_eq}
use Rattle.chv_defs_base.specs.Id.{is_id}
use Rattle.chv_defs_base.specs.Numbers.{dec, hex, bytes_of, is_width}
use Rattle.chv_defs_base.specs.declared.rule.Reason.{Reason}
use Rattle.chv_defs_base.specs.declared.rule.Reason.TheVariants.{UnknownWord, FieldCount, BadRegister, BadWidth, BadHex, BadName, UnknownLabel, LabelTwice}
use Rattle.chv_defs_api.specs.Registers.{is_port_width}
use Rattle.chv_defs_scene.specs.ScriptText.{line_text}
use Rattle.chv_defs_scene.specs.declared.scene.Line.{Line}
use Rattle.chv_defs_scene.specs.declared.scene.Line.TheVariants as line
use Rattle.chv_defs_scene.specs.declared.scene.MathOp.TheVariants as op

-- what comes next where nothing failed, and otherwise what failed first
infixl 10 ◌>>=◌
abbrev pub ◌>>=◌ : {A B E : Type 0} → Result A E → (A → Result B E) → Result B E
(Ok x) >>= next = next x
(Err e) >>= next = Err e

-- ---- fields

-- the fields of a line, which spaces separate: first its word; an empty line has an empty word
abbrev pub fields_of : List ℕ → List (List ℕ)
fields_of text = slice_split (λ b. b == 32) text

-- what is there and passes a test, or the reason why a field is refused
abbrev pub kept : {A : Type 0} → (A → Bool) → Reason → Option A → Result A Reason
kept test reason None = Err reason
kept test reason (Some x) = if test x then Ok x else Err reason

-- the number of a register
abbrev pub is_register : ℕ → Bool
is_register r = nat_le r 15

-- a register: `r` and its number
unfoldable pub register_of : List ℕ → Result ℕ Reason
register_of text = if bytes_eq (take 1 text) (codes "r") then kept is_register BadRegister (dec (drop 1 text)) else Err BadRegister

-- the width of a load or a store: 1, 2, 4 or 8
unfoldable pub memory_width_of : List ℕ → Result ℕ Reason
memory_width_of text = kept is_width BadWidth (dec text)

-- the width of an access to a port: 1, 2 or 4
unfoldable pub port_width_of : List ℕ → Result ℕ Reason
port_width_of text = kept is_port_width BadWidth (dec text)

-- a number of 64 bits
unfoldable pub value_of : List ℕ → Result ℕ Reason
value_of text = kept (λ n. true) BadHex (hex text)

-- the number of a port
abbrev pub is_port : ℕ → Bool
is_port p = nat_le p 65535

-- a port: a number of 16 bits
unfoldable pub port_of : List ℕ → Result ℕ Reason
port_of text = kept is_port BadHex (hex text)

-- bytes that one instruction can store
abbrev pub is_put : List ℕ → Bool
is_put bytes = nat_le 1 (length bytes) && nat_le (length bytes) 4096

-- the bytes of a `put`, 1 to 4,096 in pairs of digits
unfoldable pub put_bytes_of : List ℕ → Result (List ℕ) Reason
put_bytes_of text = kept is_put BadHex (bytes_of text)

-- a label: an identifier
unfoldable pub name_of : List ℕ → Result (List ℕ) Reason
name_of text = kept is_id BadName (Some text)

-- ---- so many fields, each of its kind

-- exactly one field
unfoldable pub one : List (List ℕ) → Result (List ℕ) Reason
one (a ∷ []) = Ok a
one fields = Err FieldCount

-- exactly two
unfoldable pub two : List (List ℕ) → Result (List ℕ × List ℕ) Reason
two (a ∷ b ∷ []) = Ok (a, b)
two fields = Err FieldCount

-- exactly three
unfoldable pub three : List (List ℕ) → Result (List ℕ × List ℕ × List ℕ) Reason
three (a ∷ b ∷ c ∷ []) = Ok (a, b, c)
three fields = Err FieldCount

-- exactly four
unfoldable pub four : List (List ℕ) → Result (List ℕ × List ℕ × List ℕ × List ℕ) Reason
four (a ∷ b ∷ c ∷ d ∷ []) = Ok (a, b, c, d)
four fields = Err FieldCount

-- an instruction without fields
unfoldable pub with_none : Line → List (List ℕ) → Result Line Reason
with_none l [] = Ok l
with_none l fields = Err FieldCount

-- an instruction of one field
unfoldable pub with_one : {A : Type 0} → (List ℕ → Result A Reason) → (A → Line) → List (List ℕ) → Result Line Reason
with_one first make fields = do
  field ← one fields
  x ← first field
  Ok (make x)

-- an instruction of two fields, read from the left
unfoldable pub with_two : {A B : Type 0} → (List ℕ → Result A Reason) → (List ℕ → Result B Reason) → (A → B → Line) → List (List ℕ) → Result Line Reason
with_two first second make fields = do
  f ← two fields
  x ← first f.0
  y ← second f.1
  Ok (make x y)

-- an instruction of three fields, read from the left
unfoldable pub with_three : {A B C : Type 0} → (List ℕ → Result A Reason) → (List ℕ → Result B Reason) → (List ℕ → Result C Reason) → (A → B → C → Line) → List (List ℕ) → Result Line Reason
with_three first second third make fields = do
  f ← three fields
  x ← first f.0
  y ← second f.1
  z ← third f.2
  Ok (make x y z)

-- an instruction with a width, two registers and a number, read from the left
unfoldable pub with_four : (ℕ → ℕ → ℕ → ℕ → Line) → List (List ℕ) → Result Line Reason
with_four make fields = do
  f ← four fields
  width ← memory_width_of f.0
  r ← register_of f.1
  ra ← register_of f.2
  offset ← value_of f.3
  Ok (make width r ra offset)

-- ---- a line

-- a jump, by its word
abbrev pub jump_of : List ℕ → List (List ℕ) → Result Line Reason
jump_of word fields =
    if bytes_eq word (codes "jmp") then with_one name_of line.Jmp fields else (
    if bytes_eq word (codes "jz") then with_two register_of name_of line.Jz fields else (
    if bytes_eq word (codes "jnz") then with_two register_of name_of line.Jnz fields else (
    if bytes_eq word (codes "jlt") then with_three register_of register_of name_of line.Jlt fields else
    Err UnknownWord)))

-- an access to memory or to a port, or a jump
abbrev pub access_of : List ℕ → List (List ℕ) → Result Line Reason
access_of word fields =
    if bytes_eq word (codes "ld") then with_four line.Ld fields else (
    if bytes_eq word (codes "st") then with_four line.St fields else (
    if bytes_eq word (codes "put") then with_two register_of put_bytes_of line.Put fields else (
    if bytes_eq word (codes "in") then with_three port_width_of register_of port_of line.In fields else (
    if bytes_eq word (codes "out") then with_three port_width_of register_of port_of line.Out fields else
    jump_of word fields))))

-- an operation on three registers, or what is left
abbrev pub math_of : List ℕ → List (List ℕ) → Result Line Reason
math_of word fields =
    if bytes_eq word (codes "add") then with_three register_of register_of register_of (line.Math op.Add) fields else (
    if bytes_eq word (codes "sub") then with_three register_of register_of register_of (line.Math op.Sub) fields else (
    if bytes_eq word (codes "and") then with_three register_of register_of register_of (line.Math op.And) fields else (
    if bytes_eq word (codes "or") then with_three register_of register_of register_of (line.Math op.Or) fields else (
    if bytes_eq word (codes "xor") then with_three register_of register_of register_of (line.Math op.Xor) fields else
    access_of word fields))))

-- an instruction, by its word and the fields behind it
abbrev pub instruction_of : List ℕ → List (List ℕ) → Result Line Reason
instruction_of word fields =
    if bytes_eq word (codes "at") then with_one name_of line.At fields else (
    if bytes_eq word (codes "set") then with_two register_of value_of line.Set fields else (
    if bytes_eq word (codes "mov") then with_two register_of register_of line.Mov fields else (
    if bytes_eq word (codes "halt") then with_none line.Halt fields else
    math_of word fields)))

-- the same by all fields, of which each line has one at least
abbrev pub by_fields : List (List ℕ) → Result Line Reason
by_fields [] = Err UnknownWord
by_fields (word ∷ fields) = instruction_of word fields

-- the instruction that a line is, or why it is none; labels are not looked at yet
abbrev pub line_of : List ℕ → Result Line Reason
line_of text = by_fields (fields_of text)

-- ---- labels

-- the label that fields are: `at` and an identifier
abbrev pub label_in : List (List ℕ) → Option (List ℕ)
label_in (word ∷ name ∷ []) = if bytes_eq word (codes "at") && is_id name then Some name else None
label_in fields = None

-- the labels of lines, whatever else stands in the lines
abbrev pub labels_of : List (List ℕ) → List (List ℕ)
labels_of lines = filter_map (λ text. label_in (fields_of text)) lines

-- whether a label is one of these
abbrev pub has_label : List (List ℕ) → List ℕ → Bool
has_label labels name = list_any (bytes_eq name) labels

-- where an instruction jumps to
abbrev pub target : Line → Option (List ℕ)
target (line.Jmp to) = Some to
target (line.Jz ra to) = Some to
target (line.Jnz ra to) = Some to
target (line.Jlt ra rb to) = Some to
target l = None

-- the label that an instruction is
abbrev pub own_label : Line → Option (List ℕ)
own_label (line.At name) = Some name
own_label l = None

-- whether there is a label, and it is one of these
abbrev pub is_there : List (List ℕ) → Option (List ℕ) → Bool
is_there labels None = false
is_there labels (Some name) = has_label labels name

-- whether there is a label, and it is none of these
abbrev pub is_missing : List (List ℕ) → Option (List ℕ) → Bool
is_missing labels None = false
is_missing labels (Some name) = not (has_label labels name)

-- what is wrong with an instruction's labels, where something is: told are the labels of the lines before, and those of all
abbrev pub label_fault : List (List ℕ) → List (List ℕ) → Line → Option Reason
label_fault before all l =
    if is_there before (own_label l) then Some LabelTwice else (
    if is_missing all (target l) then Some UnknownLabel else
    None)

-- ---- a script

-- a line that fails, counted from 1, and why
pub record Fault : Type 0 where
  pub line : ℕ
  pub reason : Reason

-- what was read, unless something is wrong with it
abbrev pub unless : {A : Type 0} → Option Reason → A → Result A Reason
unless None x = Ok x
unless (Some reason) x = Err reason

-- the instruction that a line is behind some lines and before others, or why it fails there
abbrev pub line_between : List (List ℕ) → List ℕ → List (List ℕ) → Result Line Reason
line_between before text behind = do
  l ← line_of text
  unless (label_fault (labels_of before) (labels_of (before ++ text ∷ behind)) l) l

-- what a line of this number is
abbrev pub at_line : {A : Type 0} → ℕ → Result A Reason → Result A Fault
at_line n (Ok x) = Ok x
at_line n (Err reason) = Err (record { line = n; reason = reason })

-- the instructions that lines are behind others, or the first of them that fails
unfoldable pub read_behind : List (List ℕ) → List (List ℕ) → Result (List Line) Fault
read_behind before [] = Ok []
read_behind before (text ∷ lines) = do
  first ← at_line (length before + 1) (line_between before text lines)
  rest ← read_behind (before ++ text ∷ []) lines
  Ok (first ∷ rest)

-- The instructions of the script that these lines are, without their line feeds; or the first line that fails, and why.
abbrev pub read_script : List (List ℕ) → Result (List Line) Fault
read_script lines = read_behind [] lines

-- ---- the grammar

-- whether an instruction can stand in a script, labels aside
abbrev pub is_instruction : Line → Bool
is_instruction (line.At name) = is_id name
is_instruction (line.Set rd value) = is_register rd && nat_lt value (2 ^ 64)
is_instruction (line.Mov rd ra) = is_register rd && is_register ra
is_instruction (line.Math o rd ra rb) = is_register rd && is_register ra && is_register rb
is_instruction (line.Ld width rd ra offset) = is_width width && is_register rd && is_register ra && nat_lt offset (2 ^ 64)
is_instruction (line.St width rs ra offset) = is_width width && is_register rs && is_register ra && nat_lt offset (2 ^ 64)
is_instruction (line.Put ra bytes) = is_register ra && is_put bytes && list_all (λ b. nat_lt b 256) bytes
is_instruction (line.In width rd port) = is_port_width width && is_register rd && is_port port
is_instruction (line.Out width rs port) = is_port_width width && is_register rs && is_port port
is_instruction (line.Jmp to) = is_id to
is_instruction (line.Jz ra to) = is_register ra && is_id to
is_instruction (line.Jnz ra to) = is_register ra && is_id to
is_instruction (line.Jlt ra rb to) = is_register ra && is_register rb && is_id to
is_instruction line.Halt = true

-- whether one of these labels stands twice
abbrev pub has_label_twice : List (List ℕ) → Bool
has_label_twice [] = false
has_label_twice (name ∷ labels) = has_label labels name || has_label_twice labels

-- Lines are a script of these instructions: each line spells its instruction, each instruction can stand there, no label
-- stands twice, and each jump goes to a label.
pub record IsScript (lines : List (List ℕ)) (script : List Line) : Type 0 where
  pub spelled : lines ≡ map line_text script
  pub instructions : list_all is_instruction script ≡ true
  pub once : has_label_twice (filter_map own_label script) ≡ false
  pub known : list_any (λ l. is_missing (filter_map own_label script) (target l)) script ≡ false

-- The law of the reader: it reads exactly the scripts, each as its instructions.
abbrev pub ReadsScripts : Type 0
ReadsScripts =
    ((lines : List (List ℕ)) (script : List Line) → read_script lines ≡ Ok script → IsScript lines script)
    × ((lines : List (List ℕ)) (script : List Line) → IsScript lines script → read_script lines ≡ Ok script)
