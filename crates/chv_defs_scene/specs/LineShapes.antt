-- What lines of scenarios and of scripts look like, in a format of this project's own: their words, each with the kinds of its
-- fields. And why a line does not look so: its word is looked at first, then the number of its fields, then the fields from the
-- left.
use Rattle.std.specs.Prelude.{◌≡◌, ◌≢◌, ◌≤◌, ◌<◌, ◌⊎◌, ℕ, ◌-◌, ◌^◌, nat_lt, true, if◌then◌else◌, List, [], ◌∷◌, length, codes, Option, None, Some}
use Rattle.std.specs.List.{list_all}
use Rattle.std.specs.Str.{bytes_eq}
use Rattle.chv_defs_base.specs.Id.{is_id}
use Rattle.chv_defs_base.specs.Name.{is_name}
use Rattle.chv_defs_base.specs.Numbers.{dec_text, hex_text, pairs, is_width}
use Rattle.chv_defs_base.specs.declared.rule.Reason.{Reason}
use Rattle.chv_defs_base.specs.declared.rule.Reason.TheVariants.{UnknownWord, FieldCount, BadRegister, BadWidth, BadNumber, BadHex, BadName}
use Rattle.chv_defs_scene.specs.ScenarioLines.{is_route_name}
use Rattle.chv_defs_api.specs.Registers.{is_port_width}
use Rattle.chv_defs_scene.specs.ScriptReading.{is_put}
use Rattle.chv_defs_scene.specs.ScriptText.{register}

-- ---- fields

-- a kind of field
pub data Kind : Type 0 where
  Register : Kind
  MemoryWidth : Kind
  PortWidth : Kind
  Value : Kind
  Port : Kind
  Stored : Kind
  Label : Kind
  RouteName : Kind
  Pairs : Kind
  DiskName : Kind
  Number : (low high : ℕ) → Kind

-- A field is of a kind where a value of the kind is spelled so.
abbrev pub IsOfKind : Kind → List ℕ → Type 0
IsOfKind Register field = (r : ℕ) × (r ≤ 15) × (field ≡ register r)
IsOfKind MemoryWidth field = (width : ℕ) × (is_width width ≡ true) × (field ≡ dec_text width)
IsOfKind PortWidth field = (width : ℕ) × (is_port_width width ≡ true) × (field ≡ dec_text width)
IsOfKind Value field = (n : ℕ) × (n < 2 ^ 64) × (field ≡ hex_text n)
IsOfKind Port field = (n : ℕ) × (n ≤ 65535) × (field ≡ hex_text n)
IsOfKind Stored field = (bytes : List ℕ) × (is_put bytes ≡ true) × (list_all (λ b. nat_lt b 256) bytes ≡ true) × (field ≡ pairs bytes)
IsOfKind Label field = is_id field ≡ true
IsOfKind RouteName field = is_route_name field ≡ true
IsOfKind Pairs field = (bytes : List ℕ) × (0 < length bytes) × (list_all (λ b. nat_lt b 256) bytes ≡ true) × (field ≡ pairs bytes)
IsOfKind DiskName field = is_name field ≡ true
IsOfKind (Number low high) field = (n : ℕ) × (low ≤ n) × (n ≤ high) × (field ≡ dec_text n)

-- why a field is refused that is not of its kind
abbrev pub bad : Kind → Reason
bad Register = BadRegister
bad MemoryWidth = BadWidth
bad PortWidth = BadWidth
bad Value = BadHex
bad Port = BadHex
bad Stored = BadHex
bad Label = BadName
bad RouteName = BadName
bad Pairs = BadHex
bad DiskName = BadName
bad (Number low high) = BadNumber

-- Fields are as many as these kinds, each of its own.
abbrev pub AreOfKinds : List Kind → List (List ℕ) → Type 0
AreOfKinds [] [] = Unit {0}
AreOfKinds [] (field ∷ fields) = ⊥
AreOfKinds (kind ∷ kinds) [] = ⊥
AreOfKinds (kind ∷ kinds) (field ∷ fields) = IsOfKind kind field × AreOfKinds kinds fields

-- The first of the fields that is not of its kind is refused for this reason.
abbrev pub FirstIsBad : List Kind → List (List ℕ) → Reason → Type 0
FirstIsBad [] fields reason = ⊥
FirstIsBad (kind ∷ kinds) [] reason = ⊥
FirstIsBad (kind ∷ kinds) (field ∷ fields) reason = ((IsOfKind kind field → ⊥) × (reason ≡ bad kind)) ⊎ (IsOfKind kind field × FirstIsBad kinds fields reason)

-- ---- lines

-- the kinds of the fields behind a word, where there is such a word
abbrev pub kinds_of : List (List ℕ × List Kind) → List ℕ → Option (List Kind)
kinds_of [] word = None
kinds_of (shape ∷ shapes) word = if bytes_eq word shape.0 then Some shape.1 else kinds_of shapes word

-- the fields behind a word are as they should be
abbrev pub FieldsFit : Option (List Kind) → List (List ℕ) → Type 0
FieldsFit None fields = ⊥
FieldsFit (Some kinds) fields = AreOfKinds kinds fields

-- why they are not: there is no such word; or there are more fields, or fewer; or else one of them is not of its kind
abbrev pub FieldsFail : Option (List Kind) → List (List ℕ) → Reason → Type 0
FieldsFail None fields reason = reason ≡ UnknownWord
FieldsFail (Some kinds) fields reason = ((length fields ≢ length kinds) × (reason ≡ FieldCount)) ⊎ ((length fields ≡ length kinds) × FirstIsBad kinds fields reason)

-- The instructions of scripts.
abbrev pub instruction_shapes : List (List ℕ × List Kind)
instruction_shapes =
    (codes "at", Label ∷ [])
    ∷ (codes "set", Register ∷ Value ∷ [])
    ∷ (codes "mov", Register ∷ Register ∷ [])
    ∷ (codes "halt", [])
    ∷ (codes "add", Register ∷ Register ∷ Register ∷ [])
    ∷ (codes "sub", Register ∷ Register ∷ Register ∷ [])
    ∷ (codes "and", Register ∷ Register ∷ Register ∷ [])
    ∷ (codes "or", Register ∷ Register ∷ Register ∷ [])
    ∷ (codes "xor", Register ∷ Register ∷ Register ∷ [])
    ∷ (codes "ld", MemoryWidth ∷ Register ∷ Register ∷ Value ∷ [])
    ∷ (codes "st", MemoryWidth ∷ Register ∷ Register ∷ Value ∷ [])
    ∷ (codes "put", Register ∷ Stored ∷ [])
    ∷ (codes "in", PortWidth ∷ Register ∷ Port ∷ [])
    ∷ (codes "out", PortWidth ∷ Register ∷ Port ∷ [])
    ∷ (codes "jmp", Label ∷ [])
    ∷ (codes "jz", Register ∷ Label ∷ [])
    ∷ (codes "jnz", Register ∷ Label ∷ [])
    ∷ (codes "jlt", Register ∷ Register ∷ Label ∷ [])
    ∷ []

-- The lines of a session's section, but for `put`, whose body is the rest of its line.
abbrev pub session_shapes : List (List ℕ × List Kind)
session_shapes = (codes "get", RouteName ∷ []) ∷ (codes "raw", Pairs ∷ []) ∷ (codes "end", []) ∷ []

-- The lines of the order.
abbrev pub order_shapes : List (List ℕ × List Kind)
order_shapes = (codes "s", Number 0 (2 ^ 64 - 1) ∷ []) ∷ (codes "v", Number 0 (2 ^ 64 - 1) ∷ []) ∷ (codes "q", []) ∷ (codes "end", []) ∷ []

-- The lines outside of the sections.
abbrev pub top_shapes : List (List ℕ × List Kind)
top_shapes = (codes "session", []) ∷ (codes "vcpu", Number 0 15 ∷ Number 0 1048576 ∷ []) ∷ (codes "order", []) ∷ (codes "disk", DiskName ∷ Number 1 8192 ∷ []) ∷ []
