-- Why a line of a scenario fails, in the order in which reasons are looked for, by the lines before it and behind it.
use Rattle.std.specs.Prelude.{◌≡◌, ◌≢◌, ◌≤◌, ◌<◌, ◌⊎◌, ℕ, ◌+◌, true, false, Bool, if◌then◌else◌, List, [], ◌∷◌, ◌++◌, length, filter, codes, Option, None, Some, Err}
use Rattle.std.specs.Str.{bytes_eq}
use Rattle.chv_defs_base.specs.Numbers.{dec_text}
use Rattle.chv_defs_base.specs.declared.rule.Reason.{Reason}
use Rattle.chv_defs_base.specs.declared.rule.Reason.TheVariants.{Unended, FieldCount, BadName, NotBuilt, OutOfOrder, TooMany, Unclosed}
use Rattle.chv_defs_scene.specs.LineShapes.{session_shapes, order_shapes, top_shapes, instruction_shapes}
use Rattle.chv_defs_scene.specs.ScenarioLines.{Line, lines_of, at_space, is_end, is_route_name, script_lines, most_lines, most_steps}
use Rattle.chv_defs_scene.specs.ScenarioText.{Fault, read_scenario}
use Rattle.chv_defs_scene.specs.ScriptReading.{fields_of}
use Rattle.chv_defs_scene.specs.ScriptText.{field}
use Rattle.chv_script.specs.Reasons.{LooksLike, LooksWrong, IsLabelTwice, JumpsNowhere, InstructionFails}

-- ---- where a line stands

-- whether a line begins with this word
abbrev pub begins_with : List ℕ → List ℕ → Bool
begins_with word text = bytes_eq (at_space text).0 word

-- where the line behind some lines stands: outside of the sections; or in the section that this line opened, behind those
pub data Stand : Type 0 where
  Outer : Stand
  Inner : (head : List ℕ) (lines : List (List ℕ)) → Stand

-- The lines outside of the sections, each of which opens one; and where the next line stands.
pub record Outline : Type 0 where
  pub heads : List (List ℕ)
  pub stand : Stand

-- a line more: outside it opens a section; and `end` ends one
abbrev pub grown : List (List ℕ) → Stand → Line → Outline
grown heads Outer line = record { heads = heads ++ line.text ∷ []; stand = Inner line.text [] }
grown heads (Inner head lines) line = record { heads = heads; stand = if is_end line then Outer else Inner head (lines ++ line.text ∷ []) }

-- so many lines more
abbrev pub outline_on : Outline → List Line → Outline
outline_on o [] = o
outline_on o (line ∷ lines) = outline_on (grown o.heads o.stand line) lines

-- the outline of lines
abbrev pub outline : List Line → Outline
outline lines = outline_on (record { heads = []; stand = Outer }) lines

-- ---- lines outside of the sections

-- how many sections of this word the lines open
abbrev pub sections : List ℕ → List (List ℕ) → ℕ
sections word heads = length (filter (begins_with word) heads)

-- the line of a vCPU's section
abbrev pub vcpu_head : ℕ → ℕ → List ℕ
vcpu_head vcpu fuel = codes "vcpu" ++ field (dec_text vcpu) ++ field (dec_text fuel)

-- A vCPU's section stands behind one of the same number or a higher one.
abbrev pub IsBehindHigher : List (List ℕ) → List ℕ → Type 0
IsBehindHigher heads text =
    (vcpu fuel higher other : ℕ) × (front behind : List (List ℕ)) × (text ≡ vcpu_head vcpu fuel) × (heads ≡ front ++ vcpu_head higher other ∷ behind) × (vcpu ≤ higher)

-- A line is out of order: a session or an order stands behind the order; a vCPU's section behind a session, the order, or a vCPU
-- of no lower number; a disk behind a section.
abbrev pub IsOutOfOrder : List (List ℕ) → List ℕ → Type 0
IsOutOfOrder heads text =
    ((begins_with (codes "session") text ≡ true) × (0 < sections (codes "order") heads))
    ⊎ (((begins_with (codes "order") text ≡ true) × (0 < sections (codes "order") heads))
    ⊎ (((begins_with (codes "vcpu") text ≡ true) × ((0 < sections (codes "session") heads + sections (codes "order") heads) ⊎ IsBehindHigher heads text))
    ⊎ ((begins_with (codes "disk") text ≡ true) × (heads ≢ []))))

-- A line is one too many: a session behind 16 others.
abbrev pub IsTooMany : List (List ℕ) → List ℕ → Type 0
IsTooMany heads text = (begins_with (codes "session") text ≡ true) × (16 ≤ sections (codes "session") heads)

-- a disk where one could stand, which is not built
abbrev pub IsNotBuilt : List (List ℕ) → List ℕ → Type 0
IsNotBuilt heads text = (begins_with (codes "disk") text ≡ true) × (heads ≡ [])

-- Why a line fails outside of the sections.
abbrev pub HeadFails : List (List ℕ) → List ℕ → Reason → Type 0
HeadFails heads text reason =
    (IsNotBuilt heads text × (reason ≡ NotBuilt))
    ⊎ ((IsNotBuilt heads text → ⊥)
    × (LooksWrong top_shapes (fields_of text) reason
    ⊎ (LooksLike top_shapes (fields_of text)
    × ((IsOutOfOrder heads text × (reason ≡ OutOfOrder))
    ⊎ ((IsOutOfOrder heads text → ⊥) × IsTooMany heads text × (reason ≡ TooMany))))))

-- ---- lines of sections

-- why `put` fails behind its word: there is no name, or an empty body; or else the name is none
abbrev pub PutFails : Option (List ℕ) → Reason → Type 0
PutFails None reason = reason ≡ FieldCount
PutFails (Some fields) reason =
    (((at_space fields).1 ≡ Some []) × (reason ≡ FieldCount))
    ⊎ (((at_space fields).1 ≢ Some []) × (is_route_name (at_space fields).0 ≡ false) × (reason ≡ BadName))

-- Why a line fails in a session's section.
abbrev pub RequestFails : List ℕ → Reason → Type 0
RequestFails text reason =
    ((begins_with (codes "put") text ≡ true) × PutFails (at_space text).1 reason)
    ⊎ ((begins_with (codes "put") text ≡ false) × LooksWrong session_shapes (fields_of text) reason)

-- Why a line fails in the order, behind so many steps.
abbrev pub StepFails : ℕ → List ℕ → Reason → Type 0
StepFails steps text reason =
    LooksWrong order_shapes (fields_of text) reason
    ⊎ (LooksLike order_shapes (fields_of text) × (begins_with (codes "end") text ≡ false) × (most_steps ≤ steps) × (reason ≡ TooMany))

-- Why a line fails in a vCPU's section, behind these lines of its script and before those.
abbrev pub ScriptLineFails : List (List ℕ) → List ℕ → List (List ℕ) → Reason → Type 0
ScriptLineFails before text behind reason =
    ((begins_with (codes "end") text ≡ true) × (1 < length (fields_of text)) × (reason ≡ FieldCount))
    ⊎ ((begins_with (codes "end") text ≡ false)
    × (InstructionFails before text behind reason
    ⊎ (LooksLike instruction_shapes (fields_of text) × (IsLabelTwice before text → ⊥) × (JumpsNowhere (before ++ text ∷ behind) text → ⊥) × (most_lines ≤ length before) × (reason ≡ TooMany))))

-- ---- any line

-- why a line fails where it stands
abbrev pub StandingFails : List (List ℕ) → Stand → List ℕ → List Line → Reason → Type 0
StandingFails heads Outer text behind reason = HeadFails heads text reason
StandingFails heads (Inner head lines) text behind reason =
    ((begins_with (codes "vcpu") head ≡ true) × ScriptLineFails lines text (script_lines behind) reason)
    ⊎ (((begins_with (codes "session") head ≡ true) × RequestFails text reason)
    ⊎ ((begins_with (codes "order") head ≡ true) × StepFails (length lines) text reason))

-- Why the first of these lines fails: a section has no end; or the line has no line feed; or else by where it stands.
abbrev pub LineFails : Outline → List Line → Reason → Type 0
LineFails o [] reason = (o.stand ≢ Outer) × (reason ≡ Unclosed)
LineFails o (line ∷ behind) reason =
    ((line.is_ended ≡ false) × (reason ≡ Unended)) ⊎ ((line.is_ended ≡ true) × StandingFails o.heads o.stand line.text behind reason)

-- The law of the reasons: a refusal names the first, in their order, that holds of its line.
abbrev pub RefusesForFirstReason : Type 0
RefusesForFirstReason =
    (text : List ℕ) (fault : Fault) → read_scenario text ≡ Err fault
    → (front behind : List Line) × (lines_of text ≡ front ++ behind) × (fault.line ≡ length front + 1) × LineFails (outline front) behind fault.reason
