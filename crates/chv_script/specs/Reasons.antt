-- Why a line of a script fails, in the order in which reasons are looked for.
use Rattle.std.specs.Prelude.{◌≡◌, ◌⊎◌, ℕ, ◌+◌, true, false, List, [], ◌∷◌, ◌++◌, length, Some, Err}
use Rattle.chv_defs_base.specs.Id.{is_id}
use Rattle.chv_defs_base.specs.declared.rule.Reason.{Reason}
use Rattle.chv_defs_base.specs.declared.rule.Reason.TheVariants.{UnknownWord, UnknownLabel, LabelTwice}
use Rattle.chv_defs_scene.specs.LineShapes.{Kind, kinds_of, FieldsFit, FieldsFail, instruction_shapes}
use Rattle.chv_defs_scene.specs.ScriptReading.{fields_of, labels_of, has_label, target, is_instruction, Fault, read_script}
use Rattle.chv_defs_scene.specs.ScriptText.{line_text}
use Rattle.chv_defs_scene.specs.declared.scene.Line.{Line}
use Rattle.chv_defs_scene.specs.declared.scene.Line.TheVariants as line

-- a line looks like one of these shapes, by all its fields, of which the first is its word
abbrev pub LooksLike : List (List ℕ × List Kind) → List (List ℕ) → Type 0
LooksLike shapes [] = ⊥
LooksLike shapes (word ∷ fields) = FieldsFit (kinds_of shapes word) fields

-- why it looks like none
abbrev pub LooksWrong : List (List ℕ × List Kind) → List (List ℕ) → Reason → Type 0
LooksWrong shapes [] reason = reason ≡ UnknownWord
LooksWrong shapes (word ∷ fields) reason = FieldsFail (kinds_of shapes word) fields reason

-- a line is a label of one of the lines before it
abbrev pub IsLabelTwice : List (List ℕ) → List ℕ → Type 0
IsLabelTwice before text = (name : List ℕ) × (is_id name ≡ true) × (text ≡ line_text (line.At name)) × (has_label (labels_of before) name ≡ true)

-- a line jumps to what is a label of none of the lines
abbrev pub JumpsNowhere : List (List ℕ) → List ℕ → Type 0
JumpsNowhere lines text = (jump : Line) × (name : List ℕ) × (is_instruction jump ≡ true) × (text ≡ line_text jump) × (target jump ≡ Some name) × (has_label (labels_of lines) name ≡ false)

-- Why a line fails behind these lines and before those: it does not look like an instruction, or else something is wrong with
-- its label.
abbrev pub InstructionFails : List (List ℕ) → List ℕ → List (List ℕ) → Reason → Type 0
InstructionFails before text behind reason =
    LooksWrong instruction_shapes (fields_of text) reason
    ⊎ (LooksLike instruction_shapes (fields_of text)
    × ((IsLabelTwice before text × (reason ≡ LabelTwice)) ⊎ (JumpsNowhere (before ++ text ∷ behind) text × (reason ≡ UnknownLabel))))

-- a refusal names the first reason that holds of its line
abbrev pub NamesFirstReason : Type 0
NamesFirstReason =
    (lines : List (List ℕ)) (fault : Fault) → read_script lines ≡ Err fault
    → (front : List (List ℕ)) × (text : List ℕ) × (behind : List (List ℕ)) × (lines ≡ front ++ text ∷ behind) × (fault.line ≡ length front + 1) × InstructionFails front text behind fault.reason
