-- A vCPU's section that is open, and what its next line means.
use Rattle.std.specs.Prelude.{◌≡◌, ℕ, Bool, true, if◌then◌else◌, List, [], ◌∷◌, ◌++◌, length, map, codes, Option, Result, Ok}
use Rattle.std.specs.Str.{bytes_eq}
use Rattle.chv_defs_base.specs.declared.rule.Reason.{Reason}
use Rattle.chv_defs_scene.specs.declared.scene.Line.{Line as Instruction}
use Rattle.chv_defs_scene.specs.ScenarioLines.{Line, at_space, Part, end_line, at_most, most_lines, instructed, script_lines}
use Rattle.chv_defs_scene.specs.ScriptReading.{labels_of}
use Rattle.chv_defs_scene.specs.ScriptText.{line_text}
use Rattle.chv_script.specs.Labels.{SameLabels}
use Rattle.chv_script.specs.Steps.{checked}
use Rattle.chv_scene.specs.Meanings.{Went}
use Rattle.chv_scene.specs.declared.script.OpenScript.{OpenScript}

-- what a line means, by its word and what stands behind it, behind lines of these labels and among lines of those
abbrev pub checked_word : List (List ℕ) → List (List ℕ) → List ℕ → List ℕ → Option (List ℕ) → Result (Part Instruction) Reason
checked_word before all text word fields =
    if bytes_eq word (codes "end") then end_line fields else instructed (checked before all text)

-- what a line means in the open section
abbrev pub script_part : OpenScript → List ℕ → Result (Part Instruction) Reason
script_part s text = at_most most_lines (length s.lines) (checked_word s.passed.keys s.all.keys text (at_space text).0 (at_space text).1)

-- the lines of the open section, as they are spelled
abbrev pub spelled : OpenScript → List (List ℕ)
spelled s = map line_text s.lines

-- The labels that are kept are those of the lines so far, and those of all lines of the section.
pub record FitsScript (s : OpenScript) (lines : List Line) : Type 0 where
  pub passed : SameLabels s.passed.keys (labels_of (spelled s))
  pub all : SameLabels s.all.keys (labels_of (spelled s ++ script_lines lines))

-- the label of a line is kept where the section goes on
abbrev pub Keeps : List (List ℕ) → List (List ℕ) → List ℕ → Result Bool Reason → Type 0
Keeps old new text (Ok true) = SameLabels new (old ++ labels_of (text ∷ []))
Keeps old new text went = Unit {0}

-- What a line has done in the open section.
pub record WentScript (old new : OpenScript) (went : Result Bool Reason) (text : List ℕ) : Type 0 where
  pub vcpu : new.vcpu ≡ old.vcpu
  pub fuel : new.fuel ≡ old.fuel
  pub all : new.all ≡ old.all
  pub labels : Keeps old.passed.keys new.passed.keys text went
  pub lines : Went old.lines new.lines went (script_part old text)

-- A section that is opened, of which these lines follow.
pub record IsOpened (vcpu fuel : ℕ) (s : OpenScript) (lines : List Line) : Type 0 where
  pub numbered : s.vcpu ≡ vcpu
  pub fuelled : s.fuel ≡ fuel
  pub empty : s.lines ≡ []
  pub passed : SameLabels s.passed.keys []
  pub all : SameLabels s.all.keys (labels_of (script_lines lines))
