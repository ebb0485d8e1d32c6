-- The law above the refusals of scenarios, by the grammar of their texts: the line that is named is the lowest with which no
-- scenario goes on. Two things have to be said with it. A label may stand behind the jump to it, so that of a jump to no label the
-- lines behind it decide; and a script that has to have many labels more may be too long for them.
use Rattle.std.specs.Prelude.{◌≡◌, ◌≤◌, ℕ, ◌+◌, true, false, List, ◌∷◌, ◌++◌, length, take, drop, codes, Some, Err}
use Rattle.std.specs.List.{list_any}
use Rattle.chv_defs_base.specs.declared.rule.Reason.{Reason}
use Rattle.chv_defs_base.specs.declared.rule.Reason.TheVariants.{UnknownLabel}
use Rattle.chv_defs_scene.specs.declared.scene.Line.{Line as Instruction}
use Rattle.chv_defs_scene.specs.declared.scene.Scene.{Scene}
use Rattle.chv_defs_scene.specs.ScenarioLines.{Line, lines_of, at_space, is_end, script_lines, most_lines}
use Rattle.chv_defs_scene.specs.ScenarioText.{Fault, read_scenario, IsScenario}
use Rattle.chv_defs_scene.specs.ScriptReading.{labels_of, has_label, target}
use Rattle.chv_defs_scene.specs.ScriptText.{line_text}

-- There is room for labels behind lines that those others follow: where a vCPU's section is open there, its lines so far and
-- those further ones that are labels are no more than a script can have.
abbrev pub HasRoom : List Line → List Line → Type 0
HasRoom lines behind = (front : List Line) (opens : Line) (script : List Line) → lines ≡ front ++ opens ∷ script → (at_space opens.text).0 ≡ codes "vcpu" → list_any is_end script ≡ false → length script + length (labels_of (script_lines behind)) ≤ most_lines

-- Some scenario begins with these lines.
pub record BeginsScenario (lines : List Line) : Type 0 where
  pub text : List ℕ
  pub scene : Scene
  pub is : IsScenario text scene
  pub begins : take (length lines) (lines_of text) ≡ lines

-- A line jumps to a label that stands in none of the lines behind it, up to the end of its section, and in one of those others.
pub record LacksLabel (line : Line) (behind others : List Line) : Type 0 where
  pub jump : Instruction
  pub name : List ℕ
  pub spelled : line ≡ record { text = line_text jump; is_ended = true }
  pub goes : target jump ≡ Some name
  pub missing : has_label (labels_of (script_lines behind)) name ≡ false
  pub there : has_label (labels_of (script_lines others)) name ≡ true

-- The same of the line behind so many, among the lines that are refused and those of a scenario.
pub record OnlyLacksLabel (reason : Reason) (before : ℕ) (lines scenario : List Line) : Type 0 where
  pub reason_is : reason ≡ UnknownLabel
  pub line : Line
  pub behind : List Line
  pub others : List Line
  pub refused : drop before lines ≡ line ∷ behind
  pub taken : drop before scenario ≡ line ∷ others
  pub lacks : LacksLabel line behind others

-- The line that is named is the lowest with which no scenario goes on: some scenario begins with the lines before it, and none
-- has the lines up to it (or, where it is the line behind the last one, ends there), unless by a label that a jump lacks.
pub record IsLowest (lines : List Line) (fault : Fault) : Type 0 where
  pub before : ℕ
  pub line : fault.line ≡ before + 1
  pub inside : before ≤ length lines
  pub lower : HasRoom (take before lines) (drop before lines) → BeginsScenario (take before lines)
  pub none : (text : List ℕ) (scene : Scene) → IsScenario text scene → take fault.line (lines_of text) ≡ take fault.line lines → OnlyLacksLabel fault.reason before lines (lines_of text)

-- The law of the refusals: each names the lowest line.
abbrev pub RefusesLowestLine : Type 0
RefusesLowestLine = (text : List ℕ) (fault : Fault) → read_scenario text ≡ Err fault → IsLowest (lines_of text) fault
