-- Laws above the definitions of scripts.
use Rattle.std.specs.Prelude.{◌≡◌, ℕ, ◌+◌, List, ◌∷◌, ◌++◌, length, take, map, flat_map, codes, Ok, Err}
use Rattle.chv_defs_scene.specs.ScriptReading.{Fault, line_between, labels_of, read_script, IsScript}
use Rattle.chv_defs_scene.specs.ScriptText.{line_text, script_text}
use Rattle.chv_defs_scene.specs.declared.scene.Line.{Line}
use Rattle.chv_defs_scene.specs.declared.scene.Script.{Script}
use Rattle.chv_script.specs.Labels.{SameLabels}

-- the text of lines, each ended by a line feed
abbrev pub text_of : List (List ℕ) → List ℕ
text_of lines = flat_map (λ text. text ++ codes "\n") lines

-- lines that are read as this script are printed by it, and what is printed is read as it
abbrev pub IsReadBack : Script → Type 0
IsReadBack script = (lines : List (List ℕ)) → read_script lines ≡ Ok script.lines → (script_text script ≡ text_of lines) × (read_script (map line_text script.lines) ≡ Ok script.lines)

-- lines that are read as one script are the same lines
abbrev pub OneSpelling : Type 0
OneSpelling = (lines others : List (List ℕ)) (script : List Line) → read_script lines ≡ Ok script → read_script others ≡ Ok script → lines ≡ others

-- The line that is named fails, for the reason that is named, and each line before it is an instruction.
pub record IsFirstFault (lines : List (List ℕ)) (fault : Fault) : Type 0 where
  pub front : List (List ℕ)
  pub text : List ℕ
  pub behind : List (List ℕ)
  pub whole : lines ≡ front ++ text ∷ behind
  pub line : fault.line ≡ length front + 1
  pub fails : line_between front text behind ≡ Err fault.reason
  pub lower : (earlier : List (List ℕ)) (passed : List ℕ) (later : List (List ℕ)) → front ≡ earlier ++ passed ∷ later → (l : Line) × (line_between earlier passed (later ++ text ∷ behind) ≡ Ok l)

-- a refusal names the first line that fails
abbrev pub NamesFirstFault : Type 0
NamesFirstFault = (lines : List (List ℕ)) (fault : Fault) → read_script lines ≡ Err fault → IsFirstFault lines fault

-- no script begins with the lines up to the one that is named, where its labels are those of the refused lines
abbrev pub NoScriptBegins : Type 0
NoScriptBegins =
    (lines : List (List ℕ)) (fault : Fault) → read_script lines ≡ Err fault
    → (others : List (List ℕ)) (script : List Line) → IsScript others script → SameLabels (labels_of others) (labels_of lines) → take fault.line others ≡ take fault.line lines → ⊥
