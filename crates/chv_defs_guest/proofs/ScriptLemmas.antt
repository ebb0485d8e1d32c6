-- Lines of scripts.
use Rattle.std.proofs.Common.{◌≡◌, ℕ, Bool, List, Some, true, false, slice_get, refl, sym, ap, ◌∙◌}
use Rattle.std.specs.List.{list_all}
use Rattle.std.proofs.lemmas.Option.{slice_get_within, get_or_from_slice_get}
use Rattle.std.proofs.lemmas.List.Folds.{list_all_at}
use Rattle.chv_defs_scene.specs.ScriptReading.{is_instruction}
use Rattle.chv_defs_scene.specs.declared.scene.Line.{Line}

-- each line of a script of instructions is one
pub line_is_instruction : (script : List Line) (n : ℕ) (l : Line) → list_all is_instruction script ≡ true → slice_get script n ≡ Some l → is_instruction l ≡ true
line_is_instruction script n l all e = by (is_instruction l) refl
  where
    by : (b : Bool) → is_instruction l ≡ b → b ≡ true
    by true test = refl
    by false test =
        let here = ap is_instruction (get_or_from_slice_get script n l l e) ∙ test in
        sym (list_all_at is_instruction script n l (slice_get_within script n l e) here) ∙ all
