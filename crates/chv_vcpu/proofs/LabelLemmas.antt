-- The place of a label's line, by what stands before it.
use Rattle.std.proofs.Common.{◌≡◌, ◌<◌, ◌≤◌, ℕ, Bool, List, true, false, length, nat_lt, get_or, refl, arith}
use Rattle.std.specs.List.{position_or_len}
use Rattle.std.proofs.lemmas.Bool.Decides.{nat_tests}
use Rattle.std.proofs.lemmas.List.Sums.{position_or_len_is}
use Rattle.chv_defs_scene.specs.declared.scene.Line.{Line}
use Rattle.chv_defs_scene.specs.declared.scene.Line.TheVariants as line
use Rattle.chv_defs_guest.specs.Instruction.{is_label, label_place}

-- none of the lines before a number is the label
abbrev pub NoneBefore : List Line → List ℕ → ℕ → Type 0
NoneBefore script name n = (k : ℕ) → k < n → is_label name (get_or script k line.Halt) ≡ false

pub found : (script : List Line) (name : List ℕ) (n : ℕ) → n < length script → NoneBefore script name n → is_label name (get_or script n line.Halt) ≡ true → label_place script name ≡ n
found script name n inside before here =
    let at : position_or_len (is_label name) script ≡ n = position_or_len_is (is_label name) script n line.Halt (omega (arith, inside)) before (λ h. here) in
    grind (arith, nat_tests, at, inside)

pub nowhere : (script : List Line) (name : List ℕ) → NoneBefore script name (length script) → label_place script name ≡ 0
nowhere script name before =
    let at : position_or_len (is_label name) script ≡ length script = position_or_len_is (is_label name) script (length script) line.Halt (omega arith) before (λ h. grind (arith, h)) in
    grind (arith, nat_tests, at)

-- a label's line is one of the script's, where it has a line at all
pub label_place-within : (script : List Line) (name : List ℕ) → label_place script name ≤ length script
label_place-within script name = by (nat_lt (position_or_len (is_label name) script) (length script)) refl
  where
    by : (b : Bool) → nat_lt (position_or_len (is_label name) script) (length script) ≡ b → label_place script name ≤ length script
    by true e = let inside : position_or_len (is_label name) script < length script = grind (arith, nat_tests) in rw e (omega (arith, inside))
    by false e = rw e (omega arith)
