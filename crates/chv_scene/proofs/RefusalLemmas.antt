-- Each refusal names the lowest line with which no scenario goes on.
use Rattle.std.proofs.Common.{◌≡◌, ◌+◌, length, take, drop, refl, sym, ◌∙◌, ap, subst, length-append, arith}
use Rattle.std.proofs.lemmas.List.{take_at, drop_at}
use Rattle.chv_defs_scene.specs.ScenarioLines.{lines_of, nothing_before}
use Rattle.chv_defs_scene.specs.ScenarioText.{Outside}
use Rattle.chv_scene.specs.Refusals.{HasRoom, BeginsScenario, RefusesLowestLine}
use Rattle.chv_scene.proofs.NextLemmas.{lines_split}
use Rattle.chv_scene.proofs.BeginsLemmas.{begins}
use Rattle.chv_scene.proofs.LowestLemmas.{none_goes_on}

pub names_lowest : RefusesLowestLine
names_lowest text fault e =
    let split = lines_split Outside nothing_before 1 (lines_of text) fault e in
    let front = split.0 in
    let rest = split.1 in
    let counted : length (lines_of text) ≡ length front + length rest = ap length split.2 ∙ length-append front rest in
    let passed : take (length front) (lines_of text) ≡ front = ap (take (length front)) split.2 ∙ take_at front rest (length front) refl in
    let left : drop (length front) (lines_of text) ≡ rest = ap (drop (length front)) split.2 ∙ drop_at front rest (length front) refl in
    record {
      before = length front;
      line = omega (arith, split.3);
      inside = omega (arith, counted);
      lower = λ room. subst BeginsScenario (sym passed) (begins text front rest fault split.2 e split.3 (subst (HasRoom front) left (subst (λ ls. HasRoom ls (drop (length front) (lines_of text))) passed room)));
      none = none_goes_on text front rest fault split.2 e split.3;
    }
