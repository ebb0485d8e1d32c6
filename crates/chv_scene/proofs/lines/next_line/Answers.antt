use Rattle.std.proofs.Common.{ℕ, ◌<◌, List, length, Option, option_map, subst, sym, ◌∙◌, ap, ap₂}
use Rattle.chv_scene.proofs.CutLemmas.{or_nothing, lines_from, lines-cut_at, behind-shorter}
use Rattle.chv_scene.proofs.lines.next_line.Goals as goal

pub returns-in-Some-clause-lines : goal.returns-in-Some-clause-lines
returns-in-Some-clause-lines c =
    lines-cut_at c.args.text.now c.requires
    ∙ ap₂ (λ (before : List ℕ) (behind : Option (List ℕ)). lines_from (before, behind)) (sym c.cut.ensures.before) (sym c.cut.ensures.behind ∙ ap (option_map (λ s. s.now)) c.in-Some.is)

pub returns-in-None-clause-lines : goal.returns-in-None-clause-lines
returns-in-None-clause-lines c =
    lines-cut_at c.args.text.now c.requires
    ∙ ap₂ (λ (before : List ℕ) (behind : Option (List ℕ)). lines_from (before, behind)) (sym c.cut.ensures.before) (sym c.cut.ensures.behind ∙ ap (option_map (λ s. s.now)) c.in-None.is)

pub returns-in-Some-clause-shorter : goal.returns-in-Some-clause-shorter
returns-in-Some-clause-shorter c =
    subst (λ behind. length (or_nothing behind) < length c.args.text.now) (sym c.cut.ensures.behind ∙ ap (option_map (λ s. s.now)) c.in-Some.is) (behind-shorter 10 c.args.text.now c.requires)
