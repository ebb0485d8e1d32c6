use Rattle.std.proofs.Common.{rules, ◌≡◌, ◌∙◌, length, sym, ap, ap₂, subst, arith}
use Rattle.chv_defs_scene.specs.ScenarioLines.{lines_of}
use Rattle.chv_scene.specs.Answer.{answer_of}
use Rattle.chv_scene.specs.Reading.{read_from, FitsOpen}
use Rattle.chv_scene.proofs.CutLemmas.{no_lines}
use Rattle.chv_scene.proofs.GrammarLemmas.{answer_few}
use Rattle.chv_scene.proofs.ReadingLemmas.{of_none}
use Rattle.chv_scene.proofs.scenario.read.Goals as goal

pub loop-rest-init : goal.loop-rest-init
loop-rest-init c = record {
  read = ap₂ (λ d o. read_from d o 1 (lines_of c.args.text.now)) c.new-reading.ensures.done c.new-reading.ensures.open ∙ of_none _;
  counted = omega arith;
  fits = subst (λ o. FitsOpen o (lines_of c.args.text.now)) (sym c.new-reading.ensures.open) tt;
}

-- nothing is left, so that the answer is that of the whole text
pub returns-clause-few : goal.returns-clause-few
returns-clause-few c =
    let none : length c.loop-rest.rest.now ≡ 0 = search rules in
    answer_few c.args.text.now c.finish.result
    (c.finish.ensures
    ∙ (ap (λ lines. answer_of (read_from c.loop-rest.reading.done c.loop-rest.reading.open c.loop-rest.line lines)) (sym (no_lines c.loop-rest.rest.now none))
    ∙ ap answer_of c.loop-rest.invariant.read))
