use Rattle.std.proofs.Common.{drop, ap, ◌∙◌, rules}
use Rattle.chv_http.proofs.StageLemmas.{short_of_front, refused_here}
use Rattle.chv_http.proofs.parser.Parser.take.Goals as goal

pub returns-in-Front-clause-took : goal.returns-in-Front-clause-took
returns-in-Front-clause-took c =
    let same = c.from-rest.ensures ∙ ap (drop c.self.inside.start) c.as_slice.ensures.value ∙ c.self.view_is in
    (short_of_front _ _ _ _ _ c.in-Front.is same c.look_on-self-inside.ensures.settled, c.self.view_is)

pub returns-in-Bad-clause-took : goal.returns-in-Bad-clause-took
returns-in-Bad-clause-took c =
    let same = c.from-rest.ensures ∙ ap (drop c.self.inside.start) c.as_slice.ensures.value ∙ c.self.view_is in
    ((refused_here _ _ _ _ c.in-Bad.is same c.look_on-self-inside.ensures.holds).0, c.self.view_is)

pub give-requires-clause-whole : goal.give-requires-clause-whole
give-requires-clause-whole c = search rules
