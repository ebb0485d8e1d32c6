use Rattle.std.proofs.Common.{sym, ◌∙◌}
use Rattle.chv_control.proofs.Answered.{first-found, next-asked}
use Rattle.chv_control.proofs.books.make_calls.Goals as goal

pub returns-in-Some-clause-answer : goal.returns-in-Some-clause-answer
returns-in-Some-clause-answer g c = first-found _ _ c.in-Some.full (sym c.full_at.ensures ∙ c.in-Some.is)

pub returns-clause-answer : goal.returns-clause-answer
returns-clause-answer g c = next-asked _ _ c.make_owner_calls.result (sym c.full_at.ensures ∙ c.in_default.is) c.make_owner_calls.ensures.answer
