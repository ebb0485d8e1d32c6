use Rattle.std.proofs.Common.{sym, ◌∙◌}
use Rattle.chv_session.proofs.DeskLemmas.{settles_held}
use Rattle.chv_session.proofs.AskedLemmas.{asked_one}
use Rattle.chv_session.proofs.respond.settle_held.Goals as goal

pub returns-then-holds-clause-settles : goal.returns-then-holds-clause-settles
returns-then-holds-clause-settles g c =
    settles_held _ _ _ _ _ _ (sym c.holds.ensures ∙ c.if-holds.true) c.settle.ensures.settles

pub returns-then-holds-clause-asked : goal.returns-then-holds-clause-asked
returns-then-holds-clause-asked g c = asked_one _ _ _ _ c.settle.ensures.asked
