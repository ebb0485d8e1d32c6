use Rattle.std.proofs.Common.{[], None, sym, ap, ◌∙◌, refl}
use Rattle.chv_session.specs.declared.state.State.{State}
use Rattle.chv_session.specs.declared.state.State.TheVariants as state
use Rattle.chv_session.specs.Talk.{Talk, talk_of}
use Rattle.chv_session.specs.Moment.{moment}
use Rattle.chv_session.specs.Taking.{intake}
use Rattle.chv_session.proofs.TakingLemmas.{takes_none}
use Rattle.chv_session.proofs.CountsLemmas.{left_faultless}
use Rattle.chv_session.proofs.LeftLemmas.{left_comes, left_lost, left_closes, left_ready, left_drains}
use Rattle.chv_session.proofs.session.Session.next.Goals as goal

pub returns-in-Open-clause-outcome : goal.returns-in-Open-clause-outcome
returns-in-Open-clause-outcome g c =
    left_comes _ _ _ (moment (talk_of c.self.inside.asked.items c.self.inside.parser c.self.inside.replied.items state.Open) _ _ _ _ _)
    (moment (talk_of _ _ _ state.Open) _ _ _ _ _) refl
    (ap (λ (s : State). talk_of c.self.inside.asked.items c.self.inside.parser c.self.inside.replied.items s) (sym c.in-Open.is)
    ∙ c.self.view_is) c.step-left.ensures.step c.stand-in-Open.ensures

pub returns-in-Open-clause-lost : goal.returns-in-Open-clause-lost
returns-in-Open-clause-lost g c =
    left_lost _ _ _ (moment (talk_of c.self.inside.asked.items c.self.inside.parser c.self.inside.replied.items state.Open) _ _ _ _ _)
    (moment (talk_of _ _ _ state.Open) _ _ _ _ _) refl
    (ap (λ (s : State). talk_of c.self.inside.asked.items c.self.inside.parser c.self.inside.replied.items s) (sym c.in-Open.is)
    ∙ c.self.view_is) c.step-left.ensures.err c.step-left.ensures.err_goes_on
    c.stand-in-Open.ensures

pub returns-in-Open-clause-lost_closes : goal.returns-in-Open-clause-lost_closes
returns-in-Open-clause-lost_closes g c =
    left_closes _ _ _ (moment (talk_of c.self.inside.asked.items c.self.inside.parser c.self.inside.replied.items state.Open) _ _ _ _ _)
    (moment (talk_of _ _ _ state.Open) _ _ _ _ _) _ _ refl
    (ap (λ (s : State). talk_of c.self.inside.asked.items c.self.inside.parser c.self.inside.replied.items s) (sym c.in-Open.is)
    ∙ c.self.view_is) c.step-left.ensures.err_closes c.stand-in-Open.ensures

pub returns-in-Open-clause-ready : goal.returns-in-Open-clause-ready
returns-in-Open-clause-ready g c =
    left_ready _ _ _ (moment (talk_of _ _ _ state.Open) _ _ _ _ _) (moment (talk_of _ _ _ state.Open) _ _ _ _ _)
    c.step-left.ensures.step c.stand-in-Open.ensures
    (c.requires.settled (sym (ap (λ (t : Talk). t.state) c.self.view_is) ∙ c.in-Open.is))

pub returns-in-Open-clause-drains : goal.returns-in-Open-clause-drains
returns-in-Open-clause-drains g c opened =
    left_drains _ _ _ (intake [] [] None None None _) (intake _ [] _ None None _) c.self.view_is c.step-left.ensures.drains c.stand-in-Open.ensures

pub returns-in-Ended-clause-taken : goal.returns-in-Ended-clause-taken
returns-in-Ended-clause-taken g c = takes_none (cc) (cc) (cc)

pub returns-in-Lost-clause-taken : goal.returns-in-Lost-clause-taken
returns-in-Lost-clause-taken g c = takes_none (cc) (cc) (cc)

pub returns-in-Leaving-clause-taken : goal.returns-in-Leaving-clause-taken
returns-in-Leaving-clause-taken g c =
    takes_none (ap (λ (t : Talk). t.asked) c.self.view_is) c.leave-left.ensures.stays.left_stays c.leave-left.ensures.stays.gave_stays

pub returns-in-Open-clause-faultless : goal.returns-in-Open-clause-faultless
returns-in-Open-clause-faultless g c = left_faultless _ _ _ _ _ c.step-left.ensures.faultless c.stand-in-Open.ensures
