-- Calls that leave the counts of a connection's faults, one after another.
use Rattle.std.proofs.Common.{◌≡◌, ◌⊎◌, ⊎_elim, inl, inr, ℕ, Bool, true, List, Option, Result, Ok, Err, IfOk, OnErr, refl, sym, ap, subst, ◌∙◌}
use Rattle.chv_defs_api.specs.declared.control.ControlCall.{ControlCall}
use Rattle.chv_defs_api.specs.declared.session.SessionEnd.{SessionEnd}
use Rattle.chv_defs_api.specs.declared.session.SessionEnd.TheVariants as end
use Rattle.chv_defs_api.specs.Desks.{Answer}
use Rattle.chv_session.specs.declared.fill.Found.{Found}
use Rattle.chv_session.specs.declared.fill.Found.TheVariants as found
use Rattle.chv_session.specs.declared.next.Next.{Next}
use Rattle.chv_session.specs.declared.next.Next.TheVariants as next
use Rattle.chv_session.specs.declared.respond.Then.{Then}
use Rattle.chv_session.specs.declared.respond.Then.TheVariants as then_is
use Rattle.chv_session.specs.declared.state.State.{State}
use Rattle.chv_session.specs.Counts.{CountsStay, StaysUnlessFound, IsNoFault, StaysUnlessEnding, IsFaultless}
use Rattle.chv_session.specs.Moment.{Faults, faults}
use Rattle.chv_session.specs.Response.{Leaves, Finishes}
use Rattle.chv_session.specs.Step.{said_at}
use Rattle.chv_session.proofs.DrainLemmas.{EndsAtFault}
use Rattle.chv_session.proofs.LeftLemmas.{Stands}

pub counts_join : {a b c x y z : ℕ} → CountsStay (faults a b x y) → CountsStay (faults b c y z) → CountsStay (faults a c x z)
counts_join first second = record {
  reads_stay = second.reads_stay ∙ first.reads_stay;
  writes_stay = second.writes_stay ∙ first.writes_stay;
}

stays_more : {a b c x y z : ℕ} (then_of : Then) → CountsStay (faults a b x y) → StaysUnlessEnding then_of (faults b c y z)
    → StaysUnlessEnding then_of (faults a c x z)
stays_more then_of first second = ⊎_elim (λ ends. inl ends) (λ stays. inr (counts_join first stays)) second

-- what was found, and what was put then
pub found_and_sent : {a b c x y z : ℕ} (what : Found) (then_of : Then) → StaysUnlessFound what (faults a b x y) → EndsAtFault what then_of
    → StaysUnlessEnding then_of (faults b c y z) → StaysUnlessEnding then_of (faults a c x z)
found_and_sent found.Fault then_of first ends second = inl ends
found_and_sent (found.Request request) then_of first ends second = stays_more then_of first second
found_and_sent (found.Bad rule) then_of first ends second = stays_more then_of first second
found_and_sent found.End then_of first ends second = stays_more then_of first second
found_and_sent found.Limit then_of first ends second = stays_more then_of first second

-- what was found with no fault
pub no_fault_stays : (what : Found) (counts : Faults) → IsNoFault what → StaysUnlessFound what counts → CountsStay counts
no_fault_stays found.Fault counts no_fault stays = absurd no_fault
no_fault_stays (found.Request request) counts no_fault stays = stays
no_fault_stays (found.Bad rule) counts no_fault stays = stays
no_fault_stays found.End counts no_fault stays = stays
no_fault_stays found.Limit counts no_fault stays = stays

ended_by : (came : SessionEnd) (before after : List Answer) (refused refused_after : Option ControlCall) (counts : Faults)
    → Leaves end.Fault came before after refused refused_after → IsFaultless (next.Ended came) refused_after counts
ended_by came before after refused refused_after counts (inl bye) = inr (inl (ap (λ (e : SessionEnd). next.Ended e) bye.1))
ended_by came before after refused refused_after counts (inr stopped) =
    inr (inr (ap (λ (e : SessionEnd). next.Ended e) stopped.0, stopped.2))

-- where the session stands then
pub finished_so : (then_of : Then) (stands : State) (before after : List Answer) (refused refused_after : Option ControlCall) (counts : Faults)
    → StaysUnlessEnding then_of counts → Finishes then_of stands before after refused refused_after
    → IsFaultless (said_at stands) refused_after counts
finished_so then_of stands before after refused refused_after counts (inr stays) finishes = inl stays
finished_so then_of stands before after refused refused_after counts (inl is) finishes =
    let ends = subst (λ (t : Then). Finishes t stands before after refused refused_after) is finishes in
    subst (λ (s : State). IsFaultless (said_at s) refused_after counts) (sym ends.1)
    (ended_by ends.0 before after refused refused_after counts ends.2)

-- what a call says that a step left there
pub left_faultless : {E : Type 0} (left : Result State E) (result : Result Next E) (stood : State) (refused : Option ControlCall) (counts : Faults)
    → IfOk left (λ stands. IsFaultless (said_at stands) refused counts) → Stands left stood result
    → IfOk result (λ what. IsFaultless what refused counts)
left_faultless {E} (Ok stands) result stood refused counts faultless is =
    subst (λ (r : Result Next E). IfOk r (λ what. IsFaultless what refused counts)) (sym is.1) faultless
left_faultless {E} (Err error) result stood refused counts faultless is =
    subst (λ (r : Result Next E). IfOk r (λ what. IsFaultless what refused counts)) (sym is.1) tt
