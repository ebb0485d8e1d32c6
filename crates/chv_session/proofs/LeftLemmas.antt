-- What a step that left a session there makes of the call.
use Rattle.std.proofs.Common.{◌≡◌, Bool, false, Result, Ok, Err, IfOk, OnErr, refl, sym, subst}
use Rattle.std.specs.Prelude.{MatchResult}
use Rattle.chv_defs_api.specs.Desks.{is_held}
use Rattle.chv_session.specs.declared.next.Next.{Next}
use Rattle.chv_session.specs.declared.state.State.{State}
use Rattle.chv_session.specs.declared.state.State.TheVariants as state
use Rattle.chv_session.specs.Talk.{Talk}
use Rattle.chv_session.specs.Moment.{Moment}
use Rattle.chv_session.specs.Taking.{Intake}
use Rattle.chv_session.specs.Wire.{Drains}
use Rattle.chv_session.specs.Step.{Step, Breaks, IsReady, ComesFrom, ComesTo, LosesFrom, GetsLost, ClosesLost, said_at}
use Rattle.chv_session.proofs.ReadyLemmas.{step_ready}

-- where the session stands then, and what the call answers
abbrev pub Stands : {E : Type 0} → Result State E → State → Result Next E → Type 0
Stands left stood result =
    MatchResult left (λ stands. (stood ≡ stands) × (result ≡ Ok (said_at stands))) (λ error. (stood ≡ state.Lost) × (result ≡ Err error))

-- a moment at which the session stands there
abbrev pub standing : Moment → State → Moment
standing m stands = record m { talk = record m.talk { state = stands } }

pub left_comes : {E : Type 0} {talk : Talk} (left : Result State E) (result : Result Next E) (stood : State) (before now : Moment)
    → before.talk.state ≡ state.Open → before.talk ≡ talk
    → IfOk left (λ stands. Step (said_at stands) before (standing now stands)) → Stands left stood result
    → IfOk result (λ what. ComesTo what (record before { talk = talk }) (standing now stood))
left_comes {E} {talk} (Ok stands) result stood before now opened same step is =
    subst (λ (r : Result Next E). IfOk r (λ what. ComesTo what (record before { talk = talk }) (standing now stood))) (sym is.1)
    (subst (λ (s : State). ComesTo (said_at stands) (record before { talk = talk }) (standing now s)) (sym is.0)
    (subst (λ (t : Talk). ComesTo (said_at stands) (record before { talk = t }) (standing now stands)) same
    (subst (λ (s : State). ComesFrom s (said_at stands) before (standing now stands)) (sym opened) step)))
left_comes {E} {talk} (Err error) result stood before now opened same step is =
    subst (λ (r : Result Next E). IfOk r (λ what. ComesTo what (record before { talk = talk }) (standing now stood))) (sym is.1) tt

pub left_lost : {E : Type 0} {talk : Talk} (left : Result State E) (result : Result Next E) (stood : State) (before now : Moment)
    → before.talk.state ≡ state.Open → before.talk ≡ talk → OnErr left (Breaks before (standing now state.Lost))
    → OnErr left (now.refused ≡ before.refused) → Stands left stood result
    → OnErr result (GetsLost (record before { talk = talk }) (standing now stood))
left_lost {E} {talk} (Ok stands) result stood before now opened same breaks goes is =
    subst (λ (r : Result Next E). OnErr r (GetsLost (record before { talk = talk }) (standing now stood))) (sym is.1) tt
left_lost {E} {talk} (Err error) result stood before now opened same breaks goes is =
    subst (λ (r : Result Next E). OnErr r (GetsLost (record before { talk = talk }) (standing now stood))) (sym is.1)
    (subst (λ (s : State). GetsLost (record before { talk = talk }) (standing now s)) (sym is.0)
    (subst (λ (t : Talk). GetsLost (record before { talk = t }) (standing now state.Lost)) same
    (subst (λ (s : State). LosesFrom s before (standing now state.Lost)) (sym opened) (refl, breaks, goes))))

pub left_closes : {E : Type 0} {talk : Talk} (left : Result State E) (result : Result Next E) (stood : State) (before now : Moment) (closed closed_after : Bool)
    → before.talk.state ≡ state.Open → before.talk ≡ talk
    → OnErr left (ClosesLost state.Open before (standing now state.Lost) closed closed_after) → Stands left stood result
    → OnErr result (ClosesLost talk.state (record before { talk = talk }) (standing now stood) closed closed_after)
left_closes {E} {talk} (Ok stands) result stood before now closed closed_after opened same closes is =
    subst (λ (r : Result Next E). OnErr r (ClosesLost talk.state (record before { talk = talk }) (standing now stood) closed closed_after)) (sym is.1) tt
left_closes {E} {talk} (Err error) result stood before now closed closed_after opened same closes is =
    subst (λ (r : Result Next E). OnErr r (ClosesLost talk.state (record before { talk = talk }) (standing now stood) closed closed_after)) (sym is.1)
    (subst (λ (s : State). ClosesLost talk.state (record before { talk = talk }) (standing now s) closed closed_after) (sym is.0)
    (subst (λ (t : Talk). ClosesLost t.state (record before { talk = t }) (standing now state.Lost) closed closed_after) same
    (subst (λ (s : State). ClosesLost s before (standing now state.Lost) closed closed_after) (sym opened) closes)))

pub left_ready : {E : Type 0} (left : Result State E) (result : Result Next E) (stood : State) (before now : Moment)
    → IfOk left (λ stands. Step (said_at stands) before (standing now stands)) → Stands left stood result
    → is_held before.answers ≡ false → IfOk result (λ what. IsReady what now.answers)
left_ready {E} (Ok stands) result stood before now step is free =
    subst (λ (r : Result Next E). IfOk r (λ what. IsReady what now.answers)) (sym is.1)
    (step_ready (said_at stands) before (standing now stands) step free)
left_ready {E} (Err error) result stood before now step is free =
    subst (λ (r : Result Next E). IfOk r (λ what. IsReady what now.answers)) (sym is.1) tt

pub left_drains : {E : Type 0} {inside before : Talk} (left : Result State E) (result : Result Next E) (stood : State) (first after : Intake)
    → inside ≡ before
    → IfOk left (λ stands. Drains (said_at stands) (record first { asked = inside.asked; rest = inside.rest }) after)
    → Stands left stood result
    → IfOk result (λ what. Drains what (record first { asked = before.asked; rest = before.rest }) after)
left_drains {E} {inside} {before} (Ok stands) result stood first after same drains is =
    subst (λ (r : Result Next E). IfOk r (λ what. Drains what (record first { asked = before.asked; rest = before.rest }) after)) (sym is.1)
    (subst (λ (t : Talk). Drains (said_at stands) (record first { asked = t.asked; rest = t.rest }) after) same drains)
left_drains {E} {inside} {before} (Err error) result stood first after same drains is =
    subst (λ (r : Result Next E). IfOk r (λ what. Drains what (record first { asked = before.asked; rest = before.rest }) after)) (sym is.1) tt
