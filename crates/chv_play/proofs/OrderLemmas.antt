-- A session that is played makes its calls in order: its turns follow one another from its start.
use Rattle.std.proofs.Common.{◌≡◌, ◌≢◌, ℕ, Bool, true, false, inl, inr, List, [], ◌∷◌, ◌++◌, None, refl, sym, ap, subst, ◌∙◌}
use Rattle.chv_defs_api.specs.declared.session.SessionEnd.{SessionEnd}
use Rattle.chv_defs_api.specs.declared.session.SessionEnd.TheVariants as end
use Rattle.chv_defs_api.specs.declared.request.Request.{Request}
use Rattle.chv_defs_api.specs.Desks.{Answer}
use Rattle.chv_defs_api.specs.SessionBytes.{IsSessionLog}
use Rattle.chv_session.specs.declared.next.Next.{Next}
use Rattle.chv_session.specs.declared.next.Next.TheVariants as next
use Rattle.chv_session.specs.declared.state.State.{State}
use Rattle.chv_session.specs.declared.state.State.TheVariants as state
use Rattle.chv_session.specs.Laws.{Runs}
use Rattle.chv_session.specs.Moment.{Moment}
use Rattle.chv_session.specs.Response.{StopsIn}
use Rattle.chv_session.specs.Step.{Answers, Hand, ComesFrom, ComesTo, Stops, is_over, state_behind}
use Rattle.chv_session.specs.Talk.{Talk, new_talk, end_of}
use Rattle.chv_session.proofs.LawLemmas.{ends_as_session}
use Rattle.chv_play.specs.Order.{played, IsOrdered}

-- ---- whether it has ended

behind_goes_on : (last : Bool) → is_over (state_behind last) ≡ false
behind_goes_on true = refl
behind_goes_on false = refl

answer_goes_on : (stands : State) (hand rest reply : List ℕ) (made : List Answer) → Answers stands hand rest reply made → is_over stands ≡ false
answer_goes_on stands hand rest reply made (inl request) = ap is_over request.3 ∙ behind_goes_on request.0.last
answer_goes_on stands hand rest reply made (inr bad) = ap is_over bad.5

answered_from : (s : State) (before after : Moment) → is_over s ≡ false → ComesFrom s next.Answered before after → is_over after.talk.state ≡ false
answered_from state.Open before after goes step = answer_goes_on after.talk.state _ _ _ _ step.outcome.0
answered_from (state.Leaving how) before after goes comes = absurd (cc comes.1)
answered_from (state.Ended how) before after goes comes = absurd (cc comes.0)
answered_from state.Lost before after goes comes = absurd comes

-- a session that answered has not ended
answered_goes_on : (before after : Moment) → is_over before.talk.state ≡ false → ComesTo next.Answered before after
    → is_over after.talk.state ≡ false
answered_goes_on before after goes comes = answered_from before.talk.state before after goes comes

ended_from : (s : State) (how : SessionEnd) (before after : Moment) → is_over s ≡ false → ComesFrom s (next.Ended how) before after
    → after.talk.state ≡ state.Ended how
ended_from state.Open how before after goes step = step.outcome.1
ended_from (state.Leaving planned) how before after goes (came, is, new_is, by, puts) =
    let same : how ≡ came = cc is in
    ap (λ (t : Talk). t.state) new_is ∙ ap state.Ended (sym same)
ended_from (state.Ended other) how before after goes comes = absurd (cc goes)
ended_from state.Lost how before after goes comes = absurd comes

-- one that says its end has
says_its_end : (how : SessionEnd) (before after : Moment) → is_over before.talk.state ≡ false → ComesTo (next.Ended how) before after
    → after.talk.state ≡ state.Ended how
says_its_end how before after goes comes = ended_from before.talk.state how before after goes comes

-- ---- that the run does not stop it

-- no call was answered Stopped in a request
request_goes_on : (request : Request) (made : List Answer) → StopsIn request made None → ⊥
request_goes_on request made (c, is, inl (none, refused)) = cc refused
request_goes_on request made (c, is, inr (holds, refused)) = cc refused

step_goes_on : (hand : Hand) (unsent : List ℕ) (made : List Answer) → Stops hand unsent made None → ⊥
step_goes_on hand unsent made (inl (request, begins, stops, none)) = request_goes_on request made stops
step_goes_on hand unsent made (inr (how, comes, refused)) = cc refused

stopped_from : (s : State) (old new : Talk) (answers answers_after : List Answer) → is_over s ≡ false → s ≢ state.Leaving end.Stopped
    → ComesFrom s (next.Ended end.Stopped) (played old answers) (played new answers_after) → ⊥
stopped_from state.Open old new answers answers_after goes leaves step = step_goes_on _ _ _ step.outcome.3
stopped_from (state.Leaving how) old new answers answers_after goes leaves (came, is, new_is, inl (bye, same, says, made, still), puts) =
    let stops : end.Stopped ≡ came = cc is in
    leaves (ap state.Leaving (sym (stops ∙ same)))
stopped_from (state.Leaving how) old new answers answers_after goes leaves (came, is, new_is, inr (stops, same, refused), puts) = cc refused
stopped_from (state.Ended other) old new answers answers_after goes leaves comes = cc goes
stopped_from state.Lost old new answers answers_after goes leaves comes = comes

-- a session that is played does not end so
not_stopped : (old new : Talk) (answers answers_after : List Answer) → is_over old.state ≡ false → old.state ≢ state.Leaving end.Stopped
    → ComesTo (next.Ended end.Stopped) (played old answers) (played new answers_after) → ⊥
not_stopped old new answers answers_after goes leaves comes = stopped_from old.state old new answers answers_after goes leaves comes

behind_leaves : (last : Bool) → state_behind last ≢ state.Leaving end.Stopped
behind_leaves true same = cc same
behind_leaves false same = cc same

answer_leaves : (stands : State) (hand rest reply : List ℕ) (made : List Answer) → Answers stands hand rest reply made
    → stands ≢ state.Leaving end.Stopped
answer_leaves stands hand rest reply made (inl request) same = behind_leaves request.0.last (sym request.3 ∙ same)
answer_leaves stands hand rest reply made (inr bad) same =
    let other : state.Leaving end.Bad ≡ state.Leaving end.Stopped = sym bad.5 ∙ same in
    cc other

leaves_from : (s : State) (before after : Moment) → is_over s ≡ false → ComesFrom s next.Answered before after
    → after.talk.state ≢ state.Leaving end.Stopped
leaves_from state.Open before after goes step = answer_leaves after.talk.state _ _ _ _ step.outcome.0
leaves_from (state.Leaving how) before after goes comes = absurd (cc comes.1)
leaves_from (state.Ended how) before after goes comes = absurd (cc comes.0)
leaves_from state.Lost before after goes comes = absurd comes

-- one that leaves behind an answer does not end so either
answered_leaves : (before after : Moment) → is_over before.talk.state ≡ false → ComesTo next.Answered before after
    → after.talk.state ≢ state.Leaving end.Stopped
answered_leaves before after goes comes = leaves_from before.talk.state before after goes comes

ended_leaves : (s : State) (how : SessionEnd) → s ≡ state.Ended how → s ≢ state.Leaving end.Stopped
ended_leaves s how is same =
    let other : state.Ended how ≡ state.Leaving end.Stopped = sym is ∙ same in
    cc other

-- ---- its calls

runs_on : (first : Moment) (moments : List Moment) (last after : Moment) → Runs first moments last → ComesTo next.Answered last after
    → Runs first (moments ++ after ∷ []) after
runs_on first [] last after is comes = (subst (λ (m : Moment). ComesTo next.Answered m after) (sym is) comes, refl)
runs_on first (moment ∷ moments) last after runs comes = (runs.0, runs_on moment moments last after runs.1 comes)

-- a new session
pub new_ordered : IsOrdered new_talk []
new_ordered = record { going = λ goes. ([], refl); leaving = λ same. cc same; over = λ over. absurd (cc over) }

-- a session behind one more turn
pub turn_ordered : (said : Next) (old new : Talk) (answers answers_after : List Answer) → is_over old.state ≡ false
    → ComesTo said (played old answers) (played new answers_after) → IsOrdered old answers → IsOrdered new answers_after
turn_ordered next.Answered old new answers answers_after goes comes ordered =
    let so_far = ordered.going goes in
    record {
      going = λ _. (
        so_far.0 ++ played new answers_after ∷ [],
        runs_on (played new_talk []) so_far.0 (played old answers) (played new answers_after) so_far.1 comes,
      );
      leaving = answered_leaves (played old answers) (played new answers_after) goes comes;
      over = λ over. absurd (cc (sym over ∙ answered_goes_on (played old answers) (played new answers_after) goes comes));
    }
turn_ordered (next.Ended how) old new answers answers_after goes comes ordered =
    let so_far = ordered.going goes in
    let ends : new.state ≡ state.Ended how = says_its_end how (played old answers) (played new answers_after) goes comes in
    let all = ends_as_session (played new_talk []) (played old answers) (played new answers_after) so_far.0 how refl so_far.1 comes in
    record {
      going = λ goes_on. absurd (cc (sym goes_on ∙ ap is_over ends));
      leaving = ended_leaves new.state how ends;
      over = λ _. subst (λ (s : State). (end_of s ≢ end.Stopped) × IsSessionLog (end_of s) new.asked new.replied answers_after) (sym ends) (
        λ stopped. not_stopped old new answers answers_after goes ordered.leaving
            (subst (λ (h : SessionEnd). ComesTo (next.Ended h) (played old answers) (played new answers_after)) stopped comes),
        subst (IsSessionLog how new.asked new.replied) (sym all.1) all.2,
      );
    }
