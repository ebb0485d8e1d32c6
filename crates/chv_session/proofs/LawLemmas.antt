-- Whole sessions: what the turns so far make, and what the last one adds.
use Rattle.std.proofs.Common.{◌≡◌, Bool, false, ℕ, List, [], ◌∷◌, ◌++◌, Result, Ok, Err, refl, sym, ap, subst, ◌∙◌, inl, inr, append_assoc}
use Rattle.std.specs.List.{AllByRecursion}
use Rattle.chv_defs_base.specs.declared.rule.Rule.{Rule}
use Rattle.chv_defs_api.specs.declared.control.ControlCall.{ControlCall}
use Rattle.chv_defs_api.specs.declared.session.SessionEnd.{SessionEnd}
use Rattle.chv_defs_api.specs.declared.session.SessionEnd.TheVariants as end
use Rattle.chv_defs_api.specs.Desks.{Answer}
use Rattle.chv_defs_api.specs.Routes.{call_of_request}
use Rattle.chv_defs_api.specs.SessionBytes.{AnsweredBy, EndsAs, StopsAs, IsSessionLog}
use Rattle.chv_session.specs.declared.next.Next.TheVariants as next
use Rattle.chv_session.specs.declared.state.State.{State}
use Rattle.chv_session.specs.declared.state.State.TheVariants as state
use Rattle.chv_session.specs.Talk.{Talk}
use Rattle.chv_session.specs.Moment.{Moment}
use Rattle.chv_session.specs.Response.{Leaves, is_bye}
use Rattle.chv_session.specs.Step.{Answers, hand_between, ComesFrom, LosesFrom}
use Rattle.chv_session.specs.Laws.{AnswersWithoutBye, EndsAsSession, IsSessionWhereLeft, IsSessionWhereLost, PutsItsReplies, PutsItsRepliesWhereLost}
use Rattle.chv_session.proofs.DeskLemmas.{request_asks_no_bye}
use Rattle.chv_session.proofs.OpenLemmas.{no_more}
use Rattle.chv_session.proofs.EndLemmas.{log_with_bye, log_is, log_breaks}
use Rattle.chv_session.proofs.SoFarLemmas.{StandsAs, runs_from_start}
use Rattle.chv_session.proofs.PutLemmas.{took, end_puts, lost_puts}

-- ---- the calls

-- what a session leaves that ends so
abbrev Logs : SessionEnd → List Answer → Moment → Type 0
Logs how answers after =
    (made : List Answer) × (after.answers ≡ answers ++ made) × IsSessionLog how after.talk.asked after.talk.replied made

left_log : (s : State) (asked replied rest : List ℕ) (made : List Answer) → StandsAs s asked replied made rest
    → StopsAs asked replied made
left_log state.Open asked replied rest made stands = inl (rest, stands)
left_log (state.Leaving how) asked replied rest made stands = inr (inr (how, stands))
left_log (state.Ended how) asked replied rest made stands = absurd stands
left_log state.Lost asked replied rest made stands = absurd stands

-- the Bye of a session that leaves
bye_log : (how came said : SessionEnd) (answers : List Answer) (last after : Moment) (made : List Answer)
    → EndsAs how last.talk.asked last.talk.replied made → last.answers ≡ answers ++ made → said ≡ came
    → after.talk ≡ record last.talk { state = state.Ended came } → Leaves how came last.answers after.answers last.refused after.refused
    → Logs said answers after
bye_log how came said answers last after made stands calls says talk (inl byes) = (
  made ++ byes.0 ∷ [],
  byes.3 ∙ ap (λ l. l ++ byes.0 ∷ []) calls ∙ append_assoc answers made (byes.0 ∷ []),
  subst (λ (e : SessionEnd). IsSessionLog e after.talk.asked after.talk.replied (made ++ byes.0 ∷ [])) (sym (says ∙ byes.1))
      (subst (λ (t : Talk). IsSessionLog how t.asked t.replied (made ++ byes.0 ∷ [])) (sym talk)
      (log_with_bye how last.talk.asked last.talk.replied made (made ++ byes.0 ∷ []) byes.0 stands byes.2 refl)),
)
bye_log how came said answers last after made stands calls says talk (inr stops) = (
  made,
  stops.1 ∙ calls,
  subst (λ (e : SessionEnd). IsSessionLog e after.talk.asked after.talk.replied made) (sym (says ∙ stops.0))
      (subst (λ (t : Talk). StopsAs t.asked t.replied made) (sym talk) (inr (inr (how, stands)))),
)

end_log : (s : State) (how : SessionEnd) (answers : List Answer) (last after : Moment) (made : List Answer)
    → StandsAs s last.talk.asked last.talk.replied made last.talk.rest → last.answers ≡ answers ++ made
    → ComesFrom s (next.Ended how) last after → Logs how answers after
end_log state.Open how answers last after made stands calls step =
    let ends = step.outcome in
    let so_far = took last after step.more made stands step.takes in (
      made ++ step.made,
      step.calls ∙ ap (λ l. l ++ step.made) calls ∙ append_assoc answers made step.made,
      subst (λ r. IsSessionLog how after.talk.asked r (made ++ step.made)) (sym (step.replies ∙ no_more last.talk.replied step.reply ends.2))
          (log_is how (hand_between last step.more after) last.talk.replied ends.0 made step.made after.refused so_far ends.3),
    )
end_log (state.Leaving how_then) how answers last after made stands calls goes =
    let says : how ≡ goes.0 = cc (goes.1) in
    bye_log how_then goes.0 how answers last after made stands calls says goes.2 goes.3
end_log (state.Ended how_then) how answers last after made stands calls goes = absurd stands
end_log state.Lost how answers last after made stands calls goes = absurd stands

lost_log : (s : State) (answers : List Answer) (last after : Moment) (made : List Answer)
    → StandsAs s last.talk.asked last.talk.replied made last.talk.rest → last.answers ≡ answers ++ made
    → LosesFrom s last after → Logs end.Stopped answers after
lost_log state.Open answers last after made stands calls loses =
    let breaks = loses.1 in
    let so_far = took last after breaks.more made stands breaks.takes in (
      made ++ breaks.made,
      breaks.calls ∙ ap (λ l. l ++ breaks.made) calls ∙ append_assoc answers made breaks.made,
      subst (λ r. StopsAs after.talk.asked r (made ++ breaks.made)) (sym breaks.replies)
          (log_breaks (hand_between last breaks.more after) last.talk.replied breaks.unsent made breaks.made so_far breaks.place),
    )
lost_log (state.Leaving how) answers last after made stands calls loses = (
  made,
  loses.1 ∙ calls,
  subst (λ (t : Talk). StopsAs t.asked t.replied made) (sym loses.0) (inr (inr (how, stands))),
)
lost_log (state.Ended how) answers last after made stands calls loses = absurd stands
lost_log state.Lost answers last after made stands calls loses = absurd stands

-- ---- no Bye beside an answer

abbrev HaveNoBye : List Answer → Type 0
HaveNoBye made = AllByRecursion (λ (answer : Answer). is_bye answer.call ≡ false) made

answered_no_bye : (asks : Result ControlCall Rule) (last : Bool) (made : List Answer) (bytes : List ℕ)
    → ((c : ControlCall) → asks ≡ Ok c → is_bye c ≡ false) → AnsweredBy asks last made bytes → HaveNoBye made
answered_no_bye (Err rule) last made bytes says by = subst HaveNoBye (sym by.0) tt
answered_no_bye (Ok c) last made bytes says (answer, (quiet, inl own), is) =
    subst HaveNoBye (sym own.1) (ap is_bye own.0 ∙ says c refl, tt)
answered_no_bye (Ok c) last made bytes says (answer, (quiet, inr settled), is) =
    subst HaveNoBye (sym settled.1) (says c refl, (ap is_bye settled.0, tt))

answers_no_bye : (stands : State) (hand rest reply : List ℕ) (made : List Answer) → Answers stands hand rest reply made → HaveNoBye made
answers_no_bye stands hand rest reply made (inl (request, begins, answered, is)) =
    answered_no_bye (call_of_request request) request.last made reply (λ c. request_asks_no_bye request c) answered
answers_no_bye stands hand rest reply made (inr bad) = subst HaveNoBye (sym bad.3) tt

turn_no_bye : (s : State) (before after : Moment) → ComesFrom s next.Answered before after
    → (made : List Answer) × (after.answers ≡ before.answers ++ made) × HaveNoBye made
turn_no_bye state.Open before after goes =
    let step = goes in
    (step.made, step.calls, answers_no_bye after.talk.state (before.talk.rest ++ step.more) after.talk.rest step.reply step.made step.outcome.0)
turn_no_bye (state.Leaving how) before after goes = absurd (cc (goes.1))
turn_no_bye (state.Ended how) before after goes = absurd (cc (goes.0))
turn_no_bye state.Lost before after goes = absurd goes

-- ---- the laws

pub answers_without_bye : AnswersWithoutBye
answers_without_bye before after goes = turn_no_bye before.talk.state before after goes

pub is_session_where_left : IsSessionWhereLeft
is_session_where_left first last moments is runs =
    let so_far = runs_from_start first last moments is runs in
    (so_far.made, so_far.calls, left_log last.talk.state last.talk.asked last.talk.replied last.talk.rest so_far.made so_far.stands)

pub ends_as_session : EndsAsSession
ends_as_session first last after moments how is runs goes =
    let so_far = runs_from_start first last moments is runs in
    end_log last.talk.state how first.answers last after so_far.made so_far.stands so_far.calls goes

pub is_session_where_lost : IsSessionWhereLost
is_session_where_lost first last after moments is runs loses =
    let so_far = runs_from_start first last moments is runs in
    lost_log last.talk.state first.answers last after so_far.made so_far.stands so_far.calls loses

pub puts_its_replies : PutsItsReplies
puts_its_replies first last after moments how is runs goes =
    let so_far = runs_from_start first last moments is runs in
    (so_far.puts, end_puts last.talk.state how first.answers first.put last after so_far.made so_far.stands so_far.calls so_far.puts goes)

pub puts_its_replies_where_lost : PutsItsRepliesWhereLost
puts_its_replies_where_lost first last after moments is runs loses =
    let so_far = runs_from_start first last moments is runs in
    lost_puts last.talk.state first.answers first.put last after so_far.made so_far.stands so_far.calls so_far.puts loses
