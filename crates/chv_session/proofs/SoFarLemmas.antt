-- What the turns from a new session on make.
use Rattle.std.proofs.Common.{◌≡◌, Bool, true, false, ℕ, List, [], ◌∷◌, ◌++◌, Option, Some, None, refl, sym, ap, subst, ◌∙◌, inl, inr, append_assoc}
use Rattle.std.proofs.lemmas.List.{append-nil}
use Rattle.chv_defs_api.specs.declared.request.Request.{Request}
use Rattle.chv_defs_api.specs.Desks.{Answer}
use Rattle.chv_io.specs.Outside.{Gains}
use Rattle.chv_defs_api.specs.Requests.{BeginsWith}
use Rattle.chv_defs_api.specs.SessionBytes.{Answered, IsOpen, EndsAs}
use Rattle.chv_session.specs.declared.next.Next.TheVariants as next
use Rattle.chv_session.specs.declared.state.State.{State}
use Rattle.chv_session.specs.declared.state.State.TheVariants as state
use Rattle.chv_session.specs.Talk.{Talk, new_talk}
use Rattle.chv_session.specs.Moment.{Moment}
use Rattle.chv_session.specs.Step.{Answers, state_behind, ComesFrom}
use Rattle.chv_session.specs.Laws.{Runs}
use Rattle.chv_session.proofs.OpenLemmas.{open_start, open_takes, open_answers, open_same, no_more}
use Rattle.chv_io.proofs.Gained.{gains_join}

-- where a session stands, with what it asked, replied and made: it is open; or it leaves, and ends so
abbrev pub StandsAs : State → List ℕ → List ℕ → List Answer → List ℕ → Type 0
StandsAs state.Open asked replied made rest = IsOpen asked replied made rest
StandsAs (state.Leaving how) asked replied made rest = EndsAs how asked replied made
StandsAs (state.Ended how) asked replied made rest = ⊥
StandsAs state.Lost asked replied made rest = ⊥

-- what the turns from a new session on make
pub record SoFar (answers : List Answer) (put : Option (List ℕ)) (last : Moment) : Type 0 where
  pub made : List Answer
  pub calls : last.answers ≡ answers ++ made
  pub stands : StandsAs last.talk.state last.talk.asked last.talk.replied made last.talk.rest
  pub puts : Gains put last.put last.talk.replied

stands_behind : (request : Request) (last : Bool) (asked replied hand rest reply : List ℕ) (made more : List Answer) → request.last ≡ last
    → IsOpen asked replied made hand → BeginsWith hand request rest → Answered request more reply
    → StandsAs (state_behind last) asked (replied ++ reply) (made ++ more) rest
stands_behind request true asked replied hand rest reply made more is so_far begins answered =
    (replied, made, hand, request, rest, more, reply, so_far, begins, is, answered, refl, refl)
stands_behind request false asked replied hand rest reply made more is so_far begins answered =
    open_answers asked replied hand rest reply made more request so_far begins is answered

stands_after : (stands : State) (asked replied hand rest reply : List ℕ) (made more : List Answer) → IsOpen asked replied made hand
    → Answers stands hand rest reply more → StandsAs stands asked (replied ++ reply) (made ++ more) rest
stands_after stands asked replied hand rest reply made more so_far (inl (request, begins, answered, is)) =
    subst (λ s. StandsAs s asked (replied ++ reply) (made ++ more) rest) (sym is)
    (stands_behind request request.last asked replied hand rest reply made more refl so_far begins answered)
stands_after stands asked replied hand rest reply made more so_far (inr (rule, bad, rest_is, none, reply_is, is)) =
    subst (λ s. StandsAs s asked (replied ++ reply) (made ++ more) rest) (sym is) (
      replied,
      hand,
      rule,
      open_same asked replied replied hand hand made (made ++ more) so_far refl (no_more made more none) refl,
      bad,
      ap (λ l. replied ++ l) reply_is,
    )

turn_answers : (s : State) (answers : List Answer) (put : Option (List ℕ)) (before after : Moment) (made : List Answer)
    → StandsAs s before.talk.asked before.talk.replied made before.talk.rest → before.answers ≡ answers ++ made
    → Gains put before.put before.talk.replied → ComesFrom s next.Answered before after → SoFar answers put after
turn_answers state.Open answers put before after made stands calls puts goes =
    let step = goes in
    let taken = open_takes before.talk.asked before.talk.replied before.talk.rest step.more made stands in
    let now = stands_after after.talk.state (before.talk.asked ++ step.more) before.talk.replied (before.talk.rest ++ step.more) after.talk.rest
    step.reply made step.made taken step.outcome.0 in
    record {
      made = made ++ step.made;
      calls = step.calls ∙ ap (λ l. l ++ step.made) calls ∙ append_assoc answers made step.made;
      stands = subst (λ a. StandsAs after.talk.state a after.talk.replied (made ++ step.made) after.talk.rest) (sym step.takes)
          (subst (λ r. StandsAs after.talk.state (before.talk.asked ++ step.more) r (made ++ step.made) after.talk.rest) (sym step.replies) now);
      puts = subst (λ r. Gains put after.put r) (sym step.replies)
          (gains_join put before.put after.put before.talk.replied step.reply puts step.outcome.1);
    }
turn_answers (state.Leaving how) answers put before after made stands calls puts goes = absurd (cc (goes.1))
turn_answers (state.Ended how) answers put before after made stands calls puts goes = absurd stands
turn_answers state.Lost answers put before after made stands calls puts goes = absurd stands

runs_answer : (answers : List Answer) (put : Option (List ℕ)) (first : Moment) (moments : List Moment) (last : Moment)
    → SoFar answers put first → Runs first moments last → SoFar answers put last
runs_answer answers put first [] last so_far runs = subst (λ m. SoFar answers put m) runs so_far
runs_answer answers put first (moment ∷ moments) last so_far runs =
    runs_answer answers put moment moments last
    (turn_answers first.talk.state answers put first moment so_far.made so_far.stands so_far.calls so_far.puts runs.0) runs.1

gains_none : (put : Option (List ℕ)) → Gains put put []
gains_none None = refl
gains_none (Some bytes) = sym (append-nil bytes)

starts : (first : Moment) → first.talk ≡ new_talk → SoFar first.answers first.put first
starts first is = record {
  made = [];
  calls = sym (append-nil first.answers);
  stands = subst (λ (t : Talk). StandsAs t.state t.asked t.replied [] t.rest) (sym is) open_start;
  puts = subst (λ (t : Talk). Gains first.put first.put t.replied) (sym is) (gains_none first.put);
}

pub runs_from_start : (first last : Moment) (moments : List Moment) → first.talk ≡ new_talk → Runs first moments last
    → SoFar first.answers first.put last
runs_from_start first last moments is runs = runs_answer first.answers first.put first moments last (starts first is) runs
