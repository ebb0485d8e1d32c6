-- What one step of an open session comes to, from what was found to where the session stands.
use Rattle.std.proofs.Common.{◌≡◌, ◌≤◌, ◌==◌, ℕ, Bool, List, [], ◌∷◌, ◌++◌, length, Option, refl, sym, ap, subst, ◌∙◌, inl, inr, append_assoc}
use Rattle.std.proofs.lemmas.List.{append-nil}
use Rattle.chv_defs_api.specs.declared.control.ControlCall.{ControlCall}
use Rattle.chv_defs_api.specs.declared.control.ControlCall.TheVariants as call
use Rattle.chv_defs_api.specs.declared.session.SessionEnd.{SessionEnd}
use Rattle.chv_defs_api.specs.declared.session.SessionEnd.TheVariants as end
use Rattle.chv_defs_api.specs.Desks.{Answer}
use Rattle.chv_io.specs.Outside.{GainsPart}
use Rattle.chv_session.specs.declared.fill.Found.{Found}
use Rattle.chv_session.specs.declared.respond.Response.{Response}
use Rattle.chv_session.specs.declared.respond.Then.{Then}
use Rattle.chv_session.specs.declared.respond.Then.TheVariants as then_is
use Rattle.chv_session.specs.declared.next.Next.{Next}
use Rattle.chv_session.specs.declared.next.Next.TheVariants as next
use Rattle.chv_session.specs.declared.state.State.{State}
use Rattle.chv_session.specs.declared.state.State.TheVariants as state
use Rattle.chv_session.specs.Moment.{Moment}
use Rattle.chv_session.specs.Found.{Finds, IsCaused}
use Rattle.chv_session.specs.Response.{HasMadeAlso, StopsIn, Responds, sent, Sends, Finishes}
use Rattle.chv_session.specs.Step.{said_at, Answers, Hand, hand_between, ComesToEnd, EndsBy, Outcome, Refuses, Step}
use Rattle.chv_session.proofs.PlannedLemmas.{part_none, caused_later, sends_within, Replies, Comes, comes_is}

-- ---- before its last part

-- all that a step knows then
pub record Turn (then_of : Then) (before now : Moment) : Type 0 where
  pub more : List ℕ
  pub made : List Answer
  pub takes : now.talk.asked ≡ before.talk.asked ++ more
  pub calls : now.answers ≡ before.answers ++ made
  pub comes : Comes then_of before now more made

pub turn_is : {all : Bool} {put_then put_now : Option (List ℕ)} (what : Found) (response : Response) (then_of : Then) (before now : Moment)
    → Finds what before.talk.asked now.talk.asked before.talk.rest now.talk.rest → all ≡ (length now.talk.rest == 0)
    → (reads : ℕ) → IsCaused what before.reads reads → reads ≤ now.reads
    → HasMadeAlso before.answers now.answers (λ made. Responds what all response made before.refused now.refused)
    → put_then ≡ before.put → now.put ≡ put_now → (writes writes_now : ℕ) → before.writes ≤ writes → writes_now ≤ now.writes
    → Sends response.reply response.then then_of (sent before.talk.replied put_then writes) (sent now.talk.replied put_now writes_now)
    → Turn then_of before now
turn_is {all} {put_then} {put_now} what response then_of before now finds is_all reads caused later responds first_puts last_puts writes writes_now earlier last sends =
    let sends_first = subst (λ p. Sends response.reply response.then then_of (sent before.talk.replied p writes) (sent now.talk.replied put_now writes_now)) first_puts sends in
    let sends_last = subst (λ p. Sends response.reply response.then then_of (sent before.talk.replied before.put writes) (sent now.talk.replied p writes_now)) (sym last_puts) sends_first in
    record {
      more = finds.0;
      made = responds.0;
      takes = finds.1;
      calls = responds.1;
      comes = comes_is what all response then_of before now finds.0 responds.0 finds.2 is_all responds.2
          (sends_within response.reply response.then then_of (sent before.talk.replied before.put writes)
          (sent now.talk.replied now.put writes_now) before.writes now.writes earlier last sends_last)
          (caused_later what before.reads reads now.reads caused later);
    }

-- ---- what is said at last

ends_by : (how : SessionEnd) (hand : Hand) (unsent : List ℕ) (calls : List Answer) (bye : Answer) (refused : Option ControlCall)
    → ComesToEnd how hand unsent calls → bye.call ≡ call.Bye → EndsBy how hand unsent (calls ++ bye ∷ []) refused
ends_by end.Ended hand unsent calls bye refused comes is = (calls, bye, comes, is, refl)
ends_by end.Cut hand unsent calls bye refused comes is = (calls, bye, comes, is, refl)
ends_by end.Fault hand unsent calls bye refused comes is = (calls, bye, comes, is, refl)
ends_by end.Limit hand unsent calls bye refused comes is = (calls, bye, comes, is, refl)
ends_by end.Bad hand unsent calls bye refused comes is = absurd comes
ends_by end.Closed hand unsent calls bye refused comes is = absurd comes
ends_by end.Stopped hand unsent calls bye refused comes is = absurd comes

refuses_end : (how : SessionEnd) (hand : Hand) (unsent : List ℕ) (made : List Answer) (refused refused_after : Option ControlCall)
    → ComesToEnd how hand unsent made → refused_after ≡ refused → Refuses (next.Ended how) refused refused_after
refuses_end end.Ended hand unsent made refused refused_after comes goes = goes
refuses_end end.Cut hand unsent made refused refused_after comes goes = goes
refuses_end end.Fault hand unsent made refused refused_after comes goes = goes
refuses_end end.Limit hand unsent made refused refused_after comes goes = goes
refuses_end end.Bad hand unsent made refused refused_after comes goes = absurd comes
refuses_end end.Closed hand unsent made refused refused_after comes goes = absurd comes
refuses_end end.Stopped hand unsent made refused refused_after comes goes = absurd comes

-- behind the last part: where the session stands, and what its caller's desk tells
abbrev pub finished : Moment → State → List Answer → Option ControlCall → Moment
finished now stands answers refused = record now { talk = record now.talk { state = stands }; answers = answers; refused = refused }

-- a step that answered
answered_step : (s stands : State) (then_of : Then) (before now : Moment) (answers : List Answer) (refused : Option ControlCall) (turn : Turn then_of before now)
    → said_at s ≡ next.Answered → Replies s before now turn.more turn.made
    → (stands ≡ s) × (answers ≡ now.answers) × (refused ≡ now.refused)
    → Step (said_at stands) before (finished now stands answers refused)
answered_step s stands then_of before now answers refused turn says comes finishes =
    let said : said_at stands ≡ next.Answered = ap said_at finishes.0 ∙ says in
    let after = finished now stands answers refused in
    record {
      more = turn.more;
      made = turn.made;
      reply = comes.0;
      takes = turn.takes;
      calls = finishes.1 ∙ turn.calls;
      replies = comes.2;
      outcome = subst (λ (w : Next). Outcome w before after (hand_between before turn.more after) turn.made comes.0) (sym said)
          (subst (λ (x : State). Answers x (before.talk.rest ++ turn.more) now.talk.rest comes.0 turn.made) (sym finishes.0) comes.1, comes.3);
      refuses = subst (λ (w : Next). Refuses w before.refused refused) (sym said) (finishes.2 ∙ comes.4);
    }

-- a step that came to an end
ended_step : (how : SessionEnd) (stands : State) (then_of : Then) (before now : Moment) (answers : List Answer) (refused : Option ControlCall)
    (turn : Turn then_of before now) (made : List Answer) (unsent : List ℕ) → stands ≡ state.Ended how → answers ≡ before.answers ++ made
    → now.talk.replied ≡ before.talk.replied → EndsBy how (hand_between before turn.more now) unsent made refused
    → GainsPart before.put now.put unsent → Refuses (next.Ended how) before.refused refused
    → Step (said_at stands) before (finished now stands answers refused)
ended_step how stands then_of before now answers refused turn made unsent is calls replies ends puts refuses =
    let said : said_at stands ≡ next.Ended how = ap said_at is in
    let after = finished now stands answers refused in
    record {
      more = turn.more;
      made = made;
      reply = [];
      takes = turn.takes;
      calls = calls;
      replies = replies ∙ sym (append-nil before.talk.replied);
      outcome = subst (λ (w : Next). Outcome w before after (hand_between before turn.more after) made []) (sym said)
          (unsent, is, refl, ends, puts);
      refuses = subst (λ (w : Next). Refuses w before.refused refused) (sym said) refuses;
    }

pub step_is : {before now : Moment} (then_of : Then) (stands : State) (answers : List Answer) (refused : Option ControlCall)
    → Turn then_of before now → Finishes then_of stands now.answers answers now.refused refused
    → Step (said_at stands) before (finished now stands answers refused)
step_is {before} {now} then_is.GoOn stands answers refused turn finishes =
    answered_step state.Open stands then_is.GoOn before now answers refused turn refl turn.comes finishes
step_is {before} {now} (then_is.Leave how) stands answers refused turn finishes =
    answered_step (state.Leaving how) stands (then_is.Leave how) before now answers refused turn refl turn.comes finishes
step_is {before} {now} then_is.Stop stands answers refused turn finishes =
    let comes = turn.comes in
    ended_step end.Stopped stands then_is.Stop before now answers refused turn turn.made [] finishes.0 (finishes.1 ∙ turn.calls) comes.3
    (inl (comes.0, comes.1, subst (λ r. StopsIn comes.0 turn.made r) (sym finishes.2) comes.2, refl))
    (part_none before.put now.put comes.4) tt
step_is {before} {now} (then_is.End how) stands answers refused turn (came, stands_is, inl byes) =
    let comes = turn.comes in
    let hand = hand_between before turn.more now in
    ended_step how stands (then_is.End how) before now answers refused turn (turn.made ++ byes.0 ∷ []) comes.0
    (stands_is ∙ ap state.Ended byes.1)
    (byes.3 ∙ ap (λ l. l ++ byes.0 ∷ []) turn.calls ∙ append_assoc before.answers turn.made (byes.0 ∷ [])) comes.2
    (ends_by how hand comes.0 turn.made byes.0 refused comes.1 byes.2) comes.3
    (refuses_end how hand comes.0 turn.made before.refused refused comes.1 (byes.4 ∙ comes.4))
step_is {before} {now} (then_is.End how) stands answers refused turn (came, stands_is, inr stops) =
    let comes = turn.comes in
    ended_step end.Stopped stands (then_is.End how) before now answers refused turn turn.made comes.0
    (stands_is ∙ ap state.Ended stops.0) (stops.1 ∙ turn.calls) comes.2 (inr (how, comes.1, stops.2)) comes.3 tt
