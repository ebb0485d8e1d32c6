-- What want of memory leaves of a step.
use Rattle.std.proofs.Common.{◌≡◌, ℕ, Bool, List, [], ◌++◌, Option, refl, sym, ◌∙◌, inl, inr}
use Rattle.std.proofs.lemmas.List.{append-nil}
use Rattle.chv_defs_api.specs.declared.request.Request.{Request}
use Rattle.chv_defs_api.specs.declared.control.ControlCall.{ControlCall}
use Rattle.chv_defs_api.specs.declared.session.SessionEnd.{SessionEnd}
use Rattle.chv_defs_api.specs.Desks.{Answer}
use Rattle.chv_io.specs.Outside.{GainsPart}
use Rattle.chv_session.specs.declared.fill.Found.{Found}
use Rattle.chv_session.specs.declared.fill.Found.TheVariants as found
use Rattle.chv_session.specs.declared.respond.Response.{Response}
use Rattle.chv_session.specs.declared.respond.Then.{Then}
use Rattle.chv_session.specs.declared.respond.Then.TheVariants as then_is
use Rattle.chv_session.specs.declared.state.State.TheVariants as state
use Rattle.chv_session.specs.Moment.{Moment}
use Rattle.chv_session.specs.Found.{IsFound, Finds}
use Rattle.chv_session.specs.Response.{HasMadeAlso, StopsIn, BreaksIn, BreaksOn, Responds, IsEnd}
use Rattle.chv_session.specs.Step.{Hand, hand_between, ComesToEnd, BreaksAt, Breaks, BreaksAtBye}
use Rattle.chv_session.proofs.PlannedLemmas.{part_none, Comes}
use Rattle.chv_session.proofs.StepLemmas.{Turn, finished}

-- before anything was made
pub breaks_taking : (before lost : Moment) (more : List ℕ) → lost.talk.asked ≡ before.talk.asked ++ more
    → lost.answers ≡ before.answers → lost.talk.replied ≡ before.talk.replied → lost.put ≡ before.put → Breaks before lost
breaks_taking before lost more takes calls replies same = record {
  more = more;
  made = [];
  unsent = [];
  takes = takes;
  calls = calls ∙ sym (append-nil before.answers);
  replies = replies;
  puts = part_none before.put lost.put same;
  place = inl (refl, refl);
}

breaks_on : (what : Found) (hand : Hand) (rest : List ℕ) (made : List Answer) → IsFound what hand.bytes rest hand.asked
    → BreaksOn what made → BreaksAt hand [] made
breaks_on (found.Request request) hand rest made is_found breaks = inr (inl (request, rest, is_found, breaks, refl))
breaks_on (found.Bad rule) hand rest made is_found breaks = inl (breaks, refl)
breaks_on found.End hand rest made is_found breaks = inl (breaks, refl)
breaks_on found.Fault hand rest made is_found breaks = inl (breaks, refl)
breaks_on found.Limit hand rest made is_found breaks = inl (breaks, refl)

-- before the reply was there
pub breaks_making : (before lost : Moment) (what : Found) → Finds what before.talk.asked lost.talk.asked before.talk.rest lost.talk.rest
    → HasMadeAlso before.answers lost.answers (λ made. BreaksOn what made) → lost.talk.replied ≡ before.talk.replied
    → lost.put ≡ before.put → Breaks before lost
breaks_making before lost what finds breaks replies same = record {
  more = finds.0;
  made = breaks.0;
  unsent = [];
  takes = finds.1;
  calls = breaks.1;
  replies = replies;
  puts = part_none before.put lost.put same;
  place = breaks_on what (hand_between before finds.0 lost) lost.talk.rest breaks.0 finds.2 breaks.2;
}

stops_break : (request : Request) (made : List Answer) (refused : Option ControlCall) → StopsIn request made refused
    → BreaksIn request made
stops_break request made refused (c, asks, inl none) = inl none.0
stops_break request made refused (c, asks, inr held) = inr (inl (c, asks, held.0))

responds_breaks : (what : Found) (all : Bool) (response : Response) (made : List Answer) (refused refused_after : Option ControlCall)
    → Responds what all response made refused refused_after → BreaksOn what made
responds_breaks (found.Request request) all response made refused refused_after (inl serves) = inr (inr (serves.0, serves.3))
responds_breaks (found.Request request) all response made refused refused_after (inr stops) = stops_break request made refused_after stops.2
responds_breaks (found.Bad rule) all response made refused refused_after responds = responds.2
responds_breaks found.End all response made refused refused_after responds = responds.2
responds_breaks found.Fault all response made refused refused_after responds = responds.2
responds_breaks found.Limit all response made refused refused_after responds = responds.2

-- before the reply was put
pub breaks_sending : (before lost : Moment) (what : Found) (all : Bool) (response : Response)
    → Finds what before.talk.asked lost.talk.asked before.talk.rest lost.talk.rest
    → HasMadeAlso before.answers lost.answers (λ made. Responds what all response made before.refused lost.refused)
    → lost.talk.replied ≡ before.talk.replied → lost.put ≡ before.put → Breaks before lost
breaks_sending before lost what all response finds responds replies same =
    breaks_making before lost what finds
    (responds.0, responds.1, responds_breaks what all response responds.0 before.refused lost.refused responds.2) replies same

end_breaks : (then_of : Then) (before now : Moment) (more : List ℕ) (made : List Answer) → Comes then_of before now more made
    → IsEnd then_of
    → (how : SessionEnd) × (unsent : List ℕ) × ComesToEnd how (hand_between before more now) unsent made
    × (now.talk.replied ≡ before.talk.replied) × GainsPart before.put now.put unsent × (now.refused ≡ before.refused)
end_breaks (then_is.End how) before now more made comes is = (how, comes.0, comes.1, comes.2, comes.3, comes.4)
end_breaks then_is.GoOn before now more made comes is = absurd is
end_breaks (then_is.Leave how) before now more made comes is = absurd is
end_breaks then_is.Stop before now more made comes is = absurd is

-- at the Bye
pub breaks_ending : {before now : Moment} (then_of : Then) (answers : List Answer) (refused : Option ControlCall)
    → Turn then_of before now → IsEnd then_of → answers ≡ now.answers → Breaks before (finished now state.Lost answers refused)
breaks_ending {before} {now} then_of answers refused turn is same =
    let breaks = end_breaks then_of before now turn.more turn.made turn.comes is in
    record {
      more = turn.more;
      made = turn.made;
      unsent = breaks.1;
      takes = turn.takes;
      calls = same ∙ turn.calls;
      replies = breaks.3;
      puts = breaks.4;
      place = inr (inr (breaks.0, now.talk.rest, breaks.2));
    }

pub closes_ending : {before now : Moment} (then_of : Then) (answers : List Answer) (refused : Option ControlCall)
    → Turn then_of before now → IsEnd then_of → answers ≡ now.answers → BreaksAtBye before (finished now state.Lost answers refused)
closes_ending {before} {now} then_of answers refused turn is same =
    let breaks = end_breaks then_of before now turn.more turn.made turn.comes is in
    record {
      more = turn.more;
      made = turn.made;
      unsent = breaks.1;
      rest = now.talk.rest;
      how = breaks.0;
      takes = turn.takes;
      calls = same ∙ turn.calls;
      comes = breaks.2;
    }
