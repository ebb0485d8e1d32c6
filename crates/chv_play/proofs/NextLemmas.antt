-- What the contract of `next` says of a session at its stream: it took the first of the turns ahead of it, or the call of
-- that turn was refused.
use Rattle.std.proofs.Common.{◌≡◌, ◌≢◌, ◌≤◌, ◌<◌, ◌⊎◌, inl, inr, ℕ, true, false, List, [], ◌∷◌, ◌++◌, length, Option, None, Some, Result, Err, refl, sym, ap, subst, ◌∙◌, arith}
use Rattle.std.proofs.lemmas.List.{append-nil}
use Rattle.chv_defs_base.specs.declared.rule.Rule.{Rule}
use Rattle.chv_defs_api.specs.declared.control.ControlCall.{ControlCall}
use Rattle.chv_defs_api.specs.declared.control.ControlCall.TheVariants as call
use Rattle.chv_defs_api.specs.declared.session.SessionEnd.{SessionEnd}
use Rattle.chv_defs_api.specs.declared.session.SessionEnd.TheVariants as end
use Rattle.chv_defs_api.specs.Desks.{Answer}
use Rattle.chv_io.specs.Outside.{Rose}
use Rattle.chv_defs_api.specs.Requests.{IsShort}
use Rattle.chv_defs_api.specs.Routes.{call_of_request}
use Rattle.chv_defs_api.specs.SessionBytes.{Holds, session_limit}
use Rattle.chv_defs.specs.Schedule as schedule
use Rattle.chv_session.specs.declared.next.Next.{Next}
use Rattle.chv_session.specs.declared.next.Next.TheVariants as next
use Rattle.chv_session.specs.declared.state.State.{State}
use Rattle.chv_session.specs.declared.state.State.TheVariants as state
use Rattle.chv_session.specs.Talk.{Talk}
use Rattle.chv_session.specs.Moment.{moment, faults}
use Rattle.chv_session.specs.Taking.{TakesPieces}
use Rattle.chv_session.specs.Wire.{Drains, HasReadFault}
use Rattle.chv_session.specs.Response.{Leaves}
use Rattle.chv_session.specs.Step.{Answers, Hand, ComesToEnd, Stops, EndsBy, Refuses, ComesFrom, ComesTo, is_over, state_behind}
use Rattle.chv_play.specs.Ahead.{ahead_of, ahead_from, with_first}
use Rattle.chv_play.specs.Order.{played}
use Rattle.chv_play.specs.Turns.{Turned, Halts, TurnedOrHalted, call_in}
use Rattle.chv_play.proofs.TurnLemmas.{Fed, intake_at, hand_of, gives_is, answers_request, answers_bad, ends_short, nothing_is_short, drained, at_limit, end_nothing, end_part, end_limit}

-- What a call of `next` says of a session at its stream, of which a read gives so much, and nothing fails: it had not ended
-- before, its caller's calls grew so, none of them answered Holding, and this one was refused.
pub record Says (most : ℕ) (said : Next) (old new : Talk) (left left_after : List ℕ) (answers answers_after : List Answer) (refused : Option ControlCall) : Type 0 where
  pub many : 4096 ≤ most
  pub goes : is_over old.state ≡ false
  pub takes : TakesPieces (intake_at most old left) (intake_at most new left_after)
  pub drains : old.state ≡ state.Open → Drains said (intake_at most old left) (intake_at most new left_after)
  pub rests : old.state ≢ state.Open → left_after ≡ left
  pub comes : ComesTo said (played old answers) (moment new answers_after refused None 0 0)
  pub none_holds : (c : ControlCall) (made : List Answer) → answers_after ≡ answers ++ made → Holds c made → ⊥

-- ---- an answer

answered : (most : ℕ) (old new : Talk) (left left_after more reply : List ℕ) (made : List Answer) → Fed most old new left left_after more
    → new.replied ≡ old.replied ++ reply → Answers new.state (old.rest ++ more) new.rest reply made → Turned old new left left_after made
answered most old new left left_after more reply made fed replied (inl request) = record {
  turn = schedule.Answers (call_of_request request.0) request.0.last;
  reply = reply;
  more = more;
  first = answers_request most old new left left_after more request.0 fed request.1
      ∙ ap (λ (s : State). with_first (schedule.Answers (call_of_request request.0) request.0.last) (ahead_from s new left_after)) (sym request.3);
  asks = fed.grows;
  gives = gives_is most old new left left_after more fed;
  replied = replied;
  does = request.2;
}
answered most old new left left_after more reply made fed replied (inr bad) = record {
  turn = schedule.Answers (Err bad.0) true;
  reply = reply;
  more = more;
  first = answers_bad most old new left left_after more bad.0 fed bad.1
      ∙ ap (λ (s : State). with_first (schedule.Answers (Err bad.0) true) (ahead_from s new left_after)) (sym bad.5);
  asks = fed.grows;
  gives = gives_is most old new left left_after more fed;
  replied = replied;
  does = (bad.3, bad.4);
}

-- ---- an end

never_rose : Rose 0 0 → ⊥
never_rose rose = absurd (omega (arith, rose))

no_read_fault : (said : Next) → HasReadFault said 0 0 → ⊥
no_read_fault (next.Ended end.Fault) fault = never_rose fault
no_read_fault (next.Ended end.Stopped) fault = never_rose fault
no_read_fault (next.Ended how) fault = fault
no_read_fault next.Answered fault = fault

-- where it has nothing at hand that it could answer, and may take more, nothing is left
abbrev IsDry : Talk → Talk → List ℕ → List ℕ → Type 0
IsDry old new left_after more = IsShort (old.rest ++ more) → length new.asked < session_limit → left_after ≡ []

is_dry : (most : ℕ) (said : Next) (old new : Talk) (left left_after more : List ℕ) → new.asked ≡ old.asked ++ more
    → Drains said (intake_at most old left) (intake_at most new left_after) → IsDry old new left_after more
is_dry most said old new left left_after more grows drains short below = go (drains more grows short below)
  where
    go : (left_after ≡ []) ⊎ HasReadFault said 0 0 → left_after ≡ []
    go (inl none) = none
    go (inr fault) = absurd (no_read_fault said fault)

-- what a session at its stream had at hand
abbrev hand_at : Talk → List ℕ → Talk → Hand
hand_at old more new = record { bytes = old.rest ++ more; rest = new.rest; asked = new.asked; counts = faults 0 0 0 0 }

-- an end that answers nothing is the turn ahead, and makes no call before its Bye
abbrev IsEndAhead : Talk → Talk → List ℕ → List ℕ → SessionEnd → List Answer → Type 0
IsEndAhead old new left left_after how calls =
    (calls ≡ []) × (ahead_of old left ≡ with_first (schedule.Leaves how) (ahead_from (state.Ended how) new left_after))

end_ahead : (most : ℕ) (old new : Talk) (left left_after more : List ℕ) (how : SessionEnd) (unsent : List ℕ) (calls : List Answer)
    → Fed most old new left left_after more → IsDry old new left_after more
    → ComesToEnd how (hand_at old more new) unsent calls → IsEndAhead old new left left_after how calls
end_ahead most old new left left_after more end.Ended unsent calls fed dry comes =
    let t = hand_of old new left_after more in
    let short : IsShort t.rest = subst IsShort (sym comes.0) nothing_is_short in (
      comes.4,
      ends_short most old new left left_after more end.Ended fed short (drained t (dry short comes.2))
          (end_nothing t comes.2 comes.0),
    )
end_ahead most old new left left_after more end.Cut unsent calls fed dry comes =
    let t = hand_of old new left_after more in (
      comes.5,
      ends_short most old new left left_after more end.Cut fed comes.0 (drained t (dry comes.0 comes.3))
          (end_part t comes.3 comes.1),
    )
end_ahead most old new left left_after more end.Limit unsent calls fed dry comes =
    let t = hand_of old new left_after more in
    (comes.4, ends_short most old new left left_after more end.Limit fed comes.0 (at_limit t comes.2) (end_limit t comes.2))
end_ahead most old new left left_after more end.Fault unsent calls fed dry (inl read) = absurd (never_rose read.5)
end_ahead most old new left left_after more end.Fault unsent calls fed dry (inr (inl bad)) = absurd (never_rose bad.5)
end_ahead most old new left left_after more end.Fault unsent calls fed dry (inr (inr request)) = absurd (never_rose request.3)
end_ahead most old new left left_after more end.Bad unsent calls fed dry comes = absurd comes
end_ahead most old new left left_after more end.Closed unsent calls fed dry comes = absurd comes
end_ahead most old new left left_after more end.Stopped unsent calls fed dry comes = absurd comes

-- an end has its Bye, and no call was refused; or it is Stopped
abbrev HasBye : SessionEnd → Hand → List ℕ → List Answer → Option ControlCall → Type 0
HasBye how hand unsent made refused =
    (refused ≡ None) × ((calls : List Answer) × (bye : Answer) × ComesToEnd how hand unsent calls
    × (bye.call ≡ call.Bye) × (made ≡ calls ++ bye ∷ []))

by_end : (how : SessionEnd) (hand : Hand) (unsent : List ℕ) (made : List Answer) (refused : Option ControlCall)
    → EndsBy how hand unsent made refused → Refuses (next.Ended how) None refused
    → HasBye how hand unsent made refused ⊎ Stops hand unsent made refused
by_end end.Stopped hand unsent made refused by same = inr by
by_end end.Ended hand unsent made refused by same = inl (same, by)
by_end end.Cut hand unsent made refused by same = inl (same, by)
by_end end.Bad hand unsent made refused by same = inl (same, by)
by_end end.Closed hand unsent made refused by same = inl (same, by)
by_end end.Fault hand unsent made refused by same = inl (same, by)
by_end end.Limit hand unsent made refused by same = inl (same, by)

-- the Bye of an end
leaves : (old new : Talk) (left left_after more : List ℕ) (how : SessionEnd) (made : List Answer) (bye : Answer)
    → ahead_of old left ≡ with_first (schedule.Leaves how) (ahead_from (state.Ended how) new left_after) → new.state ≡ state.Ended how
    → new.asked ≡ old.asked ++ more → left ≡ more ++ left_after → new.replied ≡ old.replied ++ [] → bye.call ≡ call.Bye → made ≡ bye ∷ []
    → Turned old new left left_after made
leaves old new left left_after more how made bye ahead stands asks gives replied is_bye made_is = record {
  turn = schedule.Leaves how;
  reply = [];
  more = more;
  first = ahead ∙ ap (λ (s : State). with_first (schedule.Leaves how) (ahead_from s new left_after)) (sym stands);
  asks = asks;
  gives = gives;
  replied = replied;
  does = (bye, is_bye, made_is, refl);
}

-- the call of the turn that is ahead was refused
abbrev IsHalted : Talk → List ℕ → List Answer → Option ControlCall → Type 0
IsHalted old left made refused = (made ≡ []) × ((c : ControlCall) × (refused ≡ Some c) × Halts old left c)

halted : (most : ℕ) (old new : Talk) (left left_after more unsent : List ℕ) (made : List Answer) (refused : Option ControlCall)
    → Fed most old new left left_after more → IsDry old new left_after more
    → ((c : ControlCall) → Holds c made → ⊥)
    → Stops (hand_at old more new) unsent made refused → IsHalted old left made refused
halted most old new left left_after more unsent made refused fed dry holds (inl (request, begins, (c, is, inl stops), none)) = (
  stops.0,
  (
    c,
    stops.1,
    record {
      turn = schedule.Answers (call_of_request request) request.last;
      rest = ahead_from (state_behind request.last) new left_after;
      first = answers_request most old new left left_after more request fed begins;
      makes = ap (λ (r : Result ControlCall Rule). call_in (schedule.Answers r request.last)) is;
    },
  ),
)
halted most old new left left_after more unsent made refused fed dry holds (inl (request, begins, (c, is, inr stops), none)) = absurd (holds c stops.0)
halted most old new left left_after more unsent made refused fed dry holds (inr (how, comes, is)) =
    let ahead = end_ahead most old new left left_after more how unsent made fed dry comes in (
      ahead.0,
      (
        call.Bye,
        is,
        record {
          turn = schedule.Leaves how;
          rest = ahead_from (state.Ended how) new left_after;
          first = ahead.1;
          makes = refl;
        },
      ),
    )

-- ---- by where it stood

-- what a session that was not refused did
took_turn : (old new : Talk) (left left_after : List ℕ) (answers answers_after made : List Answer) (refused : Option ControlCall) → refused ≡ None
    → answers_after ≡ answers ++ made → Turned old new left left_after made → TurnedOrHalted old new left left_after answers answers_after refused
took_turn old new left left_after answers answers_after made refused none calls turned =
    subst (TurnedOrHalted old new left left_after answers answers_after) (sym none) (made, calls, turned)

-- and one that was
was_halted : (old new : Talk) (left left_after : List ℕ) (answers answers_after made : List Answer) (refused : Option ControlCall)
    → answers_after ≡ answers ++ made → IsHalted old left made refused → TurnedOrHalted old new left left_after answers answers_after refused
was_halted old new left left_after answers answers_after made refused calls (none, (c, is, halts)) =
    subst (TurnedOrHalted old new left left_after answers answers_after) (sym is)
    (calls ∙ ap (λ (calls : List Answer). answers ++ calls) none ∙ append-nil answers, halts)

from_state : (most : ℕ) (s : State) (said : Next) (old new : Talk) (left left_after : List ℕ) (answers answers_after : List Answer)
    (refused : Option ControlCall) → old.state ≡ s → Says most said old new left left_after answers answers_after refused
    → ComesFrom s said (played old answers) (moment new answers_after refused None 0 0)
    → TurnedOrHalted old new left left_after answers answers_after refused
from_state most state.Open next.Answered old new left left_after answers answers_after refused stands says step =
    let fed : Fed most old new left left_after step.more = record { many = says.many; opened = stands; takes = says.takes; grows = step.takes } in
    took_turn old new left left_after answers answers_after step.made refused step.refuses step.calls
    (answered most old new left left_after step.more step.reply step.made fed step.replies step.outcome.0)
from_state most state.Open (next.Ended how) old new left left_after answers answers_after refused stands says step =
    go (by_end how (hand_at old step.more new) step.outcome.0 step.made refused step.outcome.3 step.refuses)
  where
    fed : Fed most old new left left_after step.more
    fed = record { many = says.many; opened = stands; takes = says.takes; grows = step.takes }

    dry : IsDry old new left_after step.more
    dry = is_dry most (next.Ended how) old new left left_after step.more step.takes (says.drains stands)

    go : HasBye how (hand_at old step.more new) step.outcome.0 step.made refused
        ⊎ Stops (hand_at old step.more new) step.outcome.0 step.made refused
        → TurnedOrHalted old new left left_after answers answers_after refused
    go (inl (none, (calls, bye, comes, is_bye, made_is))) =
        let ahead = end_ahead most old new left left_after step.more how step.outcome.0 calls fed dry comes in
        took_turn old new left left_after answers answers_after step.made refused none step.calls
        (leaves old new left left_after step.more how step.made bye ahead.1 step.outcome.1 step.takes
        (gives_is most old new left left_after step.more fed) (step.replies ∙ ap (λ (r : List ℕ). old.replied ++ r) step.outcome.2) is_bye
        (made_is ∙ ap (λ (calls : List Answer). calls ++ bye ∷ []) ahead.0))
    go (inr stops) =
        was_halted old new left left_after answers answers_after step.made refused step.calls
        (halted most old new left left_after step.more step.outcome.0 step.made refused fed dry
        (λ c holds. says.none_holds c step.made step.calls holds) stops)
from_state most (state.Leaving how) said old new left left_after answers answers_after refused stands says (came, is, new_is, by, puts) = go by
  where
    left_is : left_after ≡ left
    left_is = says.rests (λ e. absurd (cc (sym stands ∙ e)))

    ahead : ahead_of old left ≡ with_first (schedule.Leaves how) (ahead_from (state.Ended how) new left_after)
    ahead = ap (λ (s : State). ahead_from s old left) stands
        ∙ ap (λ (t : Talk). with_first (schedule.Leaves how) (ahead_from (state.Ended how) t left)) (sym new_is)
        ∙ ap (λ (l : List ℕ). with_first (schedule.Leaves how) (ahead_from (state.Ended how) new l)) (sym left_is)

    go : Leaves how came answers answers_after None refused → TurnedOrHalted old new left left_after answers answers_after refused
    go (inl (bye, same, is_bye, calls, none)) =
        took_turn old new left left_after answers answers_after (bye ∷ []) refused none calls
        (leaves old new left left_after [] how (bye ∷ []) bye ahead (ap (λ (t : Talk). t.state) new_is ∙ ap state.Ended same)
        (ap (λ (t : Talk). t.asked) new_is ∙ sym (append-nil old.asked)) (sym left_is)
        (ap (λ (t : Talk). t.replied) new_is ∙ sym (append-nil old.replied)) is_bye refl)
    go (inr (stops, same, refuses)) =
        was_halted old new left left_after answers answers_after [] refused (same ∙ sym (append-nil answers)) (
          refl,
          (
            call.Bye,
            refuses,
            record {
              turn = schedule.Leaves how;
              rest = ahead_from (state.Ended how) new left_after;
              first = ahead;
              makes = refl;
            },
          ),
        )
from_state most (state.Ended how) said old new left left_after answers answers_after refused stands says comes =
    absurd (cc (sym says.goes ∙ ap is_over stands))
from_state most state.Lost said old new left left_after answers answers_after refused stands says comes = absurd comes

pub turned_or_halted : (most : ℕ) (said : Next) (old new : Talk) (left left_after : List ℕ) (answers answers_after : List Answer)
    (refused : Option ControlCall) → Says most said old new left left_after answers answers_after refused
    → TurnedOrHalted old new left left_after answers answers_after refused
turned_or_halted most said old new left left_after answers answers_after refused says =
    from_state most old.state said old new left left_after answers answers_after refused refl says says.comes
