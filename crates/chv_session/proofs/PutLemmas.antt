-- What was put into the connection of a session, by where it came.
use Rattle.std.proofs.Common.{◌≡◌, ℕ, List, [], ◌∷◌, ◌++◌, take, Option, Some, None, refl, sym, ap, subst, ◌∙◌, inl, inr, append_assoc}
use Rattle.std.proofs.lemmas.List.{append-nil}
use Rattle.std.proofs.Math.Seq.{take-nil}
use Rattle.chv_defs_api.specs.declared.control.ControlCall.{ControlCall}
use Rattle.chv_defs_api.specs.declared.control.ControlCall.TheVariants as call
use Rattle.chv_defs_api.specs.declared.session.SessionEnd.{SessionEnd}
use Rattle.chv_defs_api.specs.declared.session.SessionEnd.TheVariants as end
use Rattle.chv_defs_api.specs.Desks.{Answer}
use Rattle.chv_io.specs.Outside.{Gains, GainsPart}
use Rattle.chv_defs_api.specs.SessionBytes.{IsOpen}
use Rattle.chv_session.specs.declared.next.Next.TheVariants as next
use Rattle.chv_session.specs.declared.state.State.{State}
use Rattle.chv_session.specs.declared.state.State.TheVariants as state
use Rattle.chv_session.specs.Talk.{Talk}
use Rattle.chv_session.specs.Moment.{Moment}
use Rattle.chv_session.specs.Response.{Leaves}
use Rattle.chv_session.specs.Step.{Hand, hand_between, ComesFrom, LosesFrom, ComesToEnd, EndsBy, Stops, BreaksAt}
use Rattle.chv_session.specs.Laws.{IsReplyTo, PutsPart, PutsAt}
use Rattle.chv_session.proofs.OpenLemmas.{open_takes, no_more}
use Rattle.chv_session.proofs.SoFarLemmas.{StandsAs}

none_puts : (b c : Option (List ℕ)) (unsent : List ℕ) → b ≡ None → GainsPart b c unsent → c ≡ None
none_puts None c unsent same part = part
none_puts (Some b) c unsent same part = absurd (cc same)

-- nothing was put behind the replies
puts_none : (a b c : Option (List ℕ)) (replied unsent : List ℕ) → Gains a b replied → GainsPart b c unsent → unsent ≡ [] → Gains a c replied
puts_none None b c replied unsent gains part none = none_puts b c unsent gains part
puts_none (Some a) None c replied unsent gains part none = absurd gains
puts_none (Some a) (Some b) None replied unsent gains part none = absurd part
puts_none (Some a) (Some b) (Some c) replied unsent gains part none =
    part.2 ∙ ap (λ l. b ++ l) (ap (take part.0) none ∙ take-nil part.0) ∙ append-nil b ∙ gains

-- all of the replies, at an end with its Bye
puts_whole : (how : SessionEnd) (before after : Option (List ℕ)) (asked replied : List ℕ) (made : List Answer) (bye : Answer)
    → bye.call ≡ call.Bye → Gains before after replied → PutsAt how before after asked replied (made ++ bye ∷ [])
puts_whole end.Ended before after asked replied made bye is gains = gains
puts_whole end.Cut before after asked replied made bye is gains = gains
puts_whole end.Bad before after asked replied made bye is gains = gains
puts_whole end.Closed before after asked replied made bye is gains = gains
puts_whole end.Fault before after asked replied made bye is gains = (made, bye, is, refl, inl gains)
puts_whole end.Limit before after asked replied made bye is gains = gains
puts_whole end.Stopped before after asked replied made bye is gains = inl gains

-- what was put before the last call, and then, of a session that had replied so much
record Puts (before between after : Option (List ℕ)) (hand : Hand) (replied unsent : List ℕ) (made : List Answer) : Type 0 where
  so_far : IsOpen hand.asked replied made hand.bytes
  gains : Gains before between replied
  part : GainsPart between after unsent

-- nothing of a reply was put
silent : {a b c : Option (List ℕ)} {hand : Hand} {replied unsent : List ℕ} {made : List Answer} → Puts a b c hand replied unsent made
    → unsent ≡ [] → Gains a c replied
silent {a} {b} {c} {hand} {replied} {unsent} {made} puts none = puts_none a b c replied unsent puts.gains puts.part none

-- of the reply to what is in front a part was put
cut_off : {a b c : Option (List ℕ)} {hand : Hand} {replied unsent : List ℕ} {made : List Answer} (more : List Answer)
    → Puts a b c hand replied unsent made → IsReplyTo hand.bytes more unsent → PutsPart a c hand.asked replied (made ++ more)
cut_off {a} {b} {c} {hand} {replied} {unsent} {made} more puts front = inr (record {
  calls = made;
  more = more;
  rest = hand.bytes;
  unsent = unsent;
  between = b;
  requests = puts.so_far;
  both = refl;
  front = front;
  whole = puts.gains;
  part = puts.part;
})

comes_puts : {a b c : Option (List ℕ)} {hand : Hand} {replied unsent : List ℕ} {made : List Answer} (how : SessionEnd) (calls : List Answer)
    → Puts a b c hand replied unsent made → ComesToEnd how hand unsent calls → PutsPart a c hand.asked replied (made ++ calls)
comes_puts end.Ended calls puts comes = inl (silent puts comes.3)
comes_puts end.Cut calls puts comes = inl (silent puts comes.4)
comes_puts end.Limit calls puts comes = inl (silent puts comes.3)
comes_puts end.Fault calls puts (inl read) = inl (silent puts read.3)
comes_puts end.Fault calls puts (inr (inl bad)) = cut_off calls puts (inr (bad.0, bad.1, bad.4, bad.3))
comes_puts {a} {b} {c} {hand} end.Fault calls puts (inr (inr write)) = cut_off calls puts (inl (write.0, hand.rest, write.1, write.2))
comes_puts end.Bad calls puts comes = absurd comes
comes_puts end.Closed calls puts comes = absurd comes
comes_puts end.Stopped calls puts comes = absurd comes

stops_puts : {a b c : Option (List ℕ)} {hand : Hand} {replied unsent : List ℕ} {made : List Answer} (more : List Answer) (refused : Option ControlCall)
    → Puts a b c hand replied unsent made → Stops hand unsent more refused → PutsPart a c hand.asked replied (made ++ more)
stops_puts more refused puts (inl within) = inl (silent puts within.3)
stops_puts more refused puts (inr at_bye) = comes_puts at_bye.0 more puts at_bye.1

ends_puts : {a b c : Option (List ℕ)} {hand : Hand} {replied unsent : List ℕ} {made : List Answer} (how : SessionEnd) (more : List Answer)
    (refused : Option ControlCall) → Puts a b c hand replied unsent made → EndsBy how hand unsent more refused
    → PutsAt how a c hand.asked replied (made ++ more)
ends_puts end.Ended more refused puts ends = silent puts ends.2.3
ends_puts end.Cut more refused puts ends = silent puts ends.2.4
ends_puts end.Limit more refused puts ends = silent puts ends.2.3
ends_puts {a} {b} {c} {hand} {replied} {unsent} {made} end.Fault more refused puts ends = (
  made ++ ends.0,
  ends.1,
  ends.3,
  ap (λ l. made ++ l) ends.4 ∙ sym (append_assoc made ends.0 (ends.1 ∷ [])),
  comes_puts end.Fault ends.0 puts ends.2,
)
ends_puts end.Bad more refused puts ends = absurd ends.2
ends_puts end.Closed more refused puts ends = absurd ends.2
ends_puts end.Stopped more refused puts ends = stops_puts more refused puts ends

breaks_puts : {a b c : Option (List ℕ)} {hand : Hand} {replied unsent : List ℕ} {made : List Answer} (more : List Answer)
    → Puts a b c hand replied unsent made → BreaksAt hand unsent more → PutsPart a c hand.asked replied (made ++ more)
breaks_puts more puts (inl none) = inl (silent puts none.1)
breaks_puts more puts (inr (inl within)) = inl (silent puts within.4)
breaks_puts {a} {b} {c} {hand} {replied} {unsent} {made} more puts (inr (inr at_bye)) =
    comes_puts {a = a} {b = b} {c = c} {hand = record hand { rest = at_bye.1 }} {replied = replied} {unsent = unsent} {made = made}
    at_bye.0 more (record { so_far = puts.so_far; gains = puts.gains; part = puts.part }) at_bye.2

-- ---- by where the session stood

-- an open session that took these bytes
pub took : (last after : Moment) (more : List ℕ) (made : List Answer) → IsOpen last.talk.asked last.talk.replied made last.talk.rest
    → after.talk.asked ≡ last.talk.asked ++ more → IsOpen after.talk.asked last.talk.replied made (last.talk.rest ++ more)
took last after more made stands takes =
    subst (λ a. IsOpen a last.talk.replied made (last.talk.rest ++ more)) (sym takes)
    (open_takes last.talk.asked last.talk.replied last.talk.rest more made stands)

-- what was put at an end, and of which calls, since there were these answers
abbrev PutsWith : SessionEnd → List Answer → Option (List ℕ) → Moment → Type 0
PutsWith how answers put after =
    (made : List Answer) × (after.answers ≡ answers ++ made) × PutsAt how put after.put after.talk.asked after.talk.replied made

-- the Bye of a session that leaves
bye_puts : (how came said : SessionEnd) (answers : List Answer) (put : Option (List ℕ)) (last after : Moment) (made : List Answer)
    → Gains put last.put last.talk.replied → last.answers ≡ answers ++ made → said ≡ came
    → after.talk ≡ record last.talk { state = state.Ended came } → Leaves how came last.answers after.answers last.refused after.refused
    → after.put ≡ last.put → PutsWith said answers put after
bye_puts how came said answers put last after made gains calls says talk (inl byes) same = (
  made ++ byes.0 ∷ [],
  byes.3 ∙ ap (λ l. l ++ byes.0 ∷ []) calls ∙ append_assoc answers made (byes.0 ∷ []),
  subst (λ (t : Talk). PutsAt said put after.put t.asked t.replied (made ++ byes.0 ∷ [])) (sym talk)
      (puts_whole said put after.put last.talk.asked last.talk.replied made byes.0 byes.2
      (subst (λ p. Gains put p last.talk.replied) (sym same) gains)),
)
bye_puts how came said answers put last after made gains calls says talk (inr stops) same = (
  made,
  stops.1 ∙ calls,
  subst (λ (e : SessionEnd). PutsAt e put after.put after.talk.asked after.talk.replied made) (sym (says ∙ stops.0))
      (inl (subst (λ (t : Talk). Gains put after.put t.replied) (sym talk)
      (subst (λ p. Gains put p last.talk.replied) (sym same) gains))),
)

pub end_puts : (s : State) (how : SessionEnd) (answers : List Answer) (put : Option (List ℕ)) (last after : Moment) (made : List Answer)
    → StandsAs s last.talk.asked last.talk.replied made last.talk.rest → last.answers ≡ answers ++ made
    → Gains put last.put last.talk.replied → ComesFrom s (next.Ended how) last after → PutsWith how answers put after
end_puts state.Open how answers put last after made stands calls gains step =
    let ends = step.outcome in
    let puts : Puts put last.put after.put (hand_between last step.more after) last.talk.replied ends.0 made =
    record { so_far = took last after step.more made stands step.takes; gains = gains; part = ends.4 } in (
      made ++ step.made,
      step.calls ∙ ap (λ l. l ++ step.made) calls ∙ append_assoc answers made step.made,
      subst (λ r. PutsAt how put after.put after.talk.asked r (made ++ step.made))
          (sym (step.replies ∙ no_more last.talk.replied step.reply ends.2)) (ends_puts how step.made after.refused puts ends.3),
    )
end_puts (state.Leaving how_then) how answers put last after made stands calls gains goes =
    let says : how ≡ goes.0 = cc (goes.1) in
    bye_puts how_then goes.0 how answers put last after made gains calls says goes.2 goes.3 goes.4
end_puts (state.Ended how_then) how answers put last after made stands calls gains goes = absurd stands
end_puts state.Lost how answers put last after made stands calls gains goes = absurd stands

pub lost_puts : (s : State) (answers : List Answer) (put : Option (List ℕ)) (last after : Moment) (made : List Answer)
    → StandsAs s last.talk.asked last.talk.replied made last.talk.rest → last.answers ≡ answers ++ made
    → Gains put last.put last.talk.replied → LosesFrom s last after
    → (made : List Answer) × (after.answers ≡ answers ++ made) × PutsPart put after.put after.talk.asked after.talk.replied made
lost_puts state.Open answers put last after made stands calls gains loses =
    let breaks = loses.1 in
    let puts : Puts put last.put after.put (hand_between last breaks.more after) last.talk.replied breaks.unsent made =
    record { so_far = took last after breaks.more made stands breaks.takes; gains = gains; part = breaks.puts } in (
      made ++ breaks.made,
      breaks.calls ∙ ap (λ l. l ++ breaks.made) calls ∙ append_assoc answers made breaks.made,
      subst (λ r. PutsPart put after.put after.talk.asked r (made ++ breaks.made)) (sym breaks.replies)
          (breaks_puts breaks.made puts breaks.place),
    )
lost_puts (state.Leaving how) answers put last after made stands calls gains loses = (
  made,
  loses.1 ∙ calls,
  subst (λ (t : Talk). PutsPart put after.put t.asked t.replied made) (sym loses.0)
      (inl (subst (λ p. Gains put p last.talk.replied) (sym loses.3) gains)),
)
lost_puts (state.Ended how) answers put last after made stands calls gains loses = absurd stands
lost_puts state.Lost answers put last after made stands calls gains loses = absurd stands
