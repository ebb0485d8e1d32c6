-- What an end makes of a session so far.
use Rattle.std.proofs.Common.{◌≡◌, ℕ, List, [], ◌∷◌, ◌++◌, Option, Ok, refl, sym, ap, ◌∙◌, inl, inr, append_assoc}
use Rattle.chv_defs_api.specs.declared.request.Request.{Request}
use Rattle.chv_defs_api.specs.declared.control.ControlCall.{ControlCall}
use Rattle.chv_defs_api.specs.declared.control.ControlCall.TheVariants as call
use Rattle.chv_defs_api.specs.declared.session.SessionEnd.{SessionEnd}
use Rattle.chv_defs_api.specs.declared.session.SessionEnd.TheVariants as end
use Rattle.chv_defs_api.specs.Desks.{Answer}
use Rattle.chv_defs_api.specs.Requests.{BeginsWith}
use Rattle.chv_defs_api.specs.Routes.{call_of_request}
use Rattle.chv_defs_api.specs.SessionBytes.{Holds, IsOpen, EndsAs, StopsAs, IsSessionLog}
use Rattle.chv_session.specs.Response.{StopsIn}
use Rattle.chv_session.specs.Step.{Hand, ComesToEnd, EndsBy, Stops, BreaksAt}
use Rattle.chv_session.proofs.OpenLemmas.{open_same, no_more}

-- ---- its Bye left aside

ends_as : (how : SessionEnd) (hand : Hand) (replied unsent : List ℕ) (made calls : List Answer) → IsOpen hand.asked replied made hand.bytes
    → ComesToEnd how hand unsent calls → EndsAs how hand.asked replied (made ++ calls)
ends_as end.Ended hand replied unsent made calls so_far comes = (
  comes.2,
  open_same hand.asked replied replied hand.bytes [] made (made ++ calls) so_far refl (no_more made calls comes.4) (sym comes.0),
)
ends_as end.Cut hand replied unsent made calls so_far comes = (
  comes.3,
  (
    hand.bytes,
    open_same hand.asked replied replied hand.bytes hand.bytes made (made ++ calls) so_far refl (no_more made calls comes.5) refl,
    comes.0,
    comes.1,
  ),
)
ends_as end.Fault hand replied unsent made calls so_far (inl read) =
    (made, hand.bytes, so_far, inl (no_more made calls read.4, read.0, read.2))
ends_as end.Fault hand replied unsent made calls so_far (inr (inl bad)) =
    (made, hand.bytes, so_far, inr (inl (no_more made calls bad.4, (bad.0, bad.1))))
ends_as end.Fault hand replied unsent made calls so_far (inr (inr write)) =
    (made, hand.bytes, so_far, inr (inr (write.0, hand.rest, calls, unsent, write.1, write.2, refl)))
ends_as end.Limit hand replied unsent made calls so_far comes = (
  comes.2,
  (
    hand.bytes,
    open_same hand.asked replied replied hand.bytes hand.bytes made (made ++ calls) so_far refl (no_more made calls comes.4) refl,
    comes.0,
  ),
)
ends_as end.Bad hand replied unsent made calls so_far comes = absurd comes
ends_as end.Closed hand replied unsent made calls so_far comes = absurd comes
ends_as end.Stopped hand replied unsent made calls so_far comes = absurd comes

-- ---- with the Bye behind it

pub log_with_bye : (how : SessionEnd) (asked replied : List ℕ) (made all : List Answer) (bye : Answer) → EndsAs how asked replied made
    → bye.call ≡ call.Bye → all ≡ made ++ bye ∷ [] → IsSessionLog how asked replied all
log_with_bye end.Ended asked replied made all bye ends says is = (made, bye, ends, says, is)
log_with_bye end.Cut asked replied made all bye ends says is = (made, bye, ends, says, is)
log_with_bye end.Bad asked replied made all bye ends says is = (made, bye, ends, says, is)
log_with_bye end.Closed asked replied made all bye ends says is = (made, bye, ends, says, is)
log_with_bye end.Fault asked replied made all bye ends says is = (made, bye, ends, says, is)
log_with_bye end.Limit asked replied made all bye ends says is = (made, bye, ends, says, is)
log_with_bye end.Stopped asked replied made all bye ends says is = absurd ends

-- one Bye is the last of the calls
abbrev HasBye : SessionEnd → Hand → List ℕ → List Answer → Type 0
HasBye how hand unsent made =
    (calls : List Answer) × (bye : Answer) × ComesToEnd how hand unsent calls × (bye.call ≡ call.Bye) × (made ≡ calls ++ bye ∷ [])

bye_behind : (how : SessionEnd) (hand : Hand) (replied unsent : List ℕ) (made more : List Answer) → IsOpen hand.asked replied made hand.bytes
    → HasBye how hand unsent more → IsSessionLog how hand.asked replied (made ++ more)
bye_behind how hand replied unsent made more so_far (calls, bye, comes, says, is) =
    log_with_bye how hand.asked replied (made ++ calls) (made ++ more) bye (ends_as how hand replied unsent made calls so_far comes) says
    (ap (λ l. made ++ l) is ∙ sym (append_assoc made calls (bye ∷ [])))

-- ---- stopped in a request, or at the Bye

stops_before : (asked replied hand : List ℕ) (made more : List Answer) → IsOpen asked replied made hand → more ≡ []
    → StopsAs asked replied (made ++ more)
stops_before asked replied hand made more so_far none =
    inl (hand, open_same asked replied replied hand hand made (made ++ more) so_far refl (no_more made more none) refl)

stops_held : (asked replied hand behind : List ℕ) (made more : List Answer) (request : Request) (c : ControlCall) → IsOpen asked replied made hand
    → BeginsWith hand request behind → call_of_request request ≡ Ok c → Holds c more → StopsAs asked replied (made ++ more)
stops_held asked replied hand behind made more request c so_far begins asks holds =
    inr (inl (made, hand, request, behind, c, more, so_far, begins, asks, holds, refl))

stops_in : (asked replied hand behind : List ℕ) (made more : List Answer) (refused : Option ControlCall) (request : Request)
    → IsOpen asked replied made hand → BeginsWith hand request behind → StopsIn request more refused → StopsAs asked replied (made ++ more)
stops_in asked replied hand behind made more refused request so_far begins (c, asks, inl none) =
    stops_before asked replied hand made more so_far none.0
stops_in asked replied hand behind made more refused request so_far begins (c, asks, inr held) =
    stops_held asked replied hand behind made more request c so_far begins asks held.0

log_stops : (hand : Hand) (replied unsent : List ℕ) (made more : List Answer) (refused : Option ControlCall)
    → IsOpen hand.asked replied made hand.bytes → Stops hand unsent more refused → StopsAs hand.asked replied (made ++ more)
log_stops hand replied unsent made more refused so_far (inl within) =
    stops_in hand.asked replied hand.bytes hand.rest made more refused within.0 so_far within.1 within.2
log_stops hand replied unsent made more refused so_far (inr at_bye) =
    inr (inr (at_bye.0, ends_as at_bye.0 hand replied unsent made more so_far at_bye.1))

pub log_is : (how : SessionEnd) (hand : Hand) (replied unsent : List ℕ) (made more : List Answer) (refused : Option ControlCall)
    → IsOpen hand.asked replied made hand.bytes → EndsBy how hand unsent more refused → IsSessionLog how hand.asked replied (made ++ more)
log_is end.Stopped hand replied unsent made more refused so_far ends = log_stops hand replied unsent made more refused so_far ends
log_is end.Ended hand replied unsent made more refused so_far ends = bye_behind end.Ended hand replied unsent made more so_far ends
log_is end.Cut hand replied unsent made more refused so_far ends = bye_behind end.Cut hand replied unsent made more so_far ends
log_is end.Bad hand replied unsent made more refused so_far ends = bye_behind end.Bad hand replied unsent made more so_far ends
log_is end.Closed hand replied unsent made more refused so_far ends = bye_behind end.Closed hand replied unsent made more so_far ends
log_is end.Fault hand replied unsent made more refused so_far ends = bye_behind end.Fault hand replied unsent made more so_far ends
log_is end.Limit hand replied unsent made more refused so_far ends = bye_behind end.Limit hand replied unsent made more so_far ends

-- ---- want of memory

pub log_breaks : (hand : Hand) (replied unsent : List ℕ) (made more : List Answer) → IsOpen hand.asked replied made hand.bytes
    → BreaksAt hand unsent more → StopsAs hand.asked replied (made ++ more)
log_breaks hand replied unsent made more so_far (inl none) = stops_before hand.asked replied hand.bytes made more so_far none.0
log_breaks hand replied unsent made more so_far (inr (inl (request, behind, begins, inl none, nothing))) =
    stops_before hand.asked replied hand.bytes made more so_far none
log_breaks hand replied unsent made more so_far (inr (inl (request, behind, begins, inr (inl held), nothing))) =
    stops_held hand.asked replied hand.bytes behind made more request held.0 so_far begins held.1 held.2
log_breaks hand replied unsent made more so_far (inr (inl (request, behind, begins, inr (inr replies), nothing))) =
    inr (inr (end.Fault, (made, hand.bytes, so_far, inr (inr (request, behind, more, replies.0, begins, replies.1, refl)))))
log_breaks hand replied unsent made more so_far (inr (inr at_bye)) =
    inr (inr (at_bye.0, ends_as at_bye.0 (record hand { rest = at_bye.1 }) replied unsent made more so_far at_bye.2))
