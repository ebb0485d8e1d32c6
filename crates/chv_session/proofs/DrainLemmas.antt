-- A session that found neither a request nor a refusal below the limit came to the end of its stream, or a read failed.
use Rattle.std.proofs.Common.{◌≡◌, ◌≤◌, ◌<◌, ◌⊎◌, inl, inr, ℕ, Bool, List, [], ◌++◌, length, Option, None, Some, IfSome, refl, sym, subst, ◌∙◌, arith}
use Rattle.std.proofs.lemmas.List.{append_cancel_left}
use Rattle.chv_defs_api.specs.declared.control.ControlCall.{ControlCall}
use Rattle.chv_defs_api.specs.declared.request.Took.TheVariants as took
use Rattle.chv_defs_api.specs.declared.session.SessionEnd.{SessionEnd}
use Rattle.chv_defs_api.specs.declared.session.SessionEnd.TheVariants as end
use Rattle.chv_defs_api.specs.Desks.{Answer}
use Rattle.chv_io.specs.Outside.{Rose}
use Rattle.chv_defs_api.specs.Requests.{IsShort}
use Rattle.chv_defs_api.specs.SessionBytes.{session_limit}
use Rattle.chv_http.proofs.CutLemmas.{cuts_is_one}
use Rattle.chv_session.specs.declared.fill.Found.{Found}
use Rattle.chv_session.specs.declared.fill.Found.TheVariants as found
use Rattle.chv_session.specs.declared.next.Next.TheVariants as next
use Rattle.chv_session.specs.declared.respond.Response.{Response}
use Rattle.chv_session.specs.declared.respond.Then.{Then}
use Rattle.chv_session.specs.declared.respond.Then.TheVariants as then_is
use Rattle.chv_session.specs.declared.state.State.{State}
use Rattle.chv_session.specs.Found.{IsFound, Finds, IsDrained, IsCaused}
use Rattle.chv_session.specs.Response.{Responds, Sent, Sends, Leaves, Finishes}
use Rattle.chv_session.specs.Step.{said_at}
use Rattle.chv_session.specs.Wire.{HasReadFault}

-- ---- a read that failed ends the session, or the run stopped there

not_sent : (response : Option (List ℕ)) (planned then_of : Then) (before after : Sent) → response ≡ None
    → Sends response planned then_of before after → then_of ≡ planned
not_sent None planned then_of before after none sends = sends.0
not_sent (Some bytes) planned then_of before after none sends = absurd (cc none)

-- what comes behind a read that failed is that end
abbrev pub EndsAtFault : Found → Then → Type 0
EndsAtFault found.Fault then_of = then_of ≡ then_is.End end.Fault
EndsAtFault _ then_of = Unit {0}

pub ends_at_fault : (what : Found) (all : Bool) (response : Response) (made : List Answer) (refused refused_after : Option ControlCall)
    → Responds what all response made refused refused_after → (then_of : Then) (before after : Sent)
    → Sends response.reply response.then then_of before after → EndsAtFault what then_of
ends_at_fault found.Fault all response made refused refused_after responds then_of before after sends =
    not_sent response.reply response.then then_of before after responds.0 sends ∙ responds.1
ends_at_fault (found.Request request) all response made refused refused_after responds then_of before after sends = tt
ends_at_fault (found.Bad rule) all response made refused refused_after responds then_of before after sends = tt
ends_at_fault found.End all response made refused refused_after responds then_of before after sends = tt
ends_at_fault found.Limit all response made refused refused_after responds then_of before after sends = tt

ends_by_fault : (came : SessionEnd) (before after : List Answer) (refused refused_after : Option ControlCall) (reads reads_after : ℕ)
    → Rose reads reads_after → Leaves end.Fault came before after refused refused_after → HasReadFault (next.Ended came) reads reads_after
ends_by_fault came before after refused refused_after reads reads_after rose (inl bye) =
    subst (λ (e : SessionEnd). HasReadFault (next.Ended e) reads reads_after) (sym bye.1) rose
ends_by_fault came before after refused refused_after reads reads_after rose (inr stopped) =
    subst (λ (e : SessionEnd). HasReadFault (next.Ended e) reads reads_after) (sym stopped.0) rose

fault_ends : (then_of : Then) (stands : State) (before after : List Answer) (refused refused_after : Option ControlCall) (reads reads_after : ℕ)
    → Rose reads reads_after → then_of ≡ then_is.End end.Fault → Finishes then_of stands before after refused refused_after
    → HasReadFault (said_at stands) reads reads_after
fault_ends then_of stands before after refused refused_after reads reads_after rose is finishes =
    let ends = subst (λ (t : Then). Finishes t stands before after refused refused_after) is finishes in
    subst (λ (s : State). HasReadFault (said_at s) reads reads_after) (sym ends.1)
    (ends_by_fault ends.0 before after refused refused_after reads reads_after rose ends.2)

-- ---- by what was found

-- neither a request nor a refusal was found below the limit
drains_at : (what : Found) (then_of : Then) (stands : State) (hand rest asked : List ℕ) (left : Option (List ℕ)) (reads reads_then reads_after : ℕ)
    (answers answers_after : List Answer) (refused refused_after : Option ControlCall)
    → IsFound what hand rest asked → IsDrained what left → IsCaused what reads reads_then → reads_then ≤ reads_after
    → EndsAtFault what then_of → Finishes then_of stands answers answers_after refused refused_after
    → IsShort hand → length asked < session_limit → IfSome left (λ bytes. bytes ≡ []) ⊎ HasReadFault (said_at stands) reads reads_after
drains_at (found.Request request) then_of stands hand rest asked left reads reads_then reads_after answers answers_after refused refused_after is drained caused later ends finishes short below =
    absurd (cc ((cuts_is_one hand (took.Request request) took.NotYet rest hand is (short, refl)).0))
drains_at (found.Bad rule) then_of stands hand rest asked left reads reads_then reads_after answers answers_after refused refused_after is drained caused later ends finishes short below =
    absurd (cc ((cuts_is_one hand (took.Bad rule) took.NotYet hand hand is.0 (short, refl)).0))
drains_at found.End then_of stands hand rest asked left reads reads_then reads_after answers answers_after refused refused_after is drained caused later ends finishes short below =
    inl drained
drains_at found.Fault then_of stands hand rest asked left reads reads_then reads_after answers answers_after refused refused_after is drained caused later ends finishes short below =
    inr (fault_ends then_of stands answers answers_after refused refused_after reads reads_after (omega (arith, caused, later)) ends finishes)
drains_at found.Limit then_of stands hand rest asked left reads reads_then reads_after answers answers_after refused refused_after is drained caused later ends finishes short below =
    absurd (omega (arith, is.2, below))

pub drains_is : {left left_after : Option (List ℕ)} (what : Found) (asked asked_after rest rest_after : List ℕ)
    → Finds what asked asked_after rest rest_after → left_after ≡ left → IsDrained what left
    → (reads reads_then reads_after : ℕ) → IsCaused what reads reads_then → reads_then ≤ reads_after
    → (then_of : Then) (stands : State) (answers answers_after : List Answer) (refused refused_after : Option ControlCall)
    → EndsAtFault what then_of → Finishes then_of stands answers answers_after refused refused_after
    → (more : List ℕ) → asked_after ≡ asked ++ more → IsShort (rest ++ more) → length asked_after < session_limit
    → IfSome left_after (λ bytes. bytes ≡ []) ⊎ HasReadFault (said_at stands) reads reads_after
drains_is {left} {left_after} what asked asked_after rest rest_after finds same drained reads reads_then reads_after caused later then_of stands answers answers_after refused refused_after ends finishes more grows short below =
    let is : more ≡ finds.0 = append_cancel_left asked more finds.0 (sym grows ∙ finds.1) in
    subst (λ (l : Option (List ℕ)). IfSome l (λ bytes. bytes ≡ []) ⊎ HasReadFault (said_at stands) reads reads_after) (sym same)
    (drains_at what then_of stands (rest ++ finds.0) rest_after asked_after left reads reads_then reads_after answers answers_after
    refused refused_after finds.2 drained caused later ends finishes
    (subst (λ (m : List ℕ). IsShort (rest ++ m)) is short) below)
