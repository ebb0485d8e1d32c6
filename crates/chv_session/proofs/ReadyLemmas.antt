-- Behind an answered request no Settle is owed.
use Rattle.std.proofs.Common.{◌≡◌, Bool, false, ℕ, List, [], ◌∷◌, ◌++◌, Result, Ok, Err, inl, inr, sym, ap, ◌∙◌, append_assoc}
use Rattle.std.proofs.lemmas.List.{append-nil}
use Rattle.chv_defs_base.specs.declared.rule.Rule.{Rule}
use Rattle.chv_defs_api.specs.declared.control.ControlCall.{ControlCall}
use Rattle.chv_defs_api.specs.declared.control.ControlReply.TheVariants as reply
use Rattle.chv_defs_api.specs.Desks.{Answer, is_held}
use Rattle.chv_defs_api.specs.Routes.{call_of_request}
use Rattle.chv_defs_api.specs.SessionBytes.{AnsweredBy}
use Rattle.chv_session.specs.declared.next.Next.{Next}
use Rattle.chv_session.specs.declared.next.Next.TheVariants as next
use Rattle.chv_session.specs.declared.state.State.{State}
use Rattle.chv_session.specs.Moment.{Moment}
use Rattle.chv_session.specs.Step.{Answers, Step, IsReady}
use Rattle.chv_session.proofs.DeskLemmas.{held_behind}

answered_ready : (asks : Result ControlCall Rule) (last : Bool) (before made : List Answer) (bytes : List ℕ) → is_held before ≡ false
    → AnsweredBy asks last made bytes → is_held (before ++ made) ≡ false
answered_ready (Err rule) last before made bytes free by = ap is_held (ap (λ m. before ++ m) by.0 ∙ append-nil before) ∙ free
answered_ready (Ok c) last before made bytes free (answer, (quiet, inl own), is) =
    ap is_held (ap (λ m. before ++ m) own.1) ∙ held_behind before answer ∙ quiet
answered_ready (Ok c) last before made bytes free (answer, (quiet, inr settled), is) =
    let first : Answer = record { call = c; reply = reply.Holding } in
    ap is_held (ap (λ m. before ++ m) settled.1 ∙ sym (append_assoc before (first ∷ []) (answer ∷ [])))
    ∙ held_behind (before ++ first ∷ []) answer ∙ quiet

answer_ready : (stands : State) (hand rest reply : List ℕ) (before made : List Answer) → is_held before ≡ false
    → Answers stands hand rest reply made → is_held (before ++ made) ≡ false
answer_ready stands hand rest reply before made free (inl (request, begins, answered, is)) =
    answered_ready (call_of_request request) request.last before made reply free answered
answer_ready stands hand rest reply before made free (inr bad) = ap is_held (ap (λ m. before ++ m) bad.3 ∙ append-nil before) ∙ free

pub step_ready : (what : Next) (before after : Moment) → Step what before after → is_held before.answers ≡ false
    → IsReady what after.answers
step_ready next.Answered before after step free =
    ap is_held step.calls
    ∙ answer_ready after.talk.state (before.talk.rest ++ step.more) after.talk.rest step.reply before.answers step.made free step.outcome.0
step_ready (next.Ended how) before after step free = tt
