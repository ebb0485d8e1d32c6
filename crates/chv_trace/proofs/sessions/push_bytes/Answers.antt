use Rattle.std.proofs.Common.{◌++◌, codes, append_assoc, sym, refl}
use Rattle.chv_defs.specs.TraceText.{pairs_or_dash}
use Rattle.chv_trace.proofs.Putting.{adds_two, first_broken, next_broken, last_added, last_broken}
use Rattle.chv_trace.proofs.sessions.push_bytes.Goals as goal

pub returns-in_err-push-clause-part : goal.returns-in_err-push-clause-part
returns-in_err-push-clause-part g c =
    first_broken _ c.in_err-push.ensures.part (pairs_or_dash c.args.bytes.now ++ codes "\n") _
    (sym (append_assoc c.args.word.now (pairs_or_dash c.args.bytes.now) (codes "\n")))

pub returns-in_err-push_pairs-clause-part : goal.returns-in_err-push_pairs-clause-part
returns-in_err-push_pairs-clause-part g c = next_broken _ c.in_ok-push.ensures.ok c.in_err-push_pairs.ensures.part (codes "\n") _ refl

pub returns-clause-ok : goal.returns-clause-ok
returns-clause-ok g c = last_added _ _ _ _ (adds_two c.in_ok-push.ensures.ok c.in_ok-push_pairs.ensures.ok) c.push-2.ensures.ok _ refl

pub returns-clause-part : goal.returns-clause-part
returns-clause-part g c = last_broken _ _ _ (adds_two c.in_ok-push.ensures.ok c.in_ok-push_pairs.ensures.ok) c.push-2.ensures.part _ refl
