use Rattle.std.proofs.Common.{ap, ◌∙◌}
use Rattle.http.specs.StatusCode.{reason_phrase}
use Rattle.chv_http.proofs.ReplyLemmas.{no_phrase, same_phrase, text_of}
use Rattle.chv_http.proofs.reply.phrase.Goals as goal

pub returns-then-not-is_sent : goal.returns-then-not-is_sent
returns-then-not-is_sent c = no_phrase c.args.status (λ sent. cc (c.is_sent.ensures.1 sent))

pub returns-in-Ok : goal.returns-in-Ok
returns-in-Ok c =
    let sent = c.is_sent.ensures.0 c.if-not-is_sent.false in
    text_of c.canonical_reason.result _ _ _
    (c.canonical_reason.ensures.value ∙ ap reason_phrase (c.in-Ok.ensures.1) ∙ same_phrase c.args.status sent)
    c.unwrap_or.ensures
