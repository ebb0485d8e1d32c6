use Rattle.std.proofs.Common.{◌++◌, ◌∙◌, ap, decimal, length, string_bytes}
use Rattle.chv_defs_api.specs.Replies.{type_text, length_text, line_end}
use Rattle.chv_http.proofs.ReplyLemmas.{behind_length}
use Rattle.chv_http.proofs.reply.push_json.Goals as goal

pub returns : goal.returns
unfolding type_text length_text
returns c =
    c.in_ok-write.ensures.bytes
    ∙ ap (λ t. string_bytes c.args.reply.now ++ ((type_text ++ line_end ++ length_text) ++ t))
    (behind_length (decimal (length c.args.body.now)) c.args.body.now)
