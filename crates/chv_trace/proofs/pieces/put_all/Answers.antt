use Rattle.std.proofs.Common.{◌∙◌, string_bytes}
use Rattle.chv_trace.proofs.Putting.{put_in_part}
use Rattle.chv_trace.proofs.pieces.put_all.Goals as goal

pub returns-in_err-put-clause-part : goal.returns-in_err-put-clause-part
returns-in_err-put-clause-part g c = put_in_part _ _ c.in_err-put.field-0.0 _ _ (string_bytes c.args.buffer.now) _ (c.as_bytes.ensures.value ∙ c.as_str.ensures.value) c.in_err-put.ensures.bytes
