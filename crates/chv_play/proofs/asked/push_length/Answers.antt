use Rattle.std.proofs.Common.{◌∙◌, decimal}
use Rattle.chv_defs_api.specs.Replies.{length_text}
use Rattle.chv_play.proofs.PartLemmas.{header_parts}
use Rattle.chv_play.proofs.asked.push_length.Goals as goal

pub returns : goal.returns
unfolding length_text
returns c =
    header_parts _ _ c.as_bytes.result.now length_text (decimal c.args.length) (c.as_bytes.ensures.value ∙ c.in_ok-header.ensures.ok)
    c.in_ok-extend_from_slice.ensures.items
