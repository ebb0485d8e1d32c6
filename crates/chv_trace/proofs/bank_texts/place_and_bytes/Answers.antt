use Rattle.std.proofs.Common.{◌++◌, ◌∙◌, ap, string_bytes, decimal}
use Rattle.chv_defs_base.specs.Numbers.{pairs}
use Rattle.chv_defs_scene.specs.ScriptText.{field}
use Rattle.chv_trace.proofs.Joined.{printed_same}
use Rattle.chv_trace.proofs.bank_texts.place_and_bytes.Goals as goal

pub returns : goal.returns
returns c =
    printed_same string_bytes _ _ _ c.format.ensures.ok
    (ap (λ l. c.args.word.now ++ (field (decimal c.args.block) ++ (field (decimal c.args.within) ++ field l))) (c.in_ok-pairs.ensures ∙ ap pairs c.as_slice.ensures))
