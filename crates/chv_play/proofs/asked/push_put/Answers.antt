use Rattle.std.proofs.Common.{◌++◌, decimal, length}
use Rattle.chv_defs_api.specs.Replies.{length_text, line_end}
use Rattle.chv_defs_scene.specs.SceneText.{put_front, host_part}
use Rattle.chv_play.proofs.PartLemmas.{put_parts}
use Rattle.chv_play.proofs.asked.push_put.Goals as goal

pub returns : goal.returns
unfolding put_front
returns c =
    put_parts _ _ _ _ (put_front ++ c.args.name.now ++ host_part) length_text (decimal (length c.args.body.now)) line_end line_end c.args.body.now
    c.in_ok-push_front.ensures c.in_ok-push_length.ensures c.in_ok-extend_from_slice.ensures.items
