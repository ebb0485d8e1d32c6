use Rattle.chv_defs_scene.specs.SceneText.{host_part}
use Rattle.chv_play.proofs.PartLemmas.{three_parts}
use Rattle.chv_play.proofs.asked.push_front.Goals as goal

pub returns : goal.returns
unfolding host_part
returns c =
    three_parts _ _ _ _ _ _ _ c.in_ok-extend_from_slice.ensures.items c.in_ok-extend_from_slice-2.ensures.items c.in_ok-extend_from_slice-3.ensures.items
