use Rattle.chv_defs_scene.specs.SceneText.{get_front}
use Rattle.chv_play.proofs.PartLemmas.{two_parts}
use Rattle.chv_play.proofs.asked.push_get.Goals as goal

pub returns : goal.returns
unfolding get_front
returns c = two_parts _ _ _ _ _ c.in_ok-push_front.ensures c.in_ok-extend_from_slice.ensures.items
