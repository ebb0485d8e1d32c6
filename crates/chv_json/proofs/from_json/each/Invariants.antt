use Rattle.std.proofs.Common.{◌≡◌, drop}
use Rattle.serde_json.specs.View.{items_view}
use Rattle.chv_defs_api.specs.JsonBodies.{each}
use Rattle.chv_json.proofs.Front.{with_front}
use Rattle.chv_json.proofs.from_json.each.Given as goal

abbrev pub invariant-loop-item : goal.invariant-loop-item
invariant-loop-item g l =
    with_front l.found (each g.T.FromJson.meaning (items_view (drop l.item-index l.items))) ≡ each g.T.FromJson.meaning (items_view l.items)
