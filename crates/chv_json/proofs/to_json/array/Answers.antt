use Rattle.std.proofs.Common.{◌≡◌, ℕ, ◌+◌, ◌<◌, List, [], ◌∷◌, ◌++◌, length, get_or, map, take, sym, ap, ◌∙◌}
use Rattle.std.proofs.lemmas.List.{map-append, take_all}
use Rattle.std.proofs.lemmas.Grind.{take_at_read}
use Rattle.serde_json.specs.View.{items_of}
use Rattle.serde_json.specs.Data.{array}
use Rattle.serde_json.proofs.Views.{view-Array}
use Rattle.chv_json.proofs.to_json.array.Goals as goal

-- the items up to the next one
map_next : {X Y : Type 0} (f : X → Y) (xs : List X) (i : ℕ) (x : X) (front next : List Y) → i < length xs → x ≡ get_or xs i x → front ≡ map f (take i xs) → next ≡ front ++ f x ∷ [] → next ≡ map f (take (i + 1) xs)
map_next f xs i x front next below read before pushed =
    pushed
    ∙ ap (λ l. l ++ f x ∷ []) before
    ∙ ap (λ y. map f (take i xs) ++ f y ∷ []) read
    ∙ sym (map-append f (take i xs) (get_or xs i x ∷ []))
    ∙ sym (ap (map f) (take_at_read xs i x below).1)

pub loop-item-preserved : goal.loop-item-preserved
loop-item-preserved g c = map_next g.T.ToJson.json c.args.items.now c.loop-item.item-index c.item-item.result _ _ c.loop-item-test.true c.item-item.is c.loop-item.invariant c.in_ok-push.ensures

pub returns : goal.returns
returns g c = view-Array _ ∙ ap (λ l. array (items_of l)) (c.loop-item.invariant ∙ ap (map g.T.ToJson.json) (take_all c.loop-item.item-index c.args.items.now c.loop-item-test.false))
