use Rattle.std.proofs.Common.{[], ◌∷◌, ◌++◌, replicate, ap, ◌∙◌}
use Rattle.std.proofs.lemmas.List.{replicate_more}
use Rattle.chv_store.proofs.mem_disk.blank_sectors.Goals as goal

pub loop-preserved : goal.loop-preserved
loop-preserved c =
    c.in_ok-push.ensures.items ∙ ap (λ l. l ++ replicate 512 0 ∷ []) c.loop.invariant
    ∙ replicate_more c.loop.counter (replicate 512 0)
