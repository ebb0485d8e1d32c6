use Rattle.std.proofs.Common.{refl}
use Rattle.std.proofs.lemmas.List.{take_rest}
use Rattle.chv_io.proofs.Pieces.{given_more, given_as_fits, left_as_fits, after_read_is}
use Rattle.chv_io.proofs.mem_link.MemLinkSource.take.Goals as goal

pub returns-clause-also : goal.returns-clause-also
returns-clause-also c =
    let moved = rw (take_rest, c.as_slice.ensures) at c.copy_piece-count.ensures.copied in
    let fits = rw (take_rest, c.as_slice.ensures) at c.copy_piece-count.ensures.count in
    rw (← c.self.view_is) (given_more _ _ _ _ moved, record { put_stays = refl; closed_stays = refl; later = c.answer.ensures.cause.later }, c.in_ok-answer.ensures.cause.kept, record { most_stays = refl; full = rw c.copy_piece-count.auto.to fits })

pub returns-clause-after : goal.returns-clause-after
returns-clause-after c =
    let fits = rw (take_rest, c.as_slice.ensures) at c.copy_piece-count.ensures.count in
    rw (← c.self.view_is) (after_read_is _ _ _ _ _ (c.in_ok-answer.ensures.answered.0 refl) (left_as_fits _ _ _ _ fits) (given_as_fits _ _ _ _ fits) c.answer.ensures.after)
