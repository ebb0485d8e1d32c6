use Rattle.std.proofs.Common.{◌≡◌, ◌∙◌, sym, refl, false, Option, None, Some, is_some}
use Rattle.chv_play.proofs.PlayedLemmas.{fewer_rounds}
use Rattle.chv_play.proofs.round.rounds.Goals as goal

none_is : {A : Type 0} (o : Option A) → is_some o ≡ false → o ≡ None
none_is None e = refl
none_is (Some a) e = absurd (cc e)

pub loop-desk-smaller : goal.loop-desk-smaller
loop-desk-smaller g c =
    fewer_rounds c.loop-desk.seats c.round.new.seats
    (c.in_ok-full.ensures.visits (none_is _ (sym c.is_some.ensures ∙ c.if-is_some.false)))
    (c.loop-desk-test.ensures.going refl)
