use Rattle.std.proofs.Common.{◌∙◌, arith, length-drop}
use Rattle.std.proofs.lemmas.List.{take_rest}
use Rattle.chv_io.proofs.Known.{Appends-more}
use Rattle.chv_io.proofs.std_sink.write_through.Goals as goal

pub loop-done-preserved : goal.loop-done-preserved
loop-done-preserved g c = (
  let fits = rw (take_rest, length-drop) at c.in_ok-done.ensures.bound in omega (arith, fits),
  Appends-more _ _ _ _ _ _ c.loop-done.invariant.1 c.in_ok-done.ensures.given,
  c.in_ok-done.ensures.counted ∙ c.loop-done.invariant.2,
)
