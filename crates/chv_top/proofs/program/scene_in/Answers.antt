use Rattle.std.proofs.Common.{arith}
use Rattle.chv_top.proofs.FaultLemmas.{any_stop_keeps}
use Rattle.chv_top.proofs.Saying.{read_long, read_whole, scene_read, scene_stops}
use Rattle.chv_top.proofs.program.scene_in.Goals as goal

pub returns-then-is_too_long-clause-err : goal.returns-then-is_too_long-clause-err
returns-then-is_too_long-clause-err g c =
    read_long _ _ c.in-Ok.text.items c.in-Ok.ensures.ok (omega (arith, c.is_too_long.ensures.long c.if-is_too_long.true, c.len.ensures))

pub returns-clause-ok : goal.returns-clause-ok
returns-clause-ok g c =
    scene_read _ _ _ _ c.in-Ok.text.items _ c.as_slice.ensures.value
    (read_whole _ _ c.in-Ok.text.items c.in-Ok.ensures.ok (omega (arith, c.is_too_long.ensures.short c.if-is_too_long.false, c.len.ensures)))
    c.read_played.ensures.answer c.read_played.ensures.few c.or_stop.ensures

pub returns-clause-err : goal.returns-clause-err
returns-clause-err g c =
    scene_stops _ _ _ _ _ _ c.in-Ok.text.items _ c.as_slice.ensures.value
    (read_whole _ _ c.in-Ok.text.items c.in-Ok.ensures.ok (omega (arith, c.is_too_long.ensures.short c.if-is_too_long.false, c.len.ensures)))
    c.read_played.ensures.answer c.or_stop.ensures

pub returns-clause-counts : goal.returns-clause-counts
returns-clause-counts g c = any_stop_keeps _ _ _ c.in-Ok.ensures.kept
