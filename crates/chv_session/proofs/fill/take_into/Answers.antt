use Rattle.std.proofs.Common.{◌≤◌, arith, length, refl}
use Rattle.std.proofs.lemmas.Grind.{common_steps}
use Rattle.chv_session.proofs.TakingLemmas.{read_is, takes_read}
use Rattle.chv_session.proofs.PieceLemmas.{took_read, took_lost, took_failed}
use Rattle.chv_session.proofs.fill.take_into.Goals as goal

pub returns-in_err-feed-in-Ok-clause-takes : goal.returns-in_err-feed-in-Ok-clause-takes
returns-in_err-feed-in-Ok-clause-takes g c =
    let held : c.in-Ok.count ≤ length c.read_from.new.buf = c.in-Ok.ensures.bound.0 in
    took_lost _ c.from_residual.ensures.0
    (takes_read (read_is held c.requires.short c.requires.asks (omega (arith, held, c.read_from.auto.buf)) c.in-Ok.ensures.bytes
    c.in-Ok.ensures.gives c.in-Ok.ensures.fills (grind (arith, common_steps))))
    c.in-Ok.ensures.fills.most_stays c.in-Ok.ensures.cause.later

pub returns-in_ok-feed-in-Ok-clause-takes : goal.returns-in_ok-feed-in-Ok-clause-takes
returns-in_ok-feed-in-Ok-clause-takes g c =
    let held : c.in-Ok.count ≤ length c.read_from.new.buf = c.in-Ok.ensures.bound.0 in
    took_read
    (read_is held c.requires.short c.requires.asks (omega (arith, held, c.read_from.auto.buf)) c.in-Ok.ensures.bytes
    c.in-Ok.ensures.gives c.in-Ok.ensures.fills (grind (arith, common_steps)))
    (grind (arith, common_steps, c.in_ok-feed-in-Ok.ensures.fed)) c.in-Ok.ensures.cause.later

pub returns-in-Err-clause-takes : goal.returns-in-Err-clause-takes
returns-in-Err-clause-takes g c =
    took_failed _ _ c.in-Err.ensures.bytes c.in-Err.ensures.gives refl refl c.in-Err.ensures.cause.failed
    c.in-Err.ensures.fills.most_stays c.in-Err.ensures.cause.later
