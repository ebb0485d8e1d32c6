use Rattle.std.proofs.Common.{◌∙◌, sym, ap, Err}
use Rattle.chv_control.specs.Shelf.{sectors_of}
use Rattle.chv_play.proofs.AskLemmas.{full_left, is_entered, never_again, never_not_yet, never_over}
use Rattle.chv_play.proofs.desk.PlayDesk.make.Goals as goal

pub returns-in-Ok : goal.returns-in-Ok
returns-in-Ok g c =
    let both = is_entered _ c.args.self.now c.args.call.now c.apply.new.self c.in-Ok.reply (rw c.in-Ok.is at c.in_ok-reply.ensures.answer) (rw c.in-Ok.is at c.in_ok-reply.ensures.entered) in
    (both.0, both.1, rw c.in-Ok.is at (c.in_ok-reply.ensures.fits c.requires.session))

pub refuse-requires : goal.refuse-requires
refuse-requires g c =
    full_left (sectors_of g.D.Disk.sector_count) c.args.self.now c.apply.new.self c.args.call.now c.in-Err-Full.full c.in_ok-reply.field-0 (c.in-Err-Full.is ∙ ap Err c.in-Err-Full.field-0-is)
    c.in_ok-reply.ensures.answer c.in_ok-reply.ensures.refused

pub unreachable-requires : goal.unreachable-requires
unreachable-requires g c =
    never_again _ _ _ (ap Err (sym c.in-Err-Again.field-0-is) ∙ sym c.in-Err-Again.is ∙ c.in_ok-reply.ensures.answer)

pub unreachable-requires-in-Err-NotYet : goal.unreachable-requires-in-Err-NotYet
unreachable-requires-in-Err-NotYet g c =
    never_not_yet _ _ (ap Err (sym c.in-Err-NotYet.field-0-is) ∙ sym c.in-Err-NotYet.is ∙ c.in_ok-reply.ensures.answer)

pub unreachable-requires-in-Err-Over : goal.unreachable-requires-in-Err-Over
unreachable-requires-in-Err-Over g c =
    never_over _ _ (ap Err (sym c.in-Err-Over.field-0-is) ∙ sym c.in-Err-Over.is ∙ c.in_ok-reply.ensures.answer)
