-- crates/chv_pages/proofs/edits/put_page/Answers.antt
use Rattle.std.proofs.Common.{◌∙◌, sym, subst}
use Rattle.chv_pages.specs.Order.{AreInOrder}
use Rattle.chv_pages.proofs.Puts.{put-found, put-missed}
use Rattle.chv_pages.proofs.edits.put_page.Goals as goal

pub locate-requires : goal.locate-requires
locate-requires c = subst AreInOrder (sym c.as_slice.ensures.value) c.requires.order

pub returns-in-Ok-clause-items : goal.returns-in-Ok-clause-items
returns-in-Ok-clause-items c = put-found c.args.held.now.items c.as_slice.result.now c.in-Ok.place c.args.number c.args.page c.as_slice.ensures.value (sym c.locate.ensures.place ∙ c.in-Ok.is)

pub returns-in-Ok-insert-clause-items : goal.returns-in-Ok-insert-clause-items
returns-in-Ok-insert-clause-items c = rw c.in-Ok-insert.ensures.items (put-missed c.args.held.now.items c.as_slice.result.now c.in-Err.place c.args.number c.args.page c.as_slice.ensures.value (sym c.locate.ensures.place ∙ c.in-Err.is))
