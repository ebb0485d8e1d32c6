-- crates/chv_pages/proofs/reads/find/Answers.antt
use Rattle.chv_pages.proofs.Search.{find-located}
use Rattle.chv_pages.proofs.reads.find.Goals as goal

pub returns : goal.returns
returns c = rw (c.ok.ensures.value, c.locate.ensures.place) (find-located c.args.held.now c.args.number c.requires)
