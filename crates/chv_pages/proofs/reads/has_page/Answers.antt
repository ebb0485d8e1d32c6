-- crates/chv_pages/proofs/reads/has_page/Answers.antt
use Rattle.std.proofs.Common.{◌∙◌, ap}
use Rattle.std.specs.Prelude.{is_ok}
use Rattle.chv_pages.proofs.Search.{has-located}
use Rattle.chv_pages.proofs.reads.has_page.Goals as goal

pub returns : goal.returns
returns c = c.is_ok.ensures.value ∙ ap is_ok c.locate.ensures.place ∙ has-located c.args.held.now c.args.number c.requires
