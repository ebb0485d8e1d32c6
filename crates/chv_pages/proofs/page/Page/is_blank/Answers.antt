use Rattle.std.proofs.Common.{rules}
use Rattle.chv_pages.proofs.page.Page.is_blank.Goals as goal

pub returns : goal.returns
returns c = search rules
