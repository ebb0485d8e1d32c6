use Rattle.std.proofs.Common.{◌∙◌, sym, Some, None}
use Rattle.chv_addr.proofs.RunSearch.{touches-by}
use Rattle.chv_addr.proofs.search.touches_ram.Goals as goal

pub returns-in-Some : goal.returns-in-Some
returns-in-Some c = touches-by c.args.runs.now c.args.addr c.args.last (Some c.in-Some.run') c.requires (sym c.next_run.ensures ∙ c.in-Some.is)

pub returns-in-None : goal.returns-in-None
returns-in-None c = touches-by c.args.runs.now c.args.addr c.args.last None c.requires (sym c.next_run.ensures ∙ c.in-None.is)
