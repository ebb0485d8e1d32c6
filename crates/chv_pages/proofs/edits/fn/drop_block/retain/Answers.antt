use Rattle.std.proofs.Common.{rules}
use Rattle.chv_pages.proofs.edits.fn.drop_block.retain.Goals as goal

pub returns : goal.returns
returns c = search rules
