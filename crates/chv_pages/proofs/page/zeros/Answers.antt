use Rattle.std.proofs.Common.{arith}
use Rattle.chv_pages.proofs.Bytes.{is_blank-replicate}
use Rattle.chv_pages.proofs.page.zeros.Goals as goal

pub returns-clause-zero : goal.returns-clause-zero
returns-clause-zero c = grind (arith, is_blank-replicate)
