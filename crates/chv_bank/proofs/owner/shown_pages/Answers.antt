use Rattle.std.proofs.Common.{◌∙◌, arith}
use Rattle.chv_defs_memory.specs.BankState.{most_blocks}
use Rattle.chv_bank.proofs.ShownPages.{history-counted, shown-few}
use Rattle.chv_bank.proofs.owner.shown_pages.Goals as goal

pub overflow_cast-result : goal.overflow_cast-result
overflow_cast-result c = omega (arith, c.count.ensures.count, shown-few c.args.state.now.memory most_blocks c.count.ensures.exact c.requires.formed.memory)

pub returns : goal.returns
returns c = λ before is. c.count.ensures.count ∙ history-counted c.args.state.now.memory c.args.bank before c.count.ensures.exact c.requires.formed.memory is.bytes
