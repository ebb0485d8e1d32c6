use Rattle.std.proofs.Common.{sym, ◌∙◌}
use Rattle.chv_defs_memory.specs.BankState.{most_blocks}
use Rattle.chv_bank.proofs.Sets.{with_span-len, without_span-len, in-here, in-other, out-here, out-other}
use Rattle.chv_bank.proofs.blocks.put_block.Goals as goal

pub returns-then-there-clause-len : goal.returns-then-there-clause-len
returns-then-there-clause-len c = with_span-len most_blocks c.args.set.now c.insert_range.new.self _ c.requires.size c.insert_range.ensures

pub returns-then-there-clause-here : goal.returns-then-there-clause-here
returns-then-there-clause-here c = in-here most_blocks c.args.block c.args.set.now c.insert_range.new.self c.requires.size c.insert_range.ensures c.requires.small ∙ sym c.if-there.true

pub returns-then-there-clause-others : goal.returns-then-there-clause-others
returns-then-there-clause-others c = λ k small other. in-other most_blocks c.args.block k c.args.set.now c.insert_range.new.self c.requires.size c.insert_range.ensures small other

pub returns-else-there-clause-len : goal.returns-else-there-clause-len
returns-else-there-clause-len c = without_span-len most_blocks c.args.set.now c.remove_range.new.self _ c.requires.size c.remove_range.ensures

pub returns-else-there-clause-here : goal.returns-else-there-clause-here
returns-else-there-clause-here c = out-here most_blocks c.args.block c.args.set.now c.remove_range.new.self c.requires.size c.remove_range.ensures c.requires.small ∙ sym c.if-there.false

pub returns-else-there-clause-others : goal.returns-else-there-clause-others
returns-else-there-clause-others c = λ k small other. out-other most_blocks c.args.block k c.args.set.now c.remove_range.new.self c.requires.size c.remove_range.ensures small other
