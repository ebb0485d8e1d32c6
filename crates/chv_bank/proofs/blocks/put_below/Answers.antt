use Rattle.std.proofs.Common.{arith}
use Rattle.chv_defs_memory.specs.BankState.{most_blocks}
use Rattle.chv_bank.proofs.Sets.{without_span-len, with_span-len, below-has}
use Rattle.chv_bank.proofs.blocks.put_below.Goals as goal

pub insert_range-requires : goal.insert_range-requires
insert_range-requires c = omega (arith, without_span-len most_blocks c.args.set.now c.remove_range.new.self (record { first = 0; count = most_blocks }) c.requires.size c.remove_range.ensures, c.requires.small)

pub returns-clause-len : goal.returns-clause-len
returns-clause-len c = with_span-len most_blocks c.remove_range.new.self c.insert_range.new.self (record { first = 0; count = c.args.n }) (without_span-len most_blocks c.args.set.now c.remove_range.new.self (record { first = 0; count = most_blocks }) c.requires.size c.remove_range.ensures) c.insert_range.ensures

pub returns-clause-below : goal.returns-clause-below
returns-clause-below c = λ k small. below-has most_blocks c.args.n k c.args.set.now c.remove_range.new.self c.insert_range.new.self c.requires.size c.remove_range.ensures c.insert_range.ensures small
