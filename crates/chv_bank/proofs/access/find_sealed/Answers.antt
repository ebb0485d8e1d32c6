use Rattle.std.proofs.Common.{◌∙◌, ap}
use Rattle.std.specs.Prelude.{find}
use Rattle.chv_defs_memory.specs.BankState.{is_sealed, most_blocks}
use Rattle.chv_defs_memory.specs.BlockSets.{has}
use Rattle.chv_bank.proofs.Ranges.{find_same}
use Rattle.chv_bank.proofs.access.find_sealed.Goals as goal

pub first_in-requires : goal.first_in-requires
first_in-requires c = c.span_of.ensures.zone c.args.bank c.requires.access c.requires.call

pub returns : goal.returns
returns c = λ before is.
    c.first_in.ensures
    ∙ find_same (has c.args.state.now.sealed_blocks) (is_sealed c.args.bank before) c.args.bank most_blocks c.span_of.result.first c.span_of.result.count (c.span_of.ensures.zone c.args.bank c.requires.access c.requires.call) is.sealed
    ∙ ap (find (is_sealed c.args.bank before)) (c.span_of.ensures.blocks c.args.bank c.requires.access c.requires.call)
