use Rattle.std.proofs.Common.{◌∙◌, ap}
use Rattle.std.specs.Prelude.{not, find}
use Rattle.chv_defs_memory.specs.BankState.{is_open, most_blocks}
use Rattle.chv_defs_memory.specs.BlockSets.{has}
use Rattle.chv_bank.proofs.Ranges.{find_same}
use Rattle.chv_bank.proofs.access.find_closed.Goals as goal

pub first_not_in-requires : goal.first_not_in-requires
first_not_in-requires c = c.span_of.ensures.zone c.args.bank c.requires.access c.requires.call

pub returns : goal.returns
returns c = λ before is.
    c.first_not_in.ensures
    ∙ find_same (λ block. not (has c.args.state.now.open_blocks block)) (λ block. not (is_open c.args.bank before block)) c.args.bank most_blocks c.span_of.result.first c.span_of.result.count (c.span_of.ensures.zone c.args.bank c.requires.access c.requires.call) (λ k small. ap not (is.opened k small))
    ∙ ap (find (λ block. not (is_open c.args.bank before block))) (c.span_of.ensures.blocks c.args.bank c.requires.access c.requires.call)
