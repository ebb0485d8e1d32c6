use Rattle.std.proofs.Common.{◌≡◌, ◌∙◌, Some, None, sym, ap}
use Rattle.chv_defs_memory.specs.declared.bank.BankReply.TheVariants as reply
use Rattle.chv_defs_memory.specs.BankState.{blocks_in, lowest_pinned, lowest_pinner, pins_of}
use Rattle.chv_defs_memory.specs.LegalBank.{busy_or_sealed}
use Rattle.chv_bank.proofs.RowBlocks.{pinned-same, pinner-same}
use Rattle.chv_bank.proofs.owner.serve_seal.Goals as goal

pub returns-in-Some-clause-answer : goal.returns-in-Some-clause-answer
returns-in-Some-clause-answer c = λ before is.
    let found : lowest_pinned c.args.bank (pins_of before) (blocks_in c.args.bank c.args.span) ≡ Some c.in-Some.block =
    sym (pinned-same c.args.bank c.args.state.now.pins (pins_of before) (blocks_in c.args.bank c.args.span) is.pins) ∙ sym c.first_pinned.ensures ∙ c.in-Some.is in
    let whose : c.lowest_pinner.result ≡ lowest_pinner c.args.bank (pins_of before) c.in-Some.block = c.lowest_pinner.ensures ∙ pinner-same c.args.bank c.in-Some.block c.args.state.now.pins (pins_of before) is.pins in
    ap (reply.Busy c.in-Some.block) whose ∙ sym (ap (busy_or_sealed c.args.bank (pins_of before)) found)

pub returns-in-None-clause-answer : goal.returns-in-None-clause-answer
returns-in-None-clause-answer c = λ before is.
    let none : lowest_pinned c.args.bank (pins_of before) (blocks_in c.args.bank c.args.span) ≡ None =
    sym (pinned-same c.args.bank c.args.state.now.pins (pins_of before) (blocks_in c.args.bank c.args.span) is.pins) ∙ sym c.first_pinned.ensures ∙ c.in-None.is in
    sym (ap (busy_or_sealed c.args.bank (pins_of before)) none)
