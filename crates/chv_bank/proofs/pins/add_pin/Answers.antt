-- crates/chv_bank/proofs/pins/add_pin/Answers.antt
use Rattle.std.proofs.Common.{◌∙◌, ◌+◌, sym, ap, subst}
use Rattle.std.proofs.lemmas.Result.{IfOk-weaker}
use Rattle.chv_lists.specs.Locate.{Follow}
use Rattle.chv_bank.specs.CallerPins.{CallerPins}
use Rattle.chv_bank.proofs.RowLaws.{rows-follow, located, with-found, with-missed}
use Rattle.chv_bank.proofs.pins.add_pin.Goals as goal

pub locate-requires : goal.locate-requires
locate-requires c = subst (Follow (λ (row : CallerPins). row.caller) (λ (row : CallerPins). row.caller + 1) 0) (sym c.as_slice.ensures.value) (rows-follow 0 c.args.rows.now.items c.requires)

pub returns-in-Ok-clause-ok : goal.returns-in-Ok-clause-ok
returns-in-Ok-clause-ok c =
    let there = ap (located c.as_slice.result.now) (sym c.caller-caller.ensures) ∙ sym c.locate.ensures.place ∙ c.in-Ok.is in
    IfOk-weaker c.add.result _ _ (λ _ made. with-found c.args.rows.now.items c.as_slice.result.now c.in-Ok.place c.index_mut.result.now c.add.new.self c.args.pin c.as_slice.ensures.value there c.index_mut.ensures.value made) c.add.ensures.ok

pub returns-in_ok-insert-in-Err-clause-ok : goal.returns-in_ok-insert-in-Err-clause-ok
returns-in_ok-insert-in-Err-clause-ok c =
    let there = ap (located c.as_slice.result.now) (sym c.caller-caller.ensures) ∙ sym c.locate.ensures.place ∙ c.in-Err.is in
    rw c.in_ok-insert-in-Err.ensures.items (with-missed c.args.rows.now.items c.as_slice.result.now c.in-Err.place c.in_ok-row-in-Err.row c.args.pin c.as_slice.ensures.value there c.in_ok-row-in-Err.ensures)
