-- crates/chv_bank/proofs/pins/take_pin/Answers.antt
use Rattle.std.proofs.Common.{◌∙◌, ◌+◌, sym, subst}
use Rattle.chv_lists.specs.Locate.{Follow}
use Rattle.chv_bank.specs.CallerPins.{CallerPins}
use Rattle.chv_bank.proofs.RowLaws.{rows-follow, total-found, without-found, without-missed}
use Rattle.chv_bank.proofs.pins.take_pin.Goals as goal

pub locate-requires : goal.locate-requires
locate-requires c = subst (Follow (λ (row : CallerPins). row.caller) (λ (row : CallerPins). row.caller + 1) 0) (sym c.as_slice.ensures.value) (rows-follow 0 c.args.rows.now.items c.requires)

pub returns-in-Ok-clause-rows : goal.returns-in-Ok-clause-rows
returns-in-Ok-clause-rows c =
    without-found c.args.rows.now.items c.as_slice.result.now c.in-Ok.place c.index_mut.result.now c.remove.new.self c.args.caller c.args.number c.as_slice.ensures.value (sym c.locate.ensures.place ∙ c.in-Ok.is) c.index_mut.ensures.value c.remove.ensures.others

pub returns-in-Ok-clause-fewer : goal.returns-in-Ok-clause-fewer
returns-in-Ok-clause-fewer c =
    total-found c.args.rows.now.items c.as_slice.result.now c.in-Ok.place c.index_mut.result.now c.remove.new.self c.args.caller c.args.number c.remove.result c.as_slice.ensures.value (sym c.locate.ensures.place ∙ c.in-Ok.is) c.index_mut.ensures.value c.remove.ensures.others c.remove.ensures.fewer

pub returns-in-Err-clause-rows : goal.returns-in-Err-clause-rows
returns-in-Err-clause-rows c = sym (without-missed c.args.rows.now.items c.as_slice.result.now c.in-Err.field-0 c.args.caller c.args.number c.requires c.as_slice.ensures.value (sym c.locate.ensures.place ∙ c.in-Err.is))
