use Rattle.std.proofs.Common.{option_map}
use Rattle.std.proofs.lemmas.Result.{err_from_is_err_and}
use Rattle.chv_script.specs.Fields.{fields_behind}
use Rattle.chv_script.proofs.FieldLemmas.{four_first, four_rest, four_are}
use Rattle.chv_script.proofs.fields.four.Goals as goal

pub returns-in_err-a : goal.returns-in_err-a
returns-in_err-a c =
    let p = err_from_is_err_and c.from_residual.result c.from_residual.ensures.1 in
    rw (p.1, p.2) (four_first c.in_err-a.field-0.0 (fields_behind (option_map (λ s. s.now) c.args.fields)) c.in_err-a.ensures)

pub returns-in_err-b : goal.returns-in_err-b
returns-in_err-b c =
    let p = err_from_is_err_and c.from_residual-in_err-b.result c.from_residual-in_err-b.ensures.1 in
    rw (p.1, p.2) (four_rest c.in_err-b.field-0.0 (fields_behind (option_map (λ s. s.now) c.args.fields)) _ _ c.in_ok-a.ensures c.in_err-b.ensures)

pub returns : goal.returns
returns c = four_are (fields_behind (option_map (λ s. s.now) c.args.fields)) _ _ _ c.in_ok-a.ensures c.in_ok-b.ensures
