use Rattle.std.proofs.Common.{sym, subst, ap, option_map, length, ◌<◌}
use Rattle.std.proofs.lemmas.Result.{err_from_is_err_and}
use Rattle.chv_script.specs.Fields.{fields_behind}
use Rattle.chv_script.proofs.FieldLemmas.{one_first, one_alone, one_more, field_there}
use Rattle.chv_script.proofs.fields.one.Goals as goal

pub returns-in_err-a : goal.returns-in_err-a
returns-in_err-a c =
    let p = err_from_is_err_and c.from_residual.result c.from_residual.ensures.1 in
    rw (p.1, p.2) (one_first c.in_err-a.field-0.0 (fields_behind (option_map (λ s. s.now) c.args.fields)) c.in_err-a.ensures)

pub returns-in-None : goal.returns-in-None
returns-in-None c = one_alone _ _ _ c.in_ok-a.ensures (ap (λ rest. fields_behind (option_map (λ s. s.now) rest)) c.in-None.is)

pub returns-in-Some : goal.returns-in-Some
returns-in-Some c = one_more _ _ _ c.in_ok-a.ensures (subst (λ rest. 0 < length (fields_behind (option_map (λ s. s.now) rest))) (sym c.in-Some.is) (field_there c.in-Some.field-0.now))
