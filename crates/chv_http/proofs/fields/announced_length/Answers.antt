use Rattle.std.proofs.Common.{ap, sym, ◌∙◌, ◌++◌, option_to_list, option_copied}
use Rattle.chv_defs_api.specs.Requests.{content_length}
use Rattle.chv_http.proofs.FieldLemmas.{values_more, values_same, first_value, second_value}
use Rattle.chv_http.proofs.fields.announced_length.Goals as goal

pub loop-field-preserved-then-not-is_named : goal.loop-field-preserved-then-not-is_named
unfolding content_length
loop-field-preserved-then-not-is_named c =
    c.loop-field.invariant
    ∙ ap (λ r. option_to_list (option_copied c.loop-field.found) ++ r)
    (values_same content_length _ _ _ _ c.loop-field-test.true (sym c.if-not-is_named.ensures))

pub returns-then-is_some : goal.returns-then-is_some
unfolding content_length
returns-then-is_some c =
    second_value c.loop-field.found _ _ _ _ c.if-is_some.ensures c.loop-field.invariant
    (values_more content_length _ _ _ _ c.loop-field-test.true (sym c.if-not-is_named.ensures))

pub loop-field-preserved : goal.loop-field-preserved
unfolding content_length
loop-field-preserved c =
    first_value c.loop-field.found _ _ _ _ _ c.if-is_some.ensures c.loop-field.invariant
    (values_more content_length _ _ _ _ c.loop-field-test.true (sym c.if-not-is_named.ensures)) c.of.ensures
