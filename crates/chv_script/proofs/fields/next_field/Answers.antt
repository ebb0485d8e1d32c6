use Rattle.std.proofs.Common.{◌∙◌, ◌∷◌, ◌+◌, ap, sym, take, arith}
use Rattle.std.proofs.lemmas.List.{take_rest}
use Rattle.chv_defs_scene.specs.ScriptReading.{fields_of}
use Rattle.chv_script.proofs.FieldLemmas.{field_at, only_field, whole}
use Rattle.chv_script.proofs.fields.next_field.Goals as goal

pub returns-then-b-eq-SPACE : goal.returns-then-b-eq-SPACE
returns-then-b-eq-SPACE c =
    field_at c.args.text.now c.loop-i.i c.loop-i-test.true c.loop-i.invariant c.if-b-eq-SPACE.true
    ∙ ap (λ rest. take c.loop-i.i c.args.text.now ∷ fields_of rest) (sym (take_rest c.args.text.now (c.loop-i.i + 1)))

pub returns : goal.returns
returns c = only_field c.args.text.now (whole c.args.text.now c.loop-i.i (omega arith) c.loop-i.invariant)
