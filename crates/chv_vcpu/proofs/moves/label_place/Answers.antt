use Rattle.std.proofs.Common.{◌≡◌, ◌<◌, true, length, get_or, refl, sym, ap, ◌∙◌, arith, rules}
use Rattle.std.proofs.lemmas.List.{get_or_read_under}
use Rattle.chv_defs_guest.specs.Instruction.{is_label}
use Rattle.chv_defs_scene.specs.declared.scene.Line.TheVariants as line
use Rattle.chv_vcpu.proofs.LabelLemmas.{found, nowhere}
use Rattle.chv_vcpu.proofs.moves.label_place.Goals as goal

pub returns-then-is_label : goal.returns-then-is_label
returns-then-is_label c =
    let inside : c.loop-i.i < length c.args.script.now = search rules in
    let here : is_label c.args.name.now (get_or c.args.script.now c.loop-i.i line.Halt) ≡ true =
    ap (is_label c.args.name.now) (sym (get_or_read_under c.args.script.now c.loop-i.i (length c.args.script.now) c.index-script-i.result line.Halt c.index-script-i.is inside refl))
    ∙ sym c.is_label.ensures ∙ c.if-is_label.true in
    sym (found c.args.script.now c.args.name.now c.loop-i.i inside c.loop-i.invariant here)

pub returns : goal.returns
returns c = sym (nowhere c.args.script.now c.args.name.now (λ k h. c.loop-i.invariant k (omega (arith, h, c.loop-i-test.false))))
