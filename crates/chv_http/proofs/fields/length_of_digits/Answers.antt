use Rattle.std.proofs.Common.{◌+◌, ◌-◌, ◌*◌, ◌≤◌, length, get_or, sym, ap, ◌∙◌, arith}
use Rattle.std.proofs.lemmas.List.{take_all, drop_all}
use Rattle.std.specs.Str.Parse.{digits_value}
use Rattle.std.specs.List.{list_all}
use Rattle.std.specs.Char.{is_ascii_digit}
use Rattle.chv_http.proofs.DigitLemmas.{value_more, digits_more, too_large, whole_number, some_digit}
use Rattle.chv_http.proofs.fields.length_of_digits.Goals as goal

pub returns-in-None : goal.returns-in-None
returns-in-None c =
    let i = c.loop-digit.digit-index in
    let digits = c.args.digits.now in
    let low : 48 ≤ get_or digits i 0 = c.if-not-is_ascii_digit.ensures.cases.0 in
    let high : get_or digits i 0 ≤ 57 = c.if-not-is_ascii_digit.ensures.cases.1 in
    too_large digits (i + 1) (10 * c.loop-digit.value + (get_or digits i 0 - 48))
    (omega (arith, value_more digits i c.loop-digit-test.true low high, c.loop-digit.invariant.value)) (omega (arith, c.in-None.ensures))

pub loop-digit-preserved : goal.loop-digit-preserved
loop-digit-preserved c =
    let i = c.loop-digit.digit-index in
    let digits = c.args.digits.now in
    let low : 48 ≤ get_or digits i 0 = c.if-not-is_ascii_digit.ensures.cases.0 in
    let high : get_or digits i 0 ≤ 57 = c.if-not-is_ascii_digit.ensures.cases.1 in
    record {
      value = omega (arith, value_more digits i c.loop-digit-test.true low high, c.loop-digit.invariant.value);
      small = omega (arith, c.in-Some.ensures);
      digits = sym (digits_more digits i c.loop-digit-test.true low high) ∙ c.loop-digit.invariant.digits;
    }

pub returns : goal.returns
returns c =
    whole_number c.args.digits.now c.loop-digit.value (some_digit (length c.args.digits.now) c.if-is_empty.ensures)
    (sym c.loop-digit.invariant.digits ∙ ap (list_all is_ascii_digit) (drop_all _ c.args.digits.now c.loop-digit-test.false))
    (c.loop-digit.invariant.value ∙ ap (digits_value 10) (take_all _ c.args.digits.now c.loop-digit-test.false))
    c.loop-digit.invariant.small
