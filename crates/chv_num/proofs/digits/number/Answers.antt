use Rattle.std.proofs.Common.{◌∙◌, ap, ◌*◌, ◌+◌}
use Rattle.std.specs.Str.Parse.{digits_value}
use Rattle.chv_num.proofs.Values.{if_small, large_value, whole_value}
use Rattle.chv_num.proofs.digits.number.Goals as goal

pub returns-in-None : goal.returns-in-None
returns-in-None c =
    large_value c.args.base c.loop-byte.value (digits_value c.args.base c.args.text.now) c.args.text.now c.loop-byte.byte-index c.requires c.loop-byte-test.true c.loop-byte.invariant.0
    (c.in-None.ensures ∙ ap (λ d. if_small (c.loop-byte.value * c.args.base + d)) c.digit.ensures)

pub returns : goal.returns
returns c =
    whole_value c.args.base c.loop-byte.value (digits_value c.args.base c.args.text.now) c.args.text.now c.loop-byte.byte-index c.loop-byte-test.false c.loop-byte.invariant.0 c.loop-byte.invariant.1
