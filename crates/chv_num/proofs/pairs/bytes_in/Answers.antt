use Rattle.std.proofs.Common.{◌++◌, ◌∷◌, [], ◌+◌, ◌*◌, sym, ◌∙◌, ap₂}
use Rattle.chv_num.proofs.Front.{pair_read}
use Rattle.chv_num.proofs.pairs.bytes_in.Goals as goal

pub loop-rest-preserved : goal.loop-rest-preserved
loop-rest-preserved c =
    pair_read c.loop-rest.rest.now c.loop-rest.bytes.items _ _ c.in-len2-up.len_at_least (sym c.is_hex.ensures ∙ c.if-not-is_hex.false) (sym c.is_hex-else-not-is_hex.ensures ∙ c.if-not-is_hex-2.false)
    (c.in_ok-push.ensures.items ∙ ap₂ (λ high low. c.loop-rest.bytes.items ++ (high * 16 + low) ∷ []) c.digit.ensures c.digit-in-len2-up.ensures) c.loop-rest.invariant
