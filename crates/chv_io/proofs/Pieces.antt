-- What a read moves from the bytes that are left to those that were given.
use Rattle.std.proofs.Common.{◌≡◌, ℕ, ◌+◌, min, false, List, ◌++◌, length, take, drop, sym, ◌∙◌, ap, arith, refl}
use Rattle.std.proofs.lemmas.Grind.{common_steps}
use Rattle.std.proofs.lemmas.List.{take_min}
use Rattle.std.proofs.Math.Seq.{take-add}
use Rattle.chv_io.specs.FailingCalls.{Calls, is_listed, after_call}
use Rattle.chv_io.specs.MemLink.{Wire, after_read}

pub given_more : (bs piece : List ℕ) (from n : ℕ) → take n piece ≡ take n (drop from bs) → take (from + n) bs ≡ take from bs ++ take n piece
given_more bs piece from n same = take-add from n bs ∙ ap (λ l. take from bs ++ l) (sym same)

pub given_as_fits : (bs : List ℕ) (from size n : ℕ) → n ≡ min size (length (drop from bs)) → take (from + n) bs ≡ take from bs ++ take size (drop from bs)
given_as_fits bs from size n fits = take-add from n bs ∙ ap (λ k. take from bs ++ take k (drop from bs)) fits ∙ ap (λ l. take from bs ++ l) (take_min size (drop from bs))

pub left_as_fits : (bs : List ℕ) (from size n : ℕ) → n ≡ min size (length (drop from bs)) → drop (from + n) bs ≡ drop size (drop from bs)
left_as_fits bs from size n fits = grind (arith, common_steps)

-- a read that was answered
pub after_read_is : (wire : Wire) (size : ℕ) (left gave : List ℕ) (calls : Calls) → is_listed wire.calls ≡ false → left ≡ drop (min wire.piece size) wire.left → gave ≡ wire.gave ++ take (min wire.piece size) wire.left → calls ≡ after_call wire.calls (is_listed wire.calls) → record wire { left = left; gave = gave; calls = calls } ≡ after_read wire size
after_read_is wire size left gave calls answered left_is gave_is calls_is = rw (left_is, gave_is, calls_is, answered) refl
