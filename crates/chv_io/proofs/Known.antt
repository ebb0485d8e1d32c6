-- What a writer tells, over several writes.
use Rattle.std.proofs.Common.{ℕ, ◌+◌, ◌-◌, List, ◌++◌, length, take, drop, Option, Some, None, sym, ◌∙◌, ap, append_assoc}
use Rattle.std.proofs.lemmas.List.{take_rest}
use Rattle.std.proofs.Math.Seq.{take-add}
use Rattle.std.specs.Io.KnownBytes.{Appends}

-- a write of the next n bytes, after the first k
pub Appends-more : (a b c : Option (List ℕ)) (bs : List ℕ) (k n : ℕ) → Appends a b (take k bs) → Appends b c (take n (take (length bs - k) (drop k bs))) → Appends a c (take (k + n) bs)
Appends-more None b c bs k n first second = tt
Appends-more (Some xs) None c bs k n first second = absurd first
Appends-more (Some xs) (Some ys) None bs k n first second = absurd second
Appends-more (Some xs) (Some ys) (Some zs) bs k n first second =
    second ∙ ap (λ l. ys ++ take n l) (take_rest bs k) ∙ ap (λ l. l ++ take n (drop k bs)) first
    ∙ append_assoc xs (take k bs) (take n (drop k bs)) ∙ ap (λ l. xs ++ l) (sym (take-add k n bs))
