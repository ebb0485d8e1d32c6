-- Stretches that follow each other end in ascending order.
use Rattle.std.proofs.Common.{◌≡◌, ℕ, ◌+◌, ◌<◌, ◌≤◌, Bool, true, false, List, [], ◌∷◌, arith, suc, zero, length, get_or}
use Rattle.std.specs.List.{prefix_len}
use Rattle.std.specs.List.Sorted.{IsNonDecreasingBy, IsPartitionPoint}
use Rattle.std.proofs.lemmas.List.Sorted.{IsNonDecreasingBy-from_all_adjacent}
use Rattle.std.proofs.lemmas.List.Sums.{prefix_len_is}
use Rattle.chv_lists.specs.Locate.{Follow}

adjacent : {X : Type 0} (start end : X → ℕ) (low : ℕ) (xs : List X) → Follow start end low xs → (k : ℕ) (d : X) → k + 1 < length xs → end (get_or xs k d) ≤ end (get_or xs (k + 1) d)
adjacent start end low [] o k d h = absurd (omega arith)
adjacent start end low (x ∷ []) o k d h = absurd (omega arith)
adjacent start end low (x ∷ y ∷ xs) o zero d h = omega (arith, o.2.0, o.2.1)
adjacent start end low (x ∷ y ∷ xs) o (suc k) d h =
    let e : suc k + 1 ≡ suc (k + 1) = omega arith in
    let more : k + 1 < length (y ∷ xs) = omega arith in
    rw e (adjacent start end (end x) (y ∷ xs) o.2 k d more)

pub ends-ascend : {X : Type 0} (start end : X → ℕ) (low : ℕ) (xs : List X) → Follow start end low xs → IsNonDecreasingBy end xs
ends-ascend start end low xs o = IsNonDecreasingBy-from_all_adjacent end xs (adjacent start end low xs o)

-- a point before which all pass a test, and behind which none does, is how many pass it
pub prefix_len-point : {X : Type 0} (p : X → Bool) (xs : List X) (place : ℕ) → place ≤ length xs → IsPartitionPoint (λ x. p x ≡ true) (λ x. p x ≡ false) xs place → prefix_len p xs ≡ place
prefix_len-point p [] place short point = omega arith
prefix_len-point p (x ∷ xs) place short point = prefix_len_is p (x ∷ xs) place x short (λ k h. point.0 k x (omega arith) h) (λ h. point.1 place x (omega arith) h)
